use mathlib.Core.Path.{sym, ◌∙◌}
use mathlib.Core.Bool.{true≢false}
use Rattle.sheet_format.specs.Bytes.{ascii}
use Rattle.line_rules.proofs.binding_lines.Laws.{variable_named, variable_other, variable_none}
use Rattle.line_rules.proofs.binding_lines.binds_variable.Goals as goal
use Rattle.line_rules.proofs.binding_lines.binds_variable.Goals.{then-begins_with, else-begins_with}

pub returns-then-byte-widen : goal.returns-then-byte-widen
unfolding ascii
returns-then-byte-widen c =
    elim c.if-begins_with.branch [
      | then-begins_with w ↦
          variable_named _ _ _ _ c.begins_with.ensures _ _ _ w.if-begins_with.true w.byte.ensures w.widen.ensures.0 w.value-is
          _ c.if-byte-widen.true c.byte-then-byte-widen.ensures
      | else-begins_with w ↦ absurd (true≢false (sym c.if-byte-widen.true ∙ w.value-is ∙ w.if-begins_with.false))
    ]

pub returns-else-byte-widen : goal.returns-else-byte-widen
unfolding ascii
returns-else-byte-widen c =
    elim c.if-begins_with.branch [
      | then-begins_with w ↦
          variable_other _ _ _ _ c.begins_with.ensures _ _ _ w.if-begins_with.true w.byte.ensures w.widen.ensures.0 w.value-is
          c.if-byte-widen.false
      | else-begins_with w ↦ variable_none _ _ _ _ c.begins_with.ensures _ w.if-begins_with.false c.if-byte-widen.false
    ]
