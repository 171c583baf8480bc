use Rattle.sheet_format.specs.Bytes.{ascii}
use Rattle.line_rules.proofs.quantifier_rules.Laws.{all_wrong, all_right, all_other, all_long, constant_missing}
use Rattle.line_rules.proofs.quantifier_rules.all_line.Goals as goal
use Rattle.line_rules.proofs.quantifier_rules.all_line.Goals.{in_default-via-in-Some+then-j-line+else-widen, in_default-via-in-Some+else-j-line, in_default-via-in_default}

pub returns-then-not-begins_with : goal.returns-then-not-begins_with
unfolding ascii
returns-then-not-begins_with c = all_wrong _ _ _ _ _ _ _ _ _ c.begins_with.ensures c.if-not-begins_with.true (c.broken.ensures _)

pub returns-in-Some : goal.returns-in-Some
unfolding ascii
returns-in-Some c =
    all_right _ _ _ _ _ _ _ _ _ c.begins_with.ensures c.if-not-begins_with.false _ c.scan_symbol.ensures _ _ c.in-Some.is
    _ _ c.widen.ensures.0 c.widen-then-j-line.ensures.0 c.if-j-line.true c.if-widen.true c.bind_goal.ensures

pub returns-in_default : goal.returns-in_default
unfolding ascii
returns-in_default c =
    let broke = c.broken-in_default.ensures c.args.w.now in
    elim c.in_default.branch [
      | in_default-via-in-Some+then-j-line+else-widen w ↦
          all_other _ _ _ _ _ _ _ _ _ c.begins_with.ensures c.if-not-begins_with.false _ c.scan_symbol.ensures _ _ w.in-Some.is
          _ _ w.widen.ensures.0 w.widen-then-j-line.ensures.0 w.if-j-line.true w.if-widen.false broke
      | in_default-via-in-Some+else-j-line w ↦
          all_long _ _ _ _ _ _ _ _ _ c.begins_with.ensures c.if-not-begins_with.false _ c.scan_symbol.ensures _ _ w.in-Some.is
          w.if-j-line.false broke
      | in_default-via-in_default w ↦
          constant_missing _ _ _ _ _ _ _ _ _ c.begins_with.ensures c.if-not-begins_with.false _ c.scan_symbol.ensures w.in_default.is broke
    ]
