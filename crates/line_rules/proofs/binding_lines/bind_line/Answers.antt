use mathlib.Core.Path.{refl}
use Rattle.line_rules.proofs.binding_lines.Laws.{binds_not, bind_right, bind_high, bind_long, term_missing}
use Rattle.line_rules.proofs.binding_lines.bind_line.Goals as goal
use Rattle.line_rules.proofs.binding_lines.bind_line.Goals.{in_default-via-in-Some+then-j-line+else-k-eq0, in_default-via-in-Some+else-j-line, in_default-via-in_default}

pub returns-then-not-binds_variable : goal.returns-then-not-binds_variable
returns-then-not-binds_variable c =
    binds_not _ _ _ _ _ _ _ _ _ _ _ _ c.binds_variable.ensures c.if-not-binds_variable.true (c.broken.ensures _)

pub returns-in-Some : goal.returns-in-Some
returns-in-Some c =
    bind_right _ _ _ _ _ _ _ _ _ _ _ _ c.binds_variable.ensures c.if-not-binds_variable.false _ c.scan_term.ensures _ _ c.in-Some.is
    _ _ _ refl c.if-j-line.true c.if-k-eq0.true c.bind_frame.ensures c.widen.ensures.0 c.bound.ensures

pub returns-in_default : goal.returns-in_default
returns-in_default c =
    let broke = c.broken-in_default.ensures c.args.w.now in
    elim c.in_default.branch [
      | in_default-via-in-Some+then-j-line+else-k-eq0 w ↦
          bind_high _ _ _ _ _ _ _ _ _ _ _ _ c.binds_variable.ensures c.if-not-binds_variable.false _ c.scan_term.ensures _ _ w.in-Some.is
          broke w.if-j-line.true w.if-k-eq0.false
      | in_default-via-in-Some+else-j-line w ↦
          bind_long _ _ _ _ _ _ _ _ _ _ _ _ c.binds_variable.ensures c.if-not-binds_variable.false _ c.scan_term.ensures _ _ w.in-Some.is
          broke w.if-j-line.false
      | in_default-via-in_default w ↦
          term_missing _ _ _ _ _ _ _ _ _ _ _ _ c.binds_variable.ensures c.if-not-binds_variable.false _ c.scan_term.ensures w.in_default.is broke
    ]
