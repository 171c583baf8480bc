use mathlib.Core.Path.{sym, ap, ◌∙◌}
use Rattle.std.specs.Prelude.{Err}
use Rattle.std.proofs.lemmas.Result.{err_from_is_err_and}
use Rattle.sheet_reader.proofs.sheet_lines.Steps.{line_fits, refused_at, taken_at}
use Rattle.sheet_reader.proofs.sheet_lines.read_at.Goals as goal

pub returns-in_err-l : goal.returns-in_err-l
returns-in_err-l c =
    let p = err_from_is_err_and c.from_residual.result c.from_residual.ensures.1 in
    refused_at _ _ _ _ _ _ _ _ c.read_line.ensures c.in_err-l.was (p.1 ∙ ap Err p.2)

pub take_line-requires : goal.take_line-requires
take_line-requires c =
    (c.requires.0, line_fits _ _ _ c.requires.1 c.requires.2 _ (sym c.in_ok-l.was ∙ c.read_line.ensures))

pub returns : goal.returns
returns c = taken_at _ _ _ _ _ _ _ _ c.read_line.ensures c.in_ok-l.was c.take_line.ensures
