-- Past refusals 1 to 5: the sheet's refusal, or the judgement of the text.
use Prim.Native.Nat.{ℕ, ◌*◌, ◌≤◌}
use mathlib.Core.Path.{◌≡◌, refl, ◌∙◌, ap, subst}
use mathlib.Core.List.{List}
use lib.ListN.{length}
use Rattle.sheet_format.specs.Limits.{numbers_per_unit}
use Rattle.outcomes.specs.declared.Refusal.{Refusal}
use Rattle.outcomes.specs.declared.Verdict.{Verdict}
use Rattle.outcomes.specs.declared.Verdict.TheVariants.{Refused as TurnedBack}
use Rattle.outcomes.specs.Outcomes.{verdict_code, verdict_line, verdict_number}
use Rattle.sheet_format.specs.Buffers.{demanded}
use Rattle.sheet_format.specs.Sheets.{read_sheet}
use Rattle.node_table.specs.Decoding.{decode_sheet}
use Rattle.table_builder.specs.declared.node_info.Counts.{Counts}
use Rattle.std.specs.Prelude.{Option, Some, None, Ok, Err}
use Rattle.sheet_reader.specs.Reader.{Read, read_of, WellRead, NamesRead, ReadContract}
use Rattle.text_judging.specs.Judging.{judge}
use Rattle.line_checking.specs.Judging.{Judged, judge_text}
use Rattle.line_checking.specs.Judging.{judged as judgedText}
use Rattle.line_checking.specs.Simulation.{judgement_of, line_feeds}
use Rattle.line_checking.proofs.Simulation.{simulates}
use Rattle.checker_spec.specs.CheckText.{judged, count_lf, check_sheet}
use Rattle.checker_spec.specs.Promises.{handed_back}
use Rattle.checker_spec.specs.Handed.{handed}
use Rattle.checker.specs.Checking.{verdict_at}
use Rattle.checker.proofs.LineFeeds.{count_lf_lines}

-- A verdict is handed back as the judgement that it stands for.
verdict_handed : (n : Option ℕ) → handed (verdict_at n) ≡ handed_back (judged (judgement_of n))
unfolding handed handed_back verdict_at judgement_of verdict_code verdict_line verdict_number
verdict_handed None = refl
verdict_handed (Some k) = refl

-- A sheet that was read: the judgement.
pub text_judged : (bytes text t t' : List ℕ) (x : Read) (k : Counts) (goal : ℕ) (w w' : List ℕ) (n : Option ℕ) (v : Verdict)
    → ReadContract bytes t t' x → x ≡ Ok (k, goal) → demanded (count_lf text) ≤ length w
    → judgedText w' n ≡ judge_text bytes t' k.symbols k.clauses goal text w → v ≡ verdict_at n
    → handed v ≡ handed_back (check_sheet text (read_sheet bytes))
unfolding read_of WellRead NamesRead check_sheet demanded
text_judged bytes text t t' x k goal w w' n v c e room d q =
    let z = subst (ReadContract bytes t t') e c in
    let s = decode_sheet bytes t' k.symbols k.clauses goal in
    let h : numbers_per_unit * line_feeds text ≤ length w = subst (λ (i : ℕ). numbers_per_unit * i ≤ length w) (count_lf_lines text) room in
    let g = simulates bytes s z.read t' k.symbols k.nodes k.clauses goal z.well_made z.names refl text w h in
    let j : judgement_of n ≡ judge s text = ap (λ (a : Judged). judgement_of a.verdict) d ∙ g.verdict in
    rw (q, z.read, ← j) (verdict_handed n)

-- Refusals 6 to 11.
pub sheet_refused : (bytes text t t' : List ℕ) (x : Read) (f : Refusal) → ReadContract bytes t t' x → x ≡ Err f
    → handed (TurnedBack f) ≡ handed_back (check_sheet text (read_sheet bytes))
unfolding read_of check_sheet handed handed_back verdict_code verdict_line verdict_number
sheet_refused bytes text t t' x f c e =
    let z = subst (ReadContract bytes t t') e c in
    rw z.read refl
