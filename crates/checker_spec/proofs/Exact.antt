-- T6 of the checker: what it says where it turns nothing back.
use Prim.Native.Nat.{ℕ}
use mathlib.Core.Path.{◌≡◌, refl, sym, ◌∙◌}
use mathlib.Core.Bool.{Bool, true, false}
use mathlib.Core.List.{List}
use native.Mathlib.Omega.{arith}
use Rattle.sheet_format.specs.Sheets.{Sheet, Refusal, refusal, Read, sheet, refused, read_sheet, turn_back_if}
use Rattle.answer_texts.specs.Judgements.{Judgement}
use Rattle.text_judging.specs.Judging.{judge}
use Rattle.text_judging.specs.Promises.{CheckerExact}
use Rattle.checker_spec.specs.CheckText.{Checked, judged, check_refused, check_sheet, check_text}
use Rattle.checker_spec.specs.Promises.{AllExact}

-- A refusal is no judgement.
refused_judged : (r : Refusal) (j : Judgement) → check_refused r ≡ judged j → ⊥
refused_judged r j e = let z : ◌≡◌ {A = ℕ} 0 1 = cc in omega arith

-- Where there is an answer, the size check was passed and what follows it is the answer.
passed_gate : (b : Bool) (n : ℕ) (r : Checked) (j : Judgement) → turn_back_if check_refused b n r ≡ judged j → r ≡ judged j
unfolding turn_back_if
passed_gate true n r j e = absurd (refused_judged (refusal n 0) j e)
passed_gate false n r j e = e

sheet_judged : (text : List ℕ) (r : Read) (j : Judgement) → check_sheet text r ≡ judged j → (s : Sheet) × (r ≡ sheet s) × (judge s text ≡ j)
unfolding check_sheet
sheet_judged text (refused r) j e = absurd (refused_judged r j e)
sheet_judged text (sheet s) j e = (s, refl, cc)

-- The judgement of a check is that of the text for the sheet that was read.
judgement : (bytes text : List ℕ) (t w : ℕ) (j : Judgement) → check_text bytes text t w ≡ judged j → (s : Sheet)
    × (read_sheet bytes ≡ sheet s) × (judge s text ≡ j)
unfolding check_text
judgement bytes text t w j e =
    sheet_judged text (read_sheet bytes) j (passed_gate _ _ _ j (passed_gate _ _ _ j (passed_gate _ _ _ j (passed_gate _ _ _ j e))))

-- T6: every judgement of a check is exact.
pub all_exact_lem : CheckerExact → AllExact
all_exact_lem exact bytes text t w j e =
    let r = judgement bytes text t w j e in
    let x = exact bytes r.0 r.1 text in
    record {
      read = (r.0, r.1);
      accepts = ((λ h. x.accepts.0 (r.2 ∙ h)), (λ h. sym r.2 ∙ x.accepts.1 h));
      breaks = λ n. ((λ h. (x.breaks n).0 (r.2 ∙ h)), (λ h. sym r.2 ∙ (x.breaks n).1 h));
      broken = λ h. let b = x.broken h in (b.0, b.1, sym r.2 ∙ b.2);
    }
