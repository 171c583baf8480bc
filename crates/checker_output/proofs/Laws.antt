-- What is printed of a verdict, from the checker's contract.
use Prim.Native.Nat.{ℕ, ◌+◌, ◌≤◌, ◌<◌}
use native.Mathlib.Omega.{arith}
use mathlib.Core.Path.{◌≡◌, refl, sym, ap, ap₂, ◌∙◌}
use mathlib.Core.List.{List, [], ◌∷◌, ◌++◌}
use lib.ListN.{length, take}
use Rattle.sheet_format.specs.Limits.{table_numbers}
use Rattle.sheet_format.specs.Buffers.{demanded}
use Rattle.sheet_format.specs.Bytes.{ascii, decimal}
use Rattle.answer_texts.specs.Spelling.{text_line, join}
use Rattle.answer_texts.specs.Judgements.{valid, invalid}
use Rattle.outcomes.specs.declared.Refusal.{Refusal}
use Rattle.outcomes.specs.declared.Verdict.{Verdict}
use Rattle.outcomes.specs.declared.Verdict.TheVariants.{Valid, Invalid, Refused}
use Rattle.outcomes.specs.Outcomes.{verdict_code, verdict_line, verdict_number}
use Rattle.checker_spec.specs.CheckText.{Checked, judged, check_refused, check_text}
use Rattle.checker_spec.specs.Promises.{handed_back, CheckContract}
use Rattle.checker_spec.specs.Handed.{handed}
use Rattle.line_writer.specs.Appending.{Appends}
use Rattle.line_writer.specs.RefusalLine.{refusal_line, refusal_line_bytes}
use Rattle.line_writer.proofs.Laws.{then_appended, decimal_length}
use Rattle.checker_output.specs.CheckerOutput.{max_lines, valid_line, invalid_line, printed, verdict_output, checker_output}

-- The lines that tell a verdict, as they are written.
pub valid_written : (out out₁ : List ℕ) (to : ℕ) → Appends out 0 (ascii "valid\n") out₁ to
    → (to ≤ refusal_line_bytes) × (take to out₁ ≡ valid_line)
unfolding ascii valid_line text_line join
valid_written out out₁ to a = (omega (arith, a.count), a.front)

pub invalid_written : (out out₁ out₂ out₃ : List ℕ) (line to₁ to₂ to₃ : ℕ) → line < 4294967296
    → Appends out 0 (ascii "not valid\t") out₁ to₁ → Appends out₁ to₁ (decimal line) out₂ to₂ → Appends out₂ to₂ (10 ∷ []) out₃ to₃
    → (to₃ ≤ refusal_line_bytes) × (take to₃ out₃ ≡ invalid_line line)
unfolding ascii invalid_line text_line join
invalid_written out out₁ out₂ out₃ line to₁ to₂ to₃ h a b c =
    let l = decimal_length line h in
    let p = then_appended _ _ _ _ _ _ _ _ (then_appended _ _ _ _ _ _ _ _ a b) c in
    (omega (arith, a.count, b.count, c.count), p.front)

-- A verdict in numbers tells what was checked.
verdict_checked : (v : Verdict) (e : Checked) → handed v ≡ handed_back e → verdict_output v ≡ printed e
unfolding verdict_output printed handed handed_back verdict_code verdict_line verdict_number
verdict_checked Valid (judged valid) h = refl
verdict_checked Valid (judged (invalid k)) h = absurd (let n : ◌≡◌ {A = ℕ} 0 1 = ap (λ x. x.verdict) h in omega arith)
verdict_checked Valid (check_refused r) h = absurd (let n : ◌≡◌ {A = ℕ} 0 3 = ap (λ x. x.verdict) h in omega arith)
verdict_checked (Invalid k) (judged valid) h = absurd (let n : ◌≡◌ {A = ℕ} 1 0 = ap (λ x. x.verdict) h in omega arith)
verdict_checked (Invalid k) (judged (invalid j)) h = ap invalid_line (ap (λ x. x.line) h)
verdict_checked (Invalid k) (check_refused r) h = absurd (let n : ◌≡◌ {A = ℕ} 1 3 = ap (λ x. x.verdict) h in omega arith)
verdict_checked (Refused f) (judged valid) h = absurd (let n : ◌≡◌ {A = ℕ} 3 0 = ap (λ x. x.verdict) h in omega arith)
verdict_checked (Refused f) (judged (invalid k)) h = absurd (let n : ◌≡◌ {A = ℕ} 3 1 = ap (λ x. x.verdict) h in omega arith)
verdict_checked (Refused f) (check_refused r) h = ap₂ refusal_line (ap (λ x. x.number) h) (ap (λ x. x.line) h)

pub verdict_printed : (bytes text table work table' work' : List ℕ) (v : Verdict)
    → CheckContract bytes text table work table' work' (handed v) → length table ≡ table_numbers → length work ≡ demanded max_lines
    → verdict_output v ≡ checker_output bytes text
unfolding checker_output
verdict_printed bytes text table work table' work' v c lt lw =
    verdict_checked v (check_text bytes text (length table) (length work)) c.value
    ∙ ap₂ (λ (t w : ℕ). printed (check_text bytes text t w)) lt lw
