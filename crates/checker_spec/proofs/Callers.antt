-- T6 and T10 for callers: from T1, what they are handed back.
use Prim.Native.Nat.{ℕ, suc, ◌≤◌}
use native.Mathlib.Omega.{arith}
use mathlib.Core.Path.{◌≡◌, refl, sym, ◌∙◌, ap, subst}
use mathlib.Core.List.{List}
use mathlib.Core.Logic.{◌↔◌}
use lib.ListN.{length}
use borrow.Author.Tests.{le-ltb}
use Rattle.sheet_format.specs.Limits.{max_sheet_bytes, table_numbers, max_text_bytes}
use Rattle.sheet_format.specs.Buffers.{demanded}
use Rattle.sheet_format.specs.Sheets.{Sheet, sheet, read_sheet, turn_back_if}
use Rattle.answer_texts.specs.Spelled.{SpellsDerivation, BreaksAfter}
use Rattle.answer_texts.specs.Judgements.{Judgement, valid, invalid}
use Rattle.text_judging.specs.Judging.{judge}
use Rattle.checker_spec.specs.CheckText.{Checked, judged, check_refused, count_lf, check_sheet, check_text}
use Rattle.checker_spec.specs.Promises.{HandedBack, handed_back, CheckContract, AllExact, CallerJudged, CallersJudged}
use Rattle.checker_spec.specs.Promises.{BuffersDoNotMatter}
use Rattle.checker_spec.proofs.Passed.{passed_checks}

-- A judgement by the numbers handed back.
valid_number : (j : Judgement) → ((handed_back (judged j)).verdict ≡ 0) ↔ (j ≡ valid)
unfolding handed_back
valid_number valid = ((λ e. refl), (λ e. refl))
valid_number (invalid k) = ((λ e. absurd (omega arith)), (λ e. absurd (let z : ◌≡◌ {A = ℕ} 0 1 = cc in omega arith)))

invalid_numbers : (j : Judgement) (k : ℕ) → (((handed_back (judged j)).verdict ≡ 1) × ((handed_back (judged j)).line ≡ k)) ↔ (j ≡ invalid k)
unfolding handed_back
invalid_numbers valid k = ((λ e. absurd (let z = e.0 in omega arith)), (λ e. absurd (let z : ◌≡◌ {A = ℕ} 0 1 = cc in omega arith)))
invalid_numbers (invalid i) k = ((λ e. ap invalid e.1), (λ e. (refl, cc)))

judged_number : (j : Judgement) → (handed_back (judged j)).verdict ≡ 3 → ⊥
unfolding handed_back
judged_number valid e = omega arith
judged_number (invalid k) e = omega arith

module _ (bytes text table work table' work' : List ℕ) (r : HandedBack) (c : CheckContract bytes text table work table' work' r) where
  result : Checked
  result = check_text bytes text (length table) (length work)

  -- Nothing turned back, there is a judgement.
  the_judgement : (r.verdict ≡ 3 → ⊥) → (j : Judgement) × (result ≡ judged j) × (r ≡ handed_back (judged j))
  unfolding result handed_back
  the_judgement h = go result refl
    where
      go : (q : Checked) → result ≡ q → (j : Judgement) × (result ≡ judged j) × (r ≡ handed_back (judged j))
      go (judged j) e = (j, e, c.value ∙ ap handed_back e)
      go (check_refused f) e = absurd (h (ap (λ (b : HandedBack). b.verdict) (c.value ∙ ap handed_back e)))

  not_turned_back : (s : Sheet) → read_sheet bytes ≡ sheet s → length bytes ≤ max_sheet_bytes → table_numbers ≤ length table
      → length text ≤ max_text_bytes → demanded (count_lf text) ≤ length work
      → r.verdict ≡ 3 → ⊥
  unfolding turn_back_if check_sheet
  not_turned_back s read short t few w =
      let g : check_text bytes text (length table) (length work) ≡ judged (judge s text) =
      rw (
        passed_checks bytes text (length table) (length work) (record { sheet_fits = short; table_fits = t; text_fits = few }),
        le-ltb (length work) (demanded (count_lf text)) w,
        read,
      ) in
      rw (c.value, g) (judged_number (judge s text))

  caller_judged : AllExact → CallerJudged bytes text table work r
  unfolding result
  caller_judged exact = record {
    is_sheet = λ h.
        let q = the_judgement h in
        (exact bytes text (length table) (length work) q.0 q.1).read;
    accepts = λ s read h.
        let q = the_judgement h in
        let x = exact bytes text (length table) (length work) q.0 q.1 in
        rw (q.2, ← same_sheet x.read.0 s x.read.1 read)
        ((λ v. x.accepts.0 ((valid_number q.0).0 v)), (λ d. (valid_number q.0).1 (x.accepts.1 d)));
    breaks = λ s read h n.
        let q = the_judgement h in
        let x = exact bytes text (length table) (length work) q.0 q.1 in
        rw (q.2, ← same_sheet x.read.0 s x.read.1 read)
        ((λ v. (x.breaks n).0 ((invalid_numbers q.0 (suc n)).0 v)), (λ d. (invalid_numbers q.0 (suc n)).1 ((x.breaks n).1 d)));
    broken = λ s read h d.
        let q = the_judgement h in
        let x = exact bytes text (length table) (length work) q.0 q.1 in
        let e = same_sheet x.read.0 s x.read.1 read in
        let b = x.broken (subst (λ (y : Sheet). SpellsDerivation y text → ⊥) (sym e) d) in
        let v = (invalid_numbers q.0 (suc b.0)).1 b.2 in (
          b.0,
          subst (λ (y : Sheet). BreaksAfter y text b.0) e b.1,
          ap (λ (y : HandedBack). y.verdict) q.2 ∙ v.0,
          ap (λ (y : HandedBack). y.line) q.2 ∙ v.1,
        );
    judges = not_turned_back;
  }
    where
      same_sheet : (x y : Sheet) → read_sheet bytes ≡ sheet x → read_sheet bytes ≡ sheet y → x ≡ y
      same_sheet x y e f = cc

pub callers_judged_lem : AllExact → CallersJudged
callers_judged_lem exact bytes text table work table' work' r c = caller_judged bytes text table work table' work' r c exact

pub buffers_do_not_matter_lem : BuffersDoNotMatter
buffers_do_not_matter_lem bytes text table work table' work' r table₂ work₂ table₂' work₂' r₂ c d lt lw = c.value
    ∙ rw (lt, lw) (sym d.value)
