-- What a check hands back, as numbers.
use Prim.Native.Nat.{ℕ}
use mathlib.Core.Path.{◌≡◌, ap, ◌∙◌, subst}
use mathlib.Core.List.{List, [], ◌∷◌}
use Rattle.outcomes.specs.declared.Verdict.{Verdict}
use Rattle.outcomes.specs.Outcomes.{verdict_code, verdict_line, verdict_number}
use Rattle.checker_spec.specs.Handed.{handed}
use Rattle.checker_spec.specs.Promises.{HandedBack, CheckContract}
use Rattle.rules.specs.Results.{put_front}
use Rattle.rules.specs.RulesCheck.{check_numbers, check_of, RulesCheck}

-- The numbers of a verdict.
pub check_reported : (v : Verdict) (l l' : List ℕ) (n a b : ℕ) → n ≡ verdict_code v → a ≡ verdict_line v → b ≡ verdict_number v
    → l' ≡ put_front (n ∷ a ∷ b ∷ []) l
    → (n ≡ (handed v).verdict) × (l' ≡ put_front (check_numbers (handed v)) l)
unfolding handed check_numbers
check_reported v l l' n a b e f g p = (e, rw (← e, ← f, ← g) p)

-- What the checker hands back is determined by its contract.
pub rules_check : (bytes text table work result table' work' result' : List ℕ) (n : ℕ) (h : HandedBack)
    → CheckContract bytes text table work table' work' h → (n ≡ h.verdict) × (result' ≡ put_front (check_numbers h) result)
    → RulesCheck bytes text table work result table' work' result' n
unfolding check_of
rules_check bytes text table work result table' work' result' n h c p =
    record {
      checks = subst (λ x. CheckContract bytes text table work table' work' x) c.value c;
      value = p.0 ∙ ap (λ x. x.verdict) c.value;
      result_end = p.1 ∙ ap (λ x. put_front (check_numbers x) result) c.value;
    }
