-- What a run hands back, as numbers.
use Prim.Native.Nat.{ℕ}
use mathlib.Core.Path.{◌≡◌, ap, ◌∙◌, subst}
use mathlib.Core.List.{List, [], ◌∷◌}
use Rattle.outcomes.specs.declared.Run.{Run}
use Rattle.outcomes.specs.Outcomes.{outcome_code, refusal_number, refusal_line}
use Rattle.engine_spec.specs.EngineRun.{Request}
use Rattle.engine_spec.specs.Handed.{handed}
use Rattle.engine_spec.specs.Promises.{HandedBack, RunContract}
use Rattle.rules.specs.Results.{put_front}
use Rattle.rules.specs.RulesRun.{run_numbers, one_proof, run_of, RulesRun}
use Rattle.rules.specs.RulesAsk.{requested, ask_numbers, RulesAsk}

-- The numbers of a run.
pub run_reported : (r : Run) (l l' : List ℕ) (n a b : ℕ) → n ≡ outcome_code r.outcome → a ≡ refusal_number r.outcome → b ≡ refusal_line r.outcome
    → l' ≡ put_front (n ∷ r.units ∷ r.length ∷ a ∷ b ∷ []) l
    → (n ≡ (handed r).outcome) × (l' ≡ put_front (run_numbers (handed r)) l)
unfolding handed run_numbers
run_reported r l l' n a b e f g p = (e, rw (← e, ← f, ← g) p)

-- What the engine hands back is determined by its contract: for one proof,
pub rules_run : (bytes : List ℕ) (budget : ℕ) (table work answer result table' work' answer' result' : List ℕ) (n : ℕ) (h : HandedBack)
    → RunContract bytes (one_proof budget) table work answer table' work' answer' h
    → (n ≡ h.outcome) × (result' ≡ put_front (run_numbers h) result)
    → RulesRun bytes budget table work answer result table' work' answer' result' n
unfolding run_of
rules_run bytes budget table work answer result table' work' answer' result' n h c p =
    record {
      runs = subst (λ x. RunContract bytes (one_proof budget) table work answer table' work' answer' x) c.value c;
      value = p.0 ∙ ap (λ x. x.outcome) c.value;
      result_end = p.1 ∙ ap (λ x. put_front (run_numbers x) result) c.value;
    }

-- and for a request.
pub rules_ask : (bytes request : List ℕ) (ask : Request) (table work answer result table' work' answer' result' : List ℕ) (n : ℕ)
    (h : HandedBack) → ask ≡ requested request → RunContract bytes ask table work answer table' work' answer' h
    → (n ≡ h.outcome) × (result' ≡ put_front (ask_numbers h) result)
    → RulesAsk bytes request table work answer result table' work' answer' result' n
unfolding run_of
rules_ask bytes request ask table work answer result table' work' answer' result' n h e d p =
    let c = subst (λ x. RunContract bytes x table work answer table' work' answer' h) e d in
    record {
      runs = subst (λ x. RunContract bytes (requested request) table work answer table' work' answer' x) c.value c;
      value = p.0 ∙ ap (λ x. x.outcome) c.value;
      result_end = p.1 ∙ ap (λ x. put_front (ask_numbers x) result) c.value;
    }
