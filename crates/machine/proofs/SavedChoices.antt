-- Saving a choice point opens an alternative.
use Prim.Native.Nat.{ℕ, suc, ◌+◌, ◌≤◌, ◌<◌}
use native.Mathlib.Omega.{arith}
use mathlib.Core.Bool.{cond}
use mathlib.Core.Path.{◌≡◌, refl, sym, ◌∙◌, subst}
use mathlib.Core.List.{List, [], ◌∷◌}
use lib.Dec.{eqb}
use lib.ListN.{length, get_or}
use Rattle.search.specs.Configurations.{Configuration}
use Rattle.machine.specs.declared.Registers.{Registers}
use Rattle.machine.specs.Fields as fields
use Rattle.machine.specs.Records.{put_choice, put_chosen, put_position}
use Rattle.machine.specs.RegisterUpdates.{with_mode, with_next, with_trail, with_choice, with_goals, with_path, with_goal, with_member}
use Rattle.machine.specs.ChoicePoints.{save_choice, resume_goal, resume_member, resume_branch, resume}
use Rattle.machine.proofs.Tables.{Table}
use Rattle.machine.proofs.Trail.{Chain, undo_all}
use Rattle.machine.proofs.Stores.{StoreAt}
use Rattle.machine.proofs.Configurations.{store_of, ConfigurationAt}
use Rattle.machine.proofs.ChoicePoints.{Bounded, AlternativesAt, alternatives_more}
use Rattle.memory.proofs.Records.{puts}
use Rattle.memory.specs.Records.{field}

-- The fields of a choice point, from 43 on.
unfoldable pub saved : Registers → List ℕ
saved r =
    r.next ∷ r.trail ∷ r.choice ∷ r.goals ∷ r.path ∷ r.line ∷ r.node ∷ r.frame ∷ r.program ∷ r.level ∷ r.hypothesis ∷ r.clause
    ∷ r.member ∷ r.place ∷ []

-- They are written in a row.
pub save_is : (w : List ℕ) (u : ℕ) (r : Registers) → save_choice w u r ≡ puts (saved r) w u fields.variables
unfolding save_choice put_choice put_chosen put_position puts saved
save_is w u r = refl

-- There are fourteen.
pub saved_length : (r : Registers) → length (saved r) ≡ 14
unfolding saved
saved_length r = refl

-- The registers q, but for what a choice point does not save.
unfoldable pub resumed : Registers → Registers → Registers
resumed r q =
    with_mode (with_member
    (with_goal (with_path (with_goals (with_choice (with_trail (with_next r q.next) q.trail) q.choice) q.goals) q.path q.line)
    q.node q.frame q.program q.level)
    q.hypothesis q.clause q.member q.place) (cond (eqb q.place 0) 0 1)

-- A record that holds them.
abbrev pub SavedAt : List ℕ → ℕ → Registers → Type 0
SavedAt w u q = (i : ℕ) → i < 14 → field w u (fields.variables + i) ≡ get_or (saved q) i 0

-- Resuming gives back what was saved.
resume_saved : (w : List ℕ) (u : ℕ) (r q : Registers) → SavedAt w u q → resume w r u ≡ resumed r q
unfolding resume resume_member resume_goal resume_branch resumed saved
resume_saved w u r q e =
    let e₀ : field w u fields.variables ≡ q.next = e 0 (omega arith) in
    let e₁ : field w u fields.choice_trail ≡ q.trail = e 1 (omega arith) in
    let e₂ : field w u fields.choice_before ≡ q.choice = e 2 (omega arith) in
    let e₃ : field w u fields.choice_goals ≡ q.goals = e 3 (omega arith) in
    let e₄ : field w u fields.choice_path ≡ q.path = e 4 (omega arith) in
    let e₅ : field w u fields.choice_line ≡ q.line = e 5 (omega arith) in
    let e₆ : field w u fields.choice_node ≡ q.node = e 6 (omega arith) in
    let e₇ : field w u fields.choice_frame ≡ q.frame = e 7 (omega arith) in
    let e₈ : field w u fields.choice_program ≡ q.program = e 8 (omega arith) in
    let e₉ : field w u fields.choice_level ≡ q.level = e 9 (omega arith) in
    let f₀ : field w u fields.choice_hypothesis ≡ q.hypothesis = e 10 (omega arith) in
    let f₁ : field w u fields.choice_clause ≡ q.clause = e 11 (omega arith) in
    let f₂ : field w u fields.choice_member ≡ q.member = e 12 (omega arith) in
    let f₃ : field w u fields.choice_place ≡ q.place = e 13 (omega arith) in
    rw (e₀, e₁, e₂, e₃, e₄, e₅, e₆, e₇, e₈, e₉, f₀, f₁, f₂, f₃)

-- The alternative is open: its trail is empty.
pub choice_opened : (T : Table) (n : ℕ) (w : List ℕ) (u k : ℕ) (q : Registers) (c : Configuration) (ds : List Configuration) → u < n
    → SavedAt w u q → ((r : Registers) → ConfigurationAt T n w (resumed r q) c)
    → q.next ≡ (store_of c).next → (store_of c).next ≤ k → Bounded n (store_of c) → StoreAt T n w (store_of c)
    → AlternativesAt T n (store_of c).next w q.choice q.trail ds
    → AlternativesAt T n k w (suc u) q.trail (c ∷ ds)
unfolding Chain undo_all saved
choice_opened T n w u k q c ds l e f x b m s a =
    let e₁ : field w u fields.choice_trail ≡ q.trail = e 1 (omega arith) in
    let e₂ : field w u fields.choice_before ≡ q.choice = e 2 (omega arith) in
    alternatives_more {k = k} {w = w} {h = q.trail} {c = c} {ds = ds} u [] (record {
      low = l;
      resumes = λ r. subst (λ (z : Registers). ConfigurationAt T n w z c) (sym (resume_saved w u r q e)) (f r);
      variables = e 0 (omega arith) ∙ x;
      fewer = b;
      bounded = m;
    }) tt (sym e₁) s (rw (e₁, e₂) a)
