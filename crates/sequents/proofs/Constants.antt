-- A universal goal has a derivation with every made constant of its level, if it has one with some.
use Prim.Native.Nat.{ℕ, suc, ◌≤◌}
use mathlib.Core.Path.{◌≡◌, refl, ◌∙◌, ap, ap₂, subst, fun_ext}
use mathlib.Core.Bool.{Bool, true, false, ◌&&◌, cond}
use mathlib.Core.List.{List, [], ◌∷◌, map}
use native.Mathlib.Omega.{arith}
use lib.Dec.{eqb}
use borrow.Author.Tests.{eqb-true, eq-eqb}
use Rattle.terms.specs.Lists.{All, update}
use Rattle.terms.specs.Terms.{leaf, substitute}
use Rattle.terms.proofs.Terms.{leaves_level, substitute_where, substitute_leaf}
use Rattle.formulas.specs.Formulas.{Goal}
use Rattle.formulas.specs.Rules.{rules}
use Rattle.sequents.specs.Symbols.{Symbol, made, leftover, symbol_level, Ground, level}
use Rattle.sequents.specs.Sequents.{Environment, Program, Hypothesis, hypothesis, put_environment, put_hypothesis, put_program}
use Rattle.sequents.specs.Derivations.{Derivation}
use Rattle.sequents.specs.Renamings.{Renaming, rename, renamed}
use Rattle.sequents.proofs.Sequents.{update_put}
use Rattle.sequents.proofs.Renamings.{renames}

-- No name stands for a term above level i.
abbrev pub LowEnvironment : ℕ → Environment Symbol → Type 0
LowEnvironment i e = (v : ℕ) → level (e v) ≤ i

-- In no clause of the program a name stands for a term above level i.
abbrev pub LowProgram : ℕ → Program Symbol → Type 0
LowProgram i P = All (λ h. LowEnvironment i h.environment) P.clauses

-- The made constant n of level k becomes m.
unfoldable pub exchange : ℕ → ℕ → ℕ → Renaming
exchange k n m = record { of_made = λ x j. cond (eqb j k && eqb x n) m x; of_leftover = λ x j. x }

-- The exchange takes the made constant n of level k to m.
pub exchange_at : (k n m : ℕ) → renamed (exchange k n m) (made n k) ≡ leaf (made m k)
unfolding exchange rename
exchange_at k n m = rw (eq-eqb k k refl, eq-eqb n n refl)

-- The exchange at level i + 1 leaves symbols of level at most i as they are.
exchange_symbol : (i n m : ℕ) (s : Symbol) → symbol_level s ≤ i → renamed (exchange (suc i) n m) s ≡ leaf s
unfolding exchange rename symbol_level
exchange_symbol i n m (made x j) h = go (eqb j (suc i)) refl
  where
    go : (b : Bool) → eqb j (suc i) ≡ b → leaf (made (cond (b && eqb x n) m x) j) ≡ leaf (made x j)
    go true e = absurd (let q = eqb-true j (suc i) e in omega arith)
    go false e = refl
exchange_symbol i n m (leftover x j) h = refl

-- The exchange at level i + 1 leaves a term of level at most i as it is.
exchange_term : (i n m : ℕ) (t : Ground) → level t ≤ i → substitute t (renamed (exchange (suc i) n m)) ≡ t
unfolding level
exchange_term i n m t h =
    substitute_where t (λ s. symbol_level s ≤ i) (renamed (exchange (suc i) n m)) leaf (leaves_level t symbol_level i h)
    (exchange_symbol i n m) ∙ substitute_leaf t

-- The exchange at level i + 1 leaves an environment that is low for i as it is.
pub exchange_environment : (i n m : ℕ) (e : Environment Symbol) → LowEnvironment i e → put_environment (renamed (exchange (suc i) n m)) e ≡ e
exchange_environment i n m e h = fun_ext (λ v. exchange_term i n m (e v) (h v))

-- The exchange at level i + 1 leaves a program that is low for i as it is.
pub exchange_program : (i n m : ℕ) (P : Program Symbol) → LowProgram i P → put_program (renamed (exchange (suc i) n m)) P ≡ P
exchange_program i n m P h = ap (rules P.order) (each P.clauses h)
  where
    each : (l : List (Hypothesis Symbol)) → All (λ h. LowEnvironment i h.environment) l
        → map (put_hypothesis (renamed (exchange (suc i) n m))) l ≡ l
    each [] h = refl
    each (x ∷ l) h = ap₂ ◌∷◌ (ap (hypothesis x.clause) (exchange_environment i n m x.environment h.0)) (each l h.1)

-- A derivation with the made constant n gives one with m.
pub another_constant : (P : Program Symbol) (g : Goal) (e : Environment Symbol) (v i n m : ℕ) → LowProgram i P → LowEnvironment i e
    → Derivation P g (update e v (leaf (made n (suc i)))) (suc i) → Derivation P g (update e v (leaf (made m (suc i)))) (suc i)
unfolding substitute
another_constant P g e v i n m lP le d =
    let r = exchange (suc i) n m in
    subst (λ (Q : Program Symbol). Derivation Q g (update e v (leaf (made m (suc i)))) (suc i)) (exchange_program i n m P lP)
    (subst (λ (f : Environment Symbol). Derivation (put_program (renamed r) P) g f (suc i)) environment
    ((renames r).tree P g (update e v (leaf (made n (suc i)))) (suc i) d).0)
  where
    environment : put_environment (renamed (exchange (suc i) n m)) (update e v (leaf (made n (suc i)))) ≡ update e v (leaf (made m (suc i)))
    environment = update_put (renamed (exchange (suc i) n m)) e v (leaf (made n (suc i)))
        ∙ ap₂ (λ (f : Environment Symbol) (t : Ground). update f v t) (exchange_environment i n m e le) (exchange_at (suc i) n m)
