-- With the numbers cleared, all that the search reads is as it was before the writer.
use Prim.Native.Nat.{ℕ, zero, suc, ◌*◌, ◌≤◌, ◌<◌}
use native.Mathlib.Omega.{arith}
use mathlib.Core.Path.{◌≡◌, refl, sym, ap, ◌∙◌}
use mathlib.Core.Bool.{Bool, true, false, cond}
use mathlib.Core.List.{List}
use mathlib.Core.Logic.{◌⊎◌, inl, inr}
use lib.Dec.{eqb}
use lib.ListN.{length}
use borrow.Author.Tests.{eqb-true, eqb-false}
use Rattle.sheet_format.specs.Limits.{numbers_per_unit}
use Rattle.machine.specs.Records.{cell_of, put_cell}
use Rattle.machine.specs.Words.{tag_of}
use Rattle.printing.specs.PathLinks.{clear_variables}
use Rattle.printing.specs.Writer.{text_limit, own_bytes, append_proof, write_proof}
use Rattle.printing.specs.Written.{variable, constant, TermWord, of_leaf, of_closure, RestoresAfter, Restores, Restored}
use Rattle.machine.proofs.MemoryOrder.{Grow}
use Rattle.machine.proofs.Records.{There, cell_same, cell_other}
use Rattle.printing.proofs.LeftAlone.{there_from, Alike, alike_refl, alike_trans, alike_number}
use Rattle.printing.proofs.Passes.{limit_low, proof_alike}

-- `clear1` clears the number of one variable.
clear1 : List ℕ → ℕ → List ℕ
clear1 v n = cond (eqb (tag_of (cell_of v n)) 0) (put_cell v n 0) v

-- Clearing one variable leaves the memory alike.
clear1_alike : (v : List ℕ) (n : ℕ) → There n v → Alike 62 v (clear1 v n)
unfolding clear1 tag_of
clear1_alike v n h = go (eqb (tag_of (cell_of v n)) 0) refl
  where
    go : (b : Bool) → eqb (tag_of (cell_of v n)) 0 ≡ b → Alike 62 v (cond b (put_cell v n 0) v)
    go true e = alike_number 62 v n 0 (omega arith) h (eqb-true (tag_of (cell_of v n)) 0 e) refl
    go false e = alike_refl 62 v

-- Clearing one variable leaves other variables.
clear1_other : (v : List ℕ) (n x : ℕ) → (x ≡ n → ⊥) → cell_of (clear1 v n) x ≡ cell_of v x
unfolding clear1
clear1_other v n x d = go (eqb (tag_of (cell_of v n)) 0)
  where
    go : (b : Bool) → cell_of (cond b (put_cell v n 0) v) x ≡ cell_of v x
    go true = cell_other v n 0 x d
    go false = refl

-- An unbound variable that was cleared has 0 in its cell.
clear1_same : (v : List ℕ) (n : ℕ) → There n v → tag_of (cell_of v n) ≡ 0 → cell_of (clear1 v n) n ≡ 0
unfolding clear1
clear1_same v n h e = rw e (cell_same v n 0 h)

-- Clearing the first n variables leaves the memory alike.
module _ (acts : ℕ) where
  clear_alike : (n : ℕ) (v : List ℕ) → numbers_per_unit * acts ≤ length v → n ≤ 9 * acts → Alike 62 v (clear_variables n v)
  unfolding clear_variables clear1
  clear_alike zero v r h = alike_refl 62 v
  clear_alike (suc n) v r h =
      let a = clear1_alike v n (there_from acts n v r (omega arith)) in
      alike_trans 62 v (clear1 v n) _ a (clear_alike n (clear1 v n) (let l = a.long in omega arith) (omega arith))

  -- Clearing leaves the variables from n on.
  clear_beyond : (n : ℕ) (v : List ℕ) (x : ℕ) → n ≤ x → cell_of (clear_variables n v) x ≡ cell_of v x
  unfolding clear_variables clear1
  clear_beyond zero v x h = refl
  clear_beyond (suc n) v x h = clear_beyond n (clear1 v n) x (omega arith) ∙ clear1_other v n x (λ q. omega arith)

  -- Clearing leaves 0 in the cells of unbound variables below n.
  clear_zero : (n : ℕ) (v : List ℕ) (x : ℕ) → numbers_per_unit * acts ≤ length v → n ≤ 9 * acts → x < n → tag_of (cell_of v x) ≡ 0
      → cell_of (clear_variables n v) x ≡ 0
  unfolding clear_variables clear1
  clear_zero zero v x r h l e = absurd (omega arith)
  clear_zero (suc n) v x r h l e = go (eqb x n) refl (clear_zero n (clear1 v n) x)
    where
      a : Alike 62 v (clear1 v n)
      a = clear1_alike v n (there_from acts n v r (omega arith))

      go : (b : Bool) → eqb x n ≡ b → (numbers_per_unit * acts ≤ length (clear1 v n) → n ≤ 9 * acts → x < n
          → tag_of (cell_of (clear1 v n) x) ≡ 0 → cell_of (clear_variables n (clear1 v n)) x ≡ 0)
          → cell_of (clear_variables n (clear1 v n)) x ≡ 0
      go true q f =
          let p = eqb-true x n q in
          clear_beyond n (clear1 v n) x (omega arith) ∙ ap (cell_of (clear1 v n)) p
          ∙ clear1_same v n (there_from acts n v r (omega arith)) (ap (λ (y : ℕ). tag_of (cell_of v y)) (sym p) ∙ e)
      go false q f = let d = eqb-false x n q in f (let l = a.long in omega arith) (omega arith) (omega arith) (a.free x e)

-- All that the search reads is restored.
pub restores_after : RestoresAfter
unfolding tag_of
restores_after sheet t symbols nodes clauses goal table named m s path stands o units limit low own at = record {
  long = all.long;
  fields = all.fields;
  levels = all.levels;
  cells = λ x l. cell x l (o.words x l);
}
  where
    v : List ℕ
    v = (append_proof sheet t goal m units limit own at).memory

    kept : Alike 62 m.memory v
    kept = proof_alike sheet t symbols nodes clauses goal table named m s path stands o units limit low own at

    room : numbers_per_unit * m.registers.acts ≤ length v
    room = let a = kept.long in let r = o.room in omega arith

    all : Alike 62 m.memory (clear_variables s.next v)
    all = alike_trans 62 m.memory v _ kept (clear_alike m.registers.acts s.next v room o.variables)

    tagged : (a : ℕ) → TermWord t m.memory nodes m.registers.acts a → tag_of a ≡ 0 → ⊥
    tagged a (of_leaf (variable e)) z = omega arith
    tagged a (of_leaf (constant e l)) z = omega arith
    tagged a (of_closure c) z = let e = c.tag in omega arith

    cell : (x : ℕ) → x < s.next → (cell_of m.memory x ≡ 0) ⊎ TermWord t m.memory nodes m.registers.acts (cell_of m.memory x)
        → cell_of (clear_variables s.next v) x ≡ cell_of m.memory x
    cell x l (inl z) = clear_zero m.registers.acts s.next v x room o.variables l (kept.free x (ap tag_of z)) ∙ sym z
    cell x l (inr g) = all.bound x (tagged (cell_of m.memory x) g)

-- So it is after the writer.
pub restores : Restores
unfolding write_proof
restores sheet t symbols nodes clauses goal table named m s path stands o units out =
    restores_after sheet t symbols nodes clauses goal table named m s path stands o units (text_limit out) (limit_low out) own_bytes 0

-- A memory with all that the search reads: the search goes on in it.
pub restored_grows : (n : ℕ) (w w' : List ℕ) (next : ℕ) → Restored w w' next → Grow n next w w'
restored_grows n w w' next r = record {
  extends = record { len = r.long; old = λ u f a b c. r.fields u f b c };
  cells = r.cells;
  levels = λ x h. r.levels x;
}
