-- First showings of symbols: which they are, their positions, and those of each kind.
use Prim.Native.Nat.{ℕ, suc, ◌<◌}
use mathlib.Core.Path.{◌≡◌, refl, sym, ◌∙◌, ap, ap₂}
use mathlib.Core.Bool.{Bool, true, false, ◌&&◌, ◌||◌, cond, true≢false}
use mathlib.Core.List.{List, [], ◌∷◌, ◌++◌, map}
use native.Mathlib.Omega.{arith}
use lib.Dec.{eqb}
use lib.ListN.{length, get_or}
use borrow.Author.Tests.{eqb-true, eq-eqb}
use Rattle.terms.specs.Lists.{Mem, here, there}
use Rattle.formulas.proofs.Free.{and_parts, or_left, or_right}
use Rattle.sequents.specs.Symbols.{Symbol, made, leftover, symbol_level}
use Rattle.answer_texts.specs.Numbering.{same_symbol, is_made, made_only, leftover_only, without, firsts, index_of}

-- equal symbols

-- Two true sides make a conjunction true.
pub and_both : (a b : Bool) → a ≡ true → b ≡ true → (a && b) ≡ true
and_both true b p q = q
and_both false b p q = p

-- Symbols that pass `same_symbol` are equal.
pub same_symbol_true : (a b : Symbol) → same_symbol a b ≡ true → a ≡ b
unfolding same_symbol
same_symbol_true (made n k) (made m j) h = let r = and_parts (eqb n m) (eqb k j) h in ap₂ made (eqb-true n m r.0) (eqb-true k j r.1)
same_symbol_true (made n k) (leftover m j) h = absurd (true≢false (sym h))
same_symbol_true (leftover n k) (made m j) h = absurd (true≢false (sym h))
same_symbol_true (leftover n k) (leftover m j) h =
    let r = and_parts (eqb n m) (eqb k j) h in ap₂ leftover (eqb-true n m r.0) (eqb-true k j r.1)

-- A symbol passes `same_symbol` with itself.
pub same_symbol_refl : (a : Symbol) → same_symbol a a ≡ true
unfolding same_symbol
same_symbol_refl (made n k) = and_both (eqb n n) (eqb k k) (eq-eqb n n refl) (eq-eqb k k refl)
same_symbol_refl (leftover n k) = and_both (eqb n n) (eqb k k) (eq-eqb n n refl) (eq-eqb k k refl)

-- first showings

-- The list has x.
unfoldable pub has : Symbol → List Symbol → Bool
has x [] = false
has x (s ∷ ss) = same_symbol s x || has x ss

-- This is x alone where the list does not have it, and empty where it does.
unfoldable pub fresh : Symbol → List Symbol → List Symbol
fresh x l = cond (has x l) [] (x ∷ [])

-- If a differs from b, then b differs from a.
same_symbol_false : (a b : Symbol) → same_symbol a b ≡ false → same_symbol b a ≡ false
same_symbol_false a b h = go (same_symbol b a) refl
  where
    go : (c : Bool) → same_symbol b a ≡ c → c ≡ false
    go true q = sym (same_symbol_refl a) ∙ ap (same_symbol a) (sym (same_symbol_true b a q)) ∙ h
    go false q = refl

-- Leaving out a symbol in two lists joined is leaving it out in each.
without_append : (s : Symbol) (x y : List Symbol) → without s (x ++ y) ≡ without s x ++ without s y
unfolding without
without_append s [] y = refl
without_append s (a ∷ x) y = go (same_symbol a s) (without_append s x y)
  where
    go : (b : Bool) → without s (x ++ y) ≡ without s x ++ without s y
        → cond b (without s (x ++ y)) (a ∷ without s (x ++ y)) ≡ cond b (without s x) (a ∷ without s x) ++ without s y
    go true h = h
    go false h = ap (a ∷◌) h

-- Leaving out a symbol keeps every other symbol.
has_without : (s x : Symbol) (l : List Symbol) → same_symbol s x ≡ false → has x (without s l) ≡ has x l
unfolding without has
has_without s x [] n = refl
has_without s x (y ∷ l) n = go (same_symbol y s) refl (has_without s x l n)
  where
    go : (b : Bool) → same_symbol y s ≡ b → has x (without s l) ≡ has x l
        → has x (cond b (without s l) (y ∷ without s l)) ≡ (same_symbol y x || has x l)
    go true q h = h ∙ ap (λ (b : Bool). b || has x l) (sym (ap (λ (z : Symbol). same_symbol z x) (same_symbol_true y s q) ∙ n))
    go false q h = ap (same_symbol y x ||◌) h

-- The first showings have the symbols that the list has.
pub has_firsts : (x : Symbol) (l : List Symbol) → has x (firsts l) ≡ has x l
unfolding firsts has
has_firsts x [] = refl
has_firsts x (s ∷ l) = go (same_symbol s x) refl (has_firsts x l)
  where
    go : (b : Bool) → same_symbol s x ≡ b → has x (firsts l) ≡ has x l → (b || has x (without s (firsts l))) ≡ (b || has x l)
    go true q h = refl
    go false q h = has_without s x (firsts l) q ∙ h

-- One more symbol is added to the first showings where they do not have it.
pub firsts_snoc : (l : List Symbol) (x : Symbol) → firsts (l ++ (x ∷ [])) ≡ firsts l ++ fresh x (firsts l)
unfolding firsts fresh has without
firsts_snoc [] x = refl
firsts_snoc (s ∷ l) x =
    ap (s ∷◌) (ap (without s) (firsts_snoc l x) ∙ without_append s (firsts l) (fresh x (firsts l))
    ∙ ap (without s (firsts l) ++◌) (go (same_symbol s x) refl))
  where
    same : same_symbol s x ≡ true → (b : Bool) → without s (cond b [] (x ∷ [])) ≡ []
    same q true = refl
    same q false = rw (ap (same_symbol x) (same_symbol_true s x q) ∙ same_symbol_refl x)

    other : same_symbol s x ≡ false → (b : Bool) → without s (cond b [] (x ∷ [])) ≡ cond b [] (x ∷ [])
    other q true = refl
    other q false = rw (same_symbol_false s x q)

    go : (b : Bool) → same_symbol s x ≡ b → without s (fresh x (firsts l)) ≡ cond (b || has x (without s (firsts l))) [] (x ∷ [])
    go true q = same q (has x (firsts l))
    go false q = other q (has x (firsts l)) ∙ ap (λ (b : Bool). cond b [] (x ∷ [])) (sym (has_without s x (firsts l) q))

-- The first showings of two lists joined begin with those of the first.
pub firsts_append : (x y : List Symbol) → (more : List Symbol) × (firsts (x ++ y) ≡ firsts x ++ more)
unfolding firsts
firsts_append [] y = (firsts y, refl)
firsts_append (s ∷ x) y =
    let r = firsts_append x y in
    (without s r.0, ap (s ∷◌) (ap (without s) r.1 ∙ without_append s (firsts x) r.0))

-- positions among the first showings

-- A symbol that the list has keeps its position in a longer list.
pub index_append : (x : Symbol) (l m : List Symbol) → has x l ≡ true → index_of x (l ++ m) ≡ index_of x l
unfolding has index_of
index_append x [] m h = absurd (true≢false (sym h))
index_append x (s ∷ l) m h = go (same_symbol s x) h (index_append x l m)
  where
    go : (b : Bool) → (b || has x l) ≡ true → (has x l ≡ true → index_of x (l ++ m) ≡ index_of x l)
        → cond b 0 (suc (index_of x (l ++ m))) ≡ cond b 0 (suc (index_of x l))
    go true k f = refl
    go false k f = ap suc (f k)

-- A symbol that the list does not have takes the next position.
pub index_new : (x : Symbol) (l m : List Symbol) → has x l ≡ false → index_of x (l ++ (x ∷ m)) ≡ length l
unfolding has index_of
index_new x [] m h = rw (same_symbol_refl x)
index_new x (s ∷ l) m h = go (same_symbol s x) h (index_new x l m)
  where
    go : (b : Bool) → (b || has x l) ≡ false → (has x l ≡ false → index_of x (l ++ (x ∷ m)) ≡ length l)
        → cond b 0 (suc (index_of x (l ++ (x ∷ m)))) ≡ suc (length l)
    go true k f = absurd (true≢false k)
    go false k f = ap suc (f k)

-- A symbol that the list has is at a position within it, with its level.
pub index_old : (x : Symbol) (l : List Symbol) → has x l ≡ true → (index_of x l < length l)
    × (get_or (map symbol_level l) (index_of x l) 0 ≡ symbol_level x)
unfolding has index_of
index_old x [] h = absurd (true≢false (sym h))
index_old x (s ∷ l) h = go (same_symbol s x) refl h (index_old x l)
  where
    go : (b : Bool) → same_symbol s x ≡ b → (b || has x l) ≡ true
        → (has x l ≡ true → (index_of x l < length l) × (get_or (map symbol_level l) (index_of x l) 0 ≡ symbol_level x))
        → (cond b 0 (suc (index_of x l)) < suc (length l))
        × (get_or (symbol_level s ∷ map symbol_level l) (cond b 0 (suc (index_of x l))) 0 ≡ symbol_level x)
    go true q k f = (omega arith, ap symbol_level (same_symbol_true s x q))
    go false q k f = let r = f k in (omega arith, r.1)

-- symbols of one kind

-- The made constants of two lists joined are those of the first, then those of the second.
pub made_only_append : (x y : List Symbol) → made_only (x ++ y) ≡ made_only x ++ made_only y
unfolding made_only
made_only_append [] y = refl
made_only_append (s ∷ x) y = go (is_made s) (made_only_append x y)
  where
    go : (b : Bool) → made_only (x ++ y) ≡ made_only x ++ made_only y
        → cond b (s ∷ made_only (x ++ y)) (made_only (x ++ y)) ≡ cond b (s ∷ made_only x) (made_only x) ++ made_only y
    go true h = ap (s ∷◌) h
    go false h = h

-- The leftover variables of two lists joined are those of the first, then those of the second.
pub leftover_only_append : (x y : List Symbol) → leftover_only (x ++ y) ≡ leftover_only x ++ leftover_only y
unfolding leftover_only
leftover_only_append [] y = refl
leftover_only_append (s ∷ x) y = go (is_made s) (leftover_only_append x y)
  where
    go : (b : Bool) → leftover_only (x ++ y) ≡ leftover_only x ++ leftover_only y
        → cond b (leftover_only (x ++ y)) (s ∷ leftover_only (x ++ y)) ≡ cond b (leftover_only x) (s ∷ leftover_only x) ++ leftover_only y
    go true h = h
    go false h = ap (s ∷◌) h

-- A made constant that stands in a list is among the made constants of the list.
pub mem_made : (n k : ℕ) (l : List Symbol) → Mem (made n k) l → has (made n k) (made_only l) ≡ true
unfolding has made_only is_made
mem_made n k l here = or_left (same_symbol (made n k) (made n k)) _ (same_symbol_refl (made n k))
mem_made n k l (there {b = s} {l = m} h) = go (is_made s) (mem_made n k m h)
  where
    go : (b : Bool) → has (made n k) (made_only m) ≡ true → has (made n k) (cond b (s ∷ made_only m) (made_only m)) ≡ true
    go true p = or_right (same_symbol s (made n k)) (has (made n k) (made_only m)) p
    go false p = p

-- A leftover variable that stands in a list is among the leftover variables of the list.
pub mem_leftover : (n k : ℕ) (l : List Symbol) → Mem (leftover n k) l → has (leftover n k) (leftover_only l) ≡ true
unfolding has leftover_only is_made
mem_leftover n k l here = or_left (same_symbol (leftover n k) (leftover n k)) _ (same_symbol_refl (leftover n k))
mem_leftover n k l (there {b = s} {l = m} h) = go (is_made s) (mem_leftover n k m h)
  where
    go : (b : Bool) → has (leftover n k) (leftover_only m) ≡ true → has (leftover n k) (cond b (leftover_only m) (s ∷ leftover_only m)) ≡ true
    go true p = p
    go false p = or_right (same_symbol s (leftover n k)) (has (leftover n k) (leftover_only m)) p

-- the test, symbol by symbol
