-- Numbering by first showing, symbol by symbol: what a book of the symbols shown so far has to hold, for one kind.
use Prim.Native.Nat.{ℕ, suc, ◌+◌}
use native.Mathlib.Omega.{arith}
use mathlib.Core.Path.{◌≡◌, refl, sym, ap, ◌∙◌, subst}
use mathlib.Core.Bool.{Bool, true, false, ◌||◌, cond, true≢false, false≢true}
use mathlib.Core.List.{List, [], ◌∷◌, ◌++◌, append_assoc, append-nil}
use lib.ListN.{length, length-append}
use Rattle.sequents.specs.Symbols.{Symbol}
use Rattle.answer_texts.specs.Numbering.{same_symbol, firsts, index_of}
use Rattle.answer_texts.proofs.FirstShowings.{same_symbol_true, same_symbol_refl}
use Rattle.answer_texts.proofs.FirstShowings.{has, fresh, has_firsts, firsts_snoc, firsts_append, index_new}

-- A list with y added has z if it had z or if y and z are the same symbol.
has_snoc : (z y : Symbol) (l : List Symbol) → has z (l ++ (y ∷ [])) ≡ (has z l || same_symbol y z)
unfolding has
has_snoc z y [] = go (same_symbol y z)
  where
    go : (b : Bool) → (b || false) ≡ b
    go true = refl
    go false = refl
has_snoc z y (x ∷ l) = go (same_symbol x z) (has_snoc z y l)
  where
    go : (b : Bool) → has z (l ++ (y ∷ [])) ≡ (has z l || same_symbol y z)
        → (b || has z (l ++ (y ∷ []))) ≡ ((b || has z l) || same_symbol y z)
    go true h = refl
    go false h = h

-- A symbol that has shown before changes nothing in what has shown.
has_again : (z y : Symbol) (l : List Symbol) → has y l ≡ true → has z (l ++ (y ∷ [])) ≡ has z l
has_again z y l h = has_snoc z y l ∙ go (same_symbol y z) refl (has z l) refl
  where
    go : (b : Bool) → same_symbol y z ≡ b → (c : Bool) → has z l ≡ c → (c || b) ≡ c
    go b e true q = refl
    go true e false q = absurd (true≢false (sym h ∙ ap (λ (x : Symbol). has x l) (same_symbol_true y z e) ∙ q))
    go false e false q = refl

-- A symbol that has shown before does not count.
count_again : (y : Symbol) (l : List Symbol) → has y l ≡ true → length (firsts (l ++ (y ∷ []))) ≡ length (firsts l)
unfolding fresh
count_again y l h =
    ap length (firsts_snoc l y ∙ ap (λ (b : Bool). firsts l ++ cond b [] (y ∷ [])) (has_firsts y l ∙ h) ∙ append-nil (firsts l))

-- A symbol that was added has shown.
has_self : (y : Symbol) (l : List Symbol) → has y (l ++ (y ∷ [])) ≡ true
has_self y l = has_snoc y y l ∙ ap (has y l ||◌) (same_symbol_refl y) ∙ go (has y l)
  where
    go : (b : Bool) → (b || true) ≡ true
    go true = refl
    go false = refl

-- Another symbol has shown or not as before.
has_other : (z y : Symbol) (l : List Symbol) → same_symbol y z ≡ false → has z (l ++ (y ∷ [])) ≡ has z l
has_other z y l h = has_snoc z y l ∙ ap (has z l ||◌) h ∙ go (has z l)
  where
    go : (b : Bool) → (b || false) ≡ b
    go true = refl
    go false = refl

-- A new symbol comes last among the first showings.
first_new : (y : Symbol) (l : List Symbol) → has y l ≡ false → firsts (l ++ (y ∷ [])) ≡ firsts l ++ (y ∷ [])
unfolding fresh
first_new y l h = firsts_snoc l y ∙ ap (λ (b : Bool). firsts l ++ cond b [] (y ∷ [])) (has_firsts y l ∙ h)

-- A new symbol counts.
count_new : (y : Symbol) (l : List Symbol) → has y l ≡ false → length (firsts (l ++ (y ∷ []))) ≡ suc (length (firsts l))
count_new y l h =
    ap length (first_new y l h) ∙ length-append (firsts l) (y ∷ [])
    ∙ (let e : length (firsts l) + 1 ≡ suc (length (firsts l)) = omega arith in e)

-- What the list has, a longer one has, and what stands in the middle.
pub has_more : (z : Symbol) (l m : List Symbol) → has z l ≡ true → has z (l ++ m) ≡ true
unfolding has
has_more z [] m h = absurd (false≢true h)
has_more z (x ∷ l) m h = go (same_symbol x z) h (has_more z l m)
  where
    go : (b : Bool) → (b || has z l) ≡ true → (has z l ≡ true → has z (l ++ m) ≡ true) → (b || has z (l ++ m)) ≡ true
    go true k f = refl
    go false k f = f k

-- A list has the symbol that stands in its middle.
pub has_middle : (y : Symbol) (l m : List Symbol) → has y (l ++ (y ∷ m)) ≡ true
has_middle y l m = ap (has y) (sym (append_assoc l (y ∷ []) m)) ∙ has_more y (l ++ (y ∷ [])) m (has_self y l)

-- A new symbol's number, whatever shows after it.
pub index_next : (y : Symbol) (l m : List Symbol) → has y l ≡ false → index_of y (firsts (l ++ (y ∷ m))) ≡ length (firsts l)
index_next y l m h =
    let r = firsts_append (l ++ (y ∷ [])) m in
    ap (index_of y) (ap firsts (sym (append_assoc l (y ∷ []) m)) ∙ r.1 ∙ ap (◌++ r.0) (first_new y l h)
    ∙ append_assoc (firsts l) (y ∷ []) r.0)
    ∙ index_new y (firsts l) r.0 (has_firsts y l ∙ h)

-- The symbols of R that stand in l have their number, written as `word` writes it, and the others 0; the next number is due.
pub record Book (R : Symbol → Type 0) (word : ℕ → ℕ) (number : Symbol → ℕ) (l : List Symbol) (mark : Symbol → ℕ) (count : ℕ) : Type 0 where
  pub marks : (z : Symbol) → R z → mark z ≡ cond (has z l) (word (number z)) 0
  pub counts : count ≡ length (firsts l)

module _ (R : Symbol → Type 0) (word : ℕ → ℕ) (number : Symbol → ℕ) where
  -- The book stays where the numbers of R stay.
  pub book_same : (l : List Symbol) (mark mark' : Symbol → ℕ) (count : ℕ) → ((z : Symbol) → R z → mark' z ≡ mark z)
      → Book R word number l mark count → Book R word number l mark' count
  book_same l mark mark' count h b = record { marks = λ z r. h z r ∙ b.marks z r; counts = b.counts }

  -- The book stays when a symbol shows again.
  pub book_again : (l : List Symbol) (mark : Symbol → ℕ) (count : ℕ) (y : Symbol) → has y l ≡ true → Book R word number l mark count
      → Book R word number (l ++ (y ∷ [])) mark count
  book_again l mark count y h b = record {
    marks = λ z r. b.marks z r ∙ ap (λ (c : Bool). cond c (word (number z)) 0) (sym (has_again z y l h));
    counts = b.counts ∙ sym (count_again y l h);
  }

  -- When a symbol shows first, it gets its number and the count rises by one.
  pub book_new : (l : List Symbol) (mark mark' : Symbol → ℕ) (count : ℕ) (y : Symbol) → has y l ≡ false → mark' y ≡ word (number y)
      → ((z : Symbol) → R z → same_symbol y z ≡ false → mark' z ≡ mark z) → Book R word number l mark count
      → Book R word number (l ++ (y ∷ [])) mark' (suc count)
  book_new l mark mark' count y h e k b =
      record { marks = λ z r. go z r (same_symbol y z) refl; counts = ap suc b.counts ∙ sym (count_new y l h) }
    where
      go : (z : Symbol) → R z → (c : Bool) → same_symbol y z ≡ c → mark' z ≡ cond (has z (l ++ (y ∷ []))) (word (number z)) 0
      go z r true q =
          subst (λ (x : Symbol). mark' x ≡ cond (has x (l ++ (y ∷ []))) (word (number x)) 0) (same_symbol_true y z q)
          (e ∙ ap (λ (c : Bool). cond c (word (number y)) 0) (sym (has_self y l)))
      go z r false q = k z r q ∙ b.marks z r ∙ ap (λ (c : Bool). cond c (word (number z)) 0) (sym (has_other z y l q))
