-- Folding the letters of names in a text, line by line: the lines stay as many, each folded by itself.
use Prim.Native.Nat.{ℕ, zero, suc}
use mathlib.Core.Path.{◌≡◌, refl, sym, ◌∙◌, ap, ap₂, subst}
use mathlib.Core.Bool.{Bool, true, false, cond}
use mathlib.Core.List.{List, [], ◌∷◌, ◌++◌, map}
use lib.Dec.{eqb, leb}
use lib.ListN.{length, take}
use borrow.Author.Tests.{eqb-true}
use Rattle.terms.specs.Lists.{All}
use Rattle.terms.proofs.Lists.{length_map}
use Rattle.sheet_format.specs.Bytes.{SplitLines, lines_of, extend_line, tab, lf, is_small, is_capital, is_letter, folded, folded_name}
use Rattle.sheet_format.proofs.Bytes.{Without, lines, lines_of_other}
use Rattle.sheet_format.proofs.Capitals.{test_folded, folded_twice}
use Rattle.answer_texts.specs.Capitals.{small_from, small_text}
use Rattle.answer_texts.specs.Spelled.{unlines, first_lines}
use Rattle.answer_texts.proofs.Splitting.{lines_of_split}

-- The line with its names folded.
abbrev pub small_line : List ℕ → List ℕ
small_line l = small_from 0 l

-- one byte

-- A byte that is no LF becomes a byte that is none, and so many tabs are past after it.
record Step (k c : ℕ) : Type 0 where
  to : ℕ
  past : ℕ
  no_lf : eqb to lf ≡ false
  step : (cs : List ℕ) → small_from k (c ∷ cs) ≡ to ∷ small_from past cs

-- Each byte that is no LF does.
small_step : (k c : ℕ) → eqb c lf ≡ false → Step k c
unfolding small_from is_letter is_small is_capital
small_step k c h = at (eqb c tab) refl
  where
    kept : (b : Bool) → eqb (cond b (folded c) c) lf ≡ false
    kept true = test_folded lf c refl ∙ h
    kept false = h

    at : (b : Bool) → eqb c tab ≡ b → Step k c
    at true e = record { to = c; past = suc k; no_lf = h; step = λ cs. rw (h, small_from) (rw e refl) }
    at false e = record { to = cond (leb 2 k) (folded c) c; past = k; no_lf = kept (leb 2 k); step = λ cs. rw (h, small_from) (rw e refl) }

-- lines of a text

-- A line that is folded has no LF.
pub small_without : (k : ℕ) (l : List ℕ) → Without lf l → Without lf (small_from k l)
unfolding small_from
small_without k [] h = tt
small_without k (c ∷ cs) h =
    let s = small_step k c h.0 in
    subst (Without lf) (sym (s.step cs)) (s.no_lf, small_without s.past cs h.1)

-- After an LF folding starts anew.
pub small_append : (k : ℕ) (l b : List ℕ) → Without lf l → small_from k (l ++ (lf ∷ b)) ≡ small_from k l ++ (lf ∷ small_from 0 b)
unfolding small_from
small_append k [] b h = refl
small_append k (c ∷ cs) b h =
    let s = small_step k c h.0 in
    s.step (cs ++ (lf ∷ b)) ∙ ap (s.to ∷◌) (small_append s.past cs b h.1) ∙ ap (◌++ (lf ∷ small_from 0 b)) (sym (s.step cs))

-- Whole lines are folded one by one.
pub small_unlines : (ls : List (List ℕ)) → All (Without lf) ls → small_text (unlines ls) ≡ unlines (map small_line ls)
unfolding small_text small_from unlines
small_unlines [] h = refl
small_unlines (l ∷ ls) h = small_append 0 l (unlines ls) h.0 ∙ ap (λ (b : List ℕ). small_line l ++ (lf ∷ b)) (small_unlines ls h.1)

-- The folded lines and rest of a text of which k tabs are past.
abbrev small_split : ℕ → List (List ℕ) → List ℕ → SplitLines
small_split k [] r = lines [] (small_from k r)
small_split k (l ∷ ls) r = lines (small_from k l ∷ map small_line ls) (small_from 0 r)

-- At the beginning of a line all are folded alike.
split_first : (ls : List (List ℕ)) (r : List ℕ) → small_split 0 ls r ≡ lines (map small_line ls) (small_line r)
split_first [] r = refl
split_first (l ∷ ls) r = refl

-- Folding a text splits into its lines as folding them does.
split_small : (k : ℕ) (b : List ℕ) → lines_of (small_from k b) ≡ small_split k (lines_of b).whole (lines_of b).rest
unfolding lines_of small_from extend_line
split_small k [] = refl
split_small k (c ∷ cs) = go (eqb c lf) refl (λ j. split_small j cs)
  where
    extended : (s : Step k c) (ls : List (List ℕ)) (r : List ℕ)
        → extend_line s.to (small_split s.past ls r).whole (small_split s.past ls r).rest
        ≡ small_split k (extend_line c ls r).whole (extend_line c ls r).rest
    extended s [] r = ap (lines []) (sym (s.step r))
    extended s (l ∷ ls) r = ap (λ (x : List ℕ). lines (x ∷ map small_line ls) (small_from 0 r)) (sym (s.step l))

    go : (b : Bool) → eqb c lf ≡ b → ((j : ℕ) → lines_of (small_from j cs) ≡ small_split j (lines_of cs).whole (lines_of cs).rest)
        → lines_of (small_from k (c ∷ cs)) ≡ small_split k (lines_of (c ∷ cs)).whole (lines_of (c ∷ cs)).rest
    go true e ih =
        rw (eqb-true c lf e)
        (ap (λ (x : SplitLines). lines ([] ∷ x.whole) x.rest) (ih 0 ∙ split_first (lines_of cs).whole (lines_of cs).rest))
    go false e ih =
        let s = small_step k c e in
        let l = lines_of cs in
        ap lines_of (s.step cs) ∙ lines_of_other s.to (small_from s.past cs) s.no_lf
        ∙ ap (λ (x : SplitLines). extend_line s.to x.whole x.rest) (ih s.past) ∙ extended s l.whole l.rest
        ∙ ap (λ (x : SplitLines). small_split k x.whole x.rest) (sym (lines_of_other c cs e))

-- So the lines of a folded text are its folded lines.
pub lines_small : (text : List ℕ) → lines_of (small_text text) ≡ lines (map small_line (lines_of text).whole) (small_line (lines_of text).rest)
unfolding small_text
lines_small text = split_small 0 text ∙ split_first (lines_of text).whole (lines_of text).rest

-- There are as many.
pub count_small : (text : List ℕ) → length (lines_of (small_text text)).whole ≡ length (lines_of text).whole
count_small text = ap (λ (x : SplitLines). length x.whole) (lines_small text) ∙ length_map small_line (lines_of text).whole

-- The first elements of a mapped list are the first elements mapped.
take_map : {A B : Type 0} (f : A → B) (n : ℕ) (l : List A) → take n (map f l) ≡ map f (take n l)
take_map f zero l = refl
take_map f (suc n) [] = refl
take_map f (suc n) (a ∷ l) = ap (f a ∷◌) (take_map f n l)

-- What holds of all elements holds of the first n.
pub all_take : {A : Type 0} (P : A → Type 0) (n : ℕ) (l : List A) → All P l → All P (take n l)
all_take P zero l h = tt
all_take P (suc n) [] h = tt
all_take P (suc n) (a ∷ l) h = (h.0, all_take P n l h.1)

-- The first lines of a folded text are its first lines folded.
pub first_small : (n : ℕ) (text : List ℕ) → first_lines n (small_text text) ≡ small_text (first_lines n text)
unfolding first_lines
first_small n text =
    let ls = (lines_of text).whole in
    ap (λ (x : SplitLines). unlines (take n x.whole)) (lines_small text) ∙ ap unlines (take_map small_line n ls)
    ∙ sym (small_unlines (take n ls) (all_take (Without lf) n ls (lines_of_split text).whole))

-- twice

-- Folding all letters of a folded text is folding all its letters.
pub small_twice : (k : ℕ) (b : List ℕ) → folded_name (small_from k b) ≡ folded_name b
unfolding small_from
small_twice k [] = refl
small_twice k (c ∷ cs) = go (eqb c lf) (eqb c tab) (leb 2 k) (λ j. small_twice j cs)
  where
    go : (x y z : Bool) → ((j : ℕ) → folded_name (small_from j cs) ≡ folded_name cs)
        → folded_name (cond x (c ∷ small_from 0 cs) (cond y (c ∷ small_from (suc k) cs) (cond z (folded c) c ∷ small_from k cs)))
        ≡ folded_name (c ∷ cs)
    go true y z ih = ap (folded c ∷◌) (ih 0)
    go false true z ih = ap (folded c ∷◌) (ih (suc k))
    go false false true ih = ap₂ ◌∷◌ (folded_twice c) (ih k)
    go false false false ih = ap (folded c ∷◌) (ih k)
