-- Document 01, "The answer text": "a leftover variable as `_number@level`, a made constant as `!number@level`, each kind numbered
-- from 0 by first showing". One count for each kind, over the whole text.
use Rattle.std.specs.Prelude.{ℕ, suc, Bool, true, false, ◌&&◌, cond, List, [], ◌∷◌, ◌++◌, map, eqb}
use Rattle.terms.specs.Terms.{leaf, app, Terms, nil, cons}
use Rattle.sequents.specs.Symbols.{Symbol, made, leftover, Ground}
use Rattle.sequents.specs.Renamings.{Renaming}
use Rattle.answer_texts.specs.TextLines.{TextLine, terms_of, rename_text_line}

-- The symbols in the order in which they show, as often as they do.
unfoldable mutual
  pub symbols_in : Ground → List Symbol
  symbols_in (leaf s) = s ∷ []
  symbols_in (app f ts) = symbols_in_all ts

  pub symbols_in_all : Terms Symbol → List Symbol
  symbols_in_all nil = []
  symbols_in_all (cons t ts) = symbols_in t ++ symbols_in_all ts

unfoldable pub symbols_of : List Ground → List Symbol
symbols_of [] = []
symbols_of (t ∷ ts) = symbols_in t ++ symbols_of ts

unfoldable pub shown : List TextLine → List Symbol
shown [] = []
shown (x ∷ xs) = symbols_of (terms_of x) ++ shown xs

-- "told apart by number and level"
unfoldable pub same_symbol : Symbol → Symbol → Bool
same_symbol (made n k) (made m j) = eqb n m && eqb k j
same_symbol (made n k) (leftover m j) = false
same_symbol (leftover n k) (made m j) = false
same_symbol (leftover n k) (leftover m j) = eqb n m && eqb k j

unfoldable pub is_made : Symbol → Bool
is_made (made n k) = true
is_made (leftover n k) = false

-- The symbols of one kind.
unfoldable pub made_only : List Symbol → List Symbol
made_only [] = []
made_only (s ∷ ss) = cond (is_made s) (s ∷ made_only ss) (made_only ss)

unfoldable pub leftover_only : List Symbol → List Symbol
leftover_only [] = []
leftover_only (s ∷ ss) = cond (is_made s) (leftover_only ss) (s ∷ leftover_only ss)

-- Each symbol once, where it shows first.
unfoldable pub without : Symbol → List Symbol → List Symbol
without s [] = []
without s (x ∷ xs) = cond (same_symbol x s) (without s xs) (x ∷ without s xs)

unfoldable pub firsts : List Symbol → List Symbol
firsts [] = []
firsts (s ∷ ss) = s ∷ without s (firsts ss)

-- How many stand before it.
unfoldable pub index_of : Symbol → List Symbol → ℕ
index_of s [] = 0
index_of s (x ∷ xs) = cond (same_symbol x s) 0 (suc (index_of s xs))

-- The number of each symbol that shows: how many of its kind show first before it.
unfoldable pub numbering_of : List Symbol → Renaming
numbering_of ss =
    let ms = firsts (made_only ss) in
    let ls = firsts (leftover_only ss) in
    record { of_made = λ n k. index_of (made n k) ms; of_leftover = λ n k. index_of (leftover n k) ls }

unfoldable pub numbered : List TextLine → List TextLine
numbered xs = map (rename_text_line (numbering_of (shown xs))) xs
