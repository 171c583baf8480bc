-- Numbering gives no number above the length of the text: each symbol that shows is spelled with at least one byte.
use Prim.Native.Nat.{ℕ, suc, ◌+◌, ◌≤◌}
use mathlib.Core.Bool.{Bool, true, false, cond}
use mathlib.Core.List.{List, [], ◌∷◌, map}
use native.Mathlib.Omega.{arith}
use lib.ListN.{length, length-append}
use Rattle.terms.specs.Terms.{leaf, app, Terms, nil, cons, substitute, substitutes}
use Rattle.sequents.specs.Symbols.{Symbol, made, leftover, Ground}
use Rattle.sequents.specs.Sequents.{Line, plain, Dsome, Dall, Dclause, put_terms, put_line}
use Rattle.sequents.specs.Renamings.{Renaming, rename, renamed}
use Rattle.sheet_format.specs.Bytes.{tab, lf, ascii, decimal}
use Rattle.sheet_format.specs.Nodes.{Declaration}
use Rattle.answer_texts.specs.TextLines.{TextLine, result_line, binding_line, derivation_line, line_terms, terms_of, rename_text_line}
use Rattle.answer_texts.specs.Numbering.{symbols_in, symbols_in_all, symbols_of, shown, same_symbol, is_made, made_only, leftover_only}
use Rattle.answer_texts.specs.Numbering.{without, firsts, index_of, numbering_of, numbered}
use Rattle.answer_texts.specs.Spelling.{spell_functor, spell_symbol, spell_term, spell_arguments, spell_more, join, text_line, spell_terms}
use Rattle.answer_texts.specs.Spelling.{line_fields, text_fields, spell, proof_text}

-- numbers and symbols shown

-- The index of a symbol is at most the length of the list.
index_of_le : (s : Symbol) (ss : List Symbol) → index_of s ss ≤ length ss
unfolding index_of
index_of_le s [] = omega arith
index_of_le s (x ∷ xs) = go (same_symbol x s) (index_of_le s xs)
  where
    go : (b : Bool) → index_of s xs ≤ length xs → cond b 0 (suc (index_of s xs)) ≤ suc (length xs)
    go true h = omega arith
    go false h = omega arith

-- Leaving out a symbol makes no list longer.
without_le : (s : Symbol) (ss : List Symbol) → length (without s ss) ≤ length ss
unfolding without
without_le s [] = omega arith
without_le s (x ∷ xs) = go (same_symbol x s) (without_le s xs)
  where
    go : (b : Bool) → length (without s xs) ≤ length xs → length (cond b (without s xs) (x ∷ without s xs)) ≤ suc (length xs)
    go true h = omega arith
    go false h = omega arith

-- Keeping the first showings makes no list longer.
firsts_le : (ss : List Symbol) → length (firsts ss) ≤ length ss
unfolding firsts
firsts_le [] = omega arith
firsts_le (s ∷ ss) = let h = without_le s (firsts ss) in let k = firsts_le ss in omega arith

-- Keeping the made constants makes no list longer.
made_only_le : (ss : List Symbol) → length (made_only ss) ≤ length ss
unfolding made_only
made_only_le [] = omega arith
made_only_le (s ∷ ss) = go (is_made s) (made_only_le ss)
  where
    go : (b : Bool) → length (made_only ss) ≤ length ss → length (cond b (s ∷ made_only ss) (made_only ss)) ≤ suc (length ss)
    go true h = omega arith
    go false h = omega arith

-- Keeping the leftover variables makes no list longer.
leftover_only_le : (ss : List Symbol) → length (leftover_only ss) ≤ length ss
unfolding leftover_only
leftover_only_le [] = omega arith
leftover_only_le (s ∷ ss) = go (is_made s) (leftover_only_le ss)
  where
    go : (b : Bool) → length (leftover_only ss) ≤ length ss → length (cond b (leftover_only ss) (s ∷ leftover_only ss)) ≤ suc (length ss)
    go true h = omega arith
    go false h = omega arith

-- Every number that a renaming gives is at most n.
pub record NumbersUpTo (r : Renaming) (n : ℕ) : Type 0 where
  pub of_made : (m k : ℕ) → r.of_made m k ≤ n
  pub of_leftover : (m k : ℕ) → r.of_leftover m k ≤ n

-- The numbers that a numbering gives are at most as large as the number of symbols shown.
numbering_of_le : (ss : List Symbol) → NumbersUpTo (numbering_of ss) (length ss)
unfolding numbering_of
numbering_of_le ss = record {
  of_made =
      λ m k. (let a = index_of_le (made m k) (firsts (made_only ss)) in let b = firsts_le (made_only ss) in let c = made_only_le ss in
      omega arith);
  of_leftover =
      λ m k. (let a = index_of_le (leftover m k) (firsts (leftover_only ss)) in let b = firsts_le (leftover_only ss) in let c =
      leftover_only_le ss in omega arith);
}

-- symbols shown and bytes, whatever the renaming

-- A renamed symbol is spelled with at least one byte.
symbol_spelled : (r : Renaming) (s : Symbol) → 1 ≤ length (spell_symbol (rename r s))
unfolding spell_symbol rename
symbol_spelled r (made n k) = omega arith
symbol_spelled r (leftover n k) = omega arith

-- A field in front makes joined fields no shorter.
field_before : (f g : List ℕ) (fs : List (List ℕ)) → length (join (g ∷ fs)) ≤ length (join (f ∷ g ∷ fs))
unfolding join
field_before f g fs = let e = length-append f (tab ∷ join (g ∷ fs)) in omega arith

module _ (ds : List Declaration) (r : Renaming) where
  -- A renamed term, and renamed arguments from any one on, have at least as many bytes as symbols.
  mutual
    unfolding symbols_in spell_term substitute

    term_spelled : (t : Ground) → length (symbols_in t) ≤ length (spell_term (substitute t (renamed r)) ds)
    term_spelled (leaf s) = symbol_spelled r s
    term_spelled (app f ts) =
        let h = arguments_spelled ts in
        let e = length-append (spell_functor ds f) (spell_arguments (substitutes ts (renamed r)) ds) in
        omega arith

    arguments_spelled : (ts : Terms Symbol) → length (symbols_in_all ts) ≤ length (spell_arguments (substitutes ts (renamed r)) ds)
    arguments_spelled nil = omega arith
    arguments_spelled (cons t ts) =
        let h = term_spelled t in
        let k = more_spelled ts in
        let a = length-append (symbols_in t) (symbols_in_all ts) in
        let e = length-append (spell_term (substitute t (renamed r)) ds) (spell_more (substitutes ts (renamed r)) ds) in
        omega arith

    more_spelled : (ts : Terms Symbol) → length (symbols_in_all ts) ≤ length (spell_more (substitutes ts (renamed r)) ds)
    more_spelled nil = omega arith
    more_spelled (cons t ts) =
        let h = term_spelled t in
        let k = more_spelled ts in
        let a = length-append (symbols_in t) (symbols_in_all ts) in
        let e = length-append (spell_term (substitute t (renamed r)) ds) (spell_more (substitutes ts (renamed r)) ds) in
        omega arith

  -- Renamed terms as fields after a field f have at least one byte for each symbol, besides those of f.
  terms_spelled : (ts : List Ground) (f : List ℕ)
      → length f + length (symbols_of ts) ≤ length (join (f ∷ spell_terms ds (put_terms (renamed r) ts)))
  unfolding symbols_of spell_terms join
  terms_spelled [] f = omega arith
  terms_spelled (t ∷ ts) f =
      let g = spell_term (substitute t (renamed r)) ds in
      let h = term_spelled t in
      let k = terms_spelled ts g in
      let a = length-append (symbols_in t) (symbols_of ts) in
      let e = length-append f (tab ∷ join (g ∷ spell_terms ds (put_terms (renamed r) ts))) in
      omega arith

  -- A renamed D line has at least as many bytes as symbols.
  line_spelled : (x : Line Symbol)
      → length (symbols_of (line_terms x)) ≤ length (join (text_fields ds (derivation_line (put_line (renamed r) x))))
  unfolding symbols_of line_terms text_fields line_fields put_line spell_terms
  line_spelled (plain w) = omega arith
  line_spelled (Dsome t) =
      let h = terms_spelled (t ∷ []) (ascii "some") in
      let k = field_before (ascii "D") (ascii "some") (spell_term (substitute t (renamed r)) ds ∷ []) in
      omega arith
  line_spelled (Dall t) =
      let h = terms_spelled (t ∷ []) (ascii "all") in
      let k = field_before (ascii "D") (ascii "all") (spell_term (substitute t (renamed r)) ds ∷ []) in
      omega arith
  line_spelled (Dclause k ts) =
      let h = terms_spelled ts (decimal k) in
      let i = field_before (ascii "clause") (decimal k) (spell_terms ds (put_terms (renamed r) ts)) in
      let j = field_before (ascii "D") (ascii "clause") (decimal k ∷ spell_terms ds (put_terms (renamed r) ts)) in
      omega arith

  -- A renamed line with its LF has at least as many bytes as symbols.
  text_line_spelled : (x : TextLine) → length (symbols_of (terms_of x)) ≤ length (text_line (text_fields ds (rename_text_line r x)))
  unfolding terms_of rename_text_line text_line symbols_of spell_terms text_fields
  text_line_spelled (result_line n) = omega arith
  text_line_spelled (binding_line v t) =
      let h = terms_spelled (t ∷ []) (decimal v) in
      let k = field_before (ascii "B") (decimal v) (spell_term (substitute t (renamed r)) ds ∷ []) in
      let e = length-append (join (text_fields ds (binding_line v (substitute t (renamed r))))) (lf ∷ []) in
      omega arith
  text_line_spelled (derivation_line x) =
      let h = line_spelled x in
      let e = length-append (join (text_fields ds (derivation_line (put_line (renamed r) x)))) (lf ∷ []) in
      omega arith

  -- Renamed lines have together at least as many bytes as symbols.
  lines_spelled : (xs : List TextLine) → length (shown xs) ≤ length (spell ds (map (rename_text_line r) xs))
  unfolding shown spell
  lines_spelled [] = omega arith
  lines_spelled (x ∷ xs) =
      let h = text_line_spelled x in
      let k = lines_spelled xs in
      let a = length-append (symbols_of (terms_of x)) (shown xs) in
      let e = length-append (text_line (text_fields ds (rename_text_line r x))) (spell ds (map (rename_text_line r) xs)) in
      omega arith

-- So the numbers of a text are at most its length.
pub numbers_le : (ds : List Declaration) (xs : List TextLine) (n : ℕ) → length (proof_text ds xs) ≤ n
    → NumbersUpTo (numbering_of (shown xs)) n
unfolding proof_text numbered
numbers_le ds xs n h =
    let k = lines_spelled ds (numbering_of (shown xs)) xs in
    let i = numbering_of_le (shown xs) in
    record { of_made = λ m j. (let l = i.of_made m j in omega arith); of_leftover = λ m j. (let l = i.of_leftover m j in omega arith) }
