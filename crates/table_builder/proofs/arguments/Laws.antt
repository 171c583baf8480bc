-- Laws of specs/Symbols.antt for the code's proofs: writes in a row, and one law for each way through a turn of a loop.
use Prim.Native.Nat.{ℕ, ◌+◌, ◌≤◌, ◌<◌}
use native.Mathlib.Numerals.{add-one}
use mathlib.Core.Bool.{Bool, true, false, not, ◌&&◌, cond}
use Rattle.std.specs.List.{list_all}
use lib.Dec.{ltb, eqb}
use mathlib.Core.Path.{◌≡◌, refl}
use mathlib.Core.List.{List, [], ◌∷◌}
use lib.Bits.{bit_or}
use lib.ListN.{length, drop, get_or, drop_of_length-le}
use lib.Seq.{drop-cons}
use Rattle.node_table.specs.Layout.{mask_of, size_of}
use Rattle.table_builder.specs.Symbols.{all_there, all_terms, sizes_from, masks_from}

-- loops over arguments

pub there_all : (n : ℕ) (l : List ℕ) → all_there n l ≡ list_all (λ a. ltb a n) l
unfolding all_there
there_all n [] = refl
there_all n (a ∷ l) = go (ltb a n) (there_all n l)
  where
    go : (b : Bool) → all_there n l ≡ list_all (λ a. ltb a n) l → cond b (all_there n l) false ≡ (b && list_all (λ a. ltb a n) l)
    go true e = e
    go false e = refl

pub terms_all : (t l : List ℕ) → all_terms t l ≡ list_all (λ a. not (eqb (size_of t a) 0)) l
unfolding all_terms
terms_all t [] = refl
terms_all t (a ∷ l) = go (eqb (size_of t a) 0) (terms_all t l)
  where
    go : (b : Bool) → all_terms t l ≡ list_all (λ a. not (eqb (size_of t a) 0)) l
        → cond b false (all_terms t l) ≡ (not b && list_all (λ a. not (eqb (size_of t a) 0)) l)
    go true e = refl
    go false e = e

module _ (t : List ℕ) (i : ℕ) (l : List ℕ) where
  pub sizes_on : (sum s : ℕ) → i < length l → s ≡ size_of t (get_or l i 0)
      → sizes_from t sum (drop i l) ≡ sizes_from t (sum + s) (drop (i + 1) l)
  unfolding sizes_from
  sizes_on sum s h e = rw (drop-cons l i 0 h, add-one i, e)

  pub sizes_end : (sum : ℕ) → length l ≤ i → sizes_from t sum (drop i l) ≡ sum
  unfolding sizes_from
  sizes_end sum h = rw (drop_of_length-le l h)

  pub masks_on : (free m : ℕ) → i < length l → m ≡ mask_of t (get_or l i 0)
      → masks_from t free (drop i l) ≡ masks_from t (bit_or free m) (drop (i + 1) l)
  unfolding masks_from
  masks_on free m h e = rw (drop-cons l i 0 h, add-one i, e)

  pub masks_end : (free : ℕ) → length l ≤ i → masks_from t free (drop i l) ≡ free
  unfolding masks_from
  masks_end free h = rw (drop_of_length-le l h)
