-- U nodes that the walk passes: the digits of the names are those of the names above that stand free there, then those of the U nodes.
use Prim.Native.Nat.{ℕ, zero, suc, ◌+◌, ◌/◌, ◌%◌, ◌≤◌}
use native.Mathlib.Omega.{arith}
use mathlib.Core.Path.{◌≡◌, refl, ap, ◌∙◌}
use mathlib.Core.Bool.{Bool, true, false, cond}
use mathlib.Core.List.{List, [], ◌∷◌, ◌++◌}
use lib.Dec.{eqb}
use lib.ListN.{length}
use Rattle.node_table.specs.Layout.{mask_of, bit_of}
use Rattle.clause_members.specs.declared.Found.{Found}
use Rattle.clause_members.specs.Members.{found, chain_at, push_name, push_free, reverse_free, pass_chain}
use Rattle.clause_members.proofs.Prefixes.{keep, names_of, names_length, Prefix, prefix_few, Digits, digits_none, digits_push}

-- The numbers of a list that pass a test, in reverse order, in front of another list.
unfoldable reversed : (ℕ → Bool) → List ℕ → List ℕ → List ℕ
reversed p [] l = l
reversed p (u ∷ us) l = reversed p us (cond (p u) (u ∷ l) l)

-- Reversed twice, the order is the first one.
reversed_twice : (p : ℕ → Bool) (us a b : List ℕ) → reversed p (reversed p us a) b ≡ reversed p a (keep p us ++ b)
unfolding reversed keep
reversed_twice p [] a b = refl
reversed_twice p (u ∷ us) a b = go (p u) refl (reversed_twice p us)
  where
    go : (c : Bool) → p u ≡ c → ((d e : List ℕ) → reversed p (reversed p us d) e ≡ reversed p d (keep p us ++ e))
        → reversed p (reversed p us (cond c (u ∷ a) a)) b ≡ reversed p a (cond c (u ∷ keep p us) (keep p us) ++ b)
    go true e ih = ih (u ∷ a) b ∙ rw e
    go false e ih = ih a b

-- Lengths.
keep_length : (p : ℕ → Bool) (l : List ℕ) → length (keep p l) ≤ length l
unfolding keep
keep_length p [] = omega arith
keep_length p (v ∷ l) = go (p v) (keep_length p l)
  where
    go : (b : Bool) → length (keep p l) ≤ length l → length (cond b (v ∷ keep p l) (keep p l)) ≤ suc (length l)
    go true h = omega arith
    go false h = omega arith

reversed_length : (p : ℕ → Bool) (us l : List ℕ) → length (reversed p us l) ≡ length (keep p us) + length l
unfolding reversed keep
reversed_length p [] l = omega arith
reversed_length p (u ∷ us) l = go (p u) (reversed_length p us)
  where
    go : (b : Bool) → ((k : List ℕ) → length (reversed p us k) ≡ length (keep p us) + length k)
        → length (reversed p us (cond b (u ∷ l) l)) ≡ length (cond b (u ∷ keep p us) (keep p us)) + length l
    go true ih = let e = ih (u ∷ l) in omega arith
    go false ih = ih l

-- The digits reversed are those of the list reversed.
reverse_digits : (n vs mask : ℕ) (m : Found) (l : List ℕ) → length (keep (λ v. eqb (bit_of mask v) 1) (names_of n vs)) + length l ≤ 8
    → Digits m l → Digits (reverse_free n vs mask m) (reversed (λ v. eqb (bit_of mask v) 1) (names_of n vs) l)
unfolding reverse_free push_free reversed names_of keep
reverse_digits zero vs mask m l few d = d
reverse_digits (suc n) vs mask m l few d = go (eqb (bit_of mask (vs % 8)) 1) few (reverse_digits n (vs / 8) mask)
  where
    p : ℕ → Bool
    p v = eqb (bit_of mask v) 1

    us : List ℕ
    us = names_of n (vs / 8)

    go : (b : Bool) → length (cond b (vs % 8 ∷ keep p us) (keep p us)) + length l ≤ 8
        → ((r : Found) (k : List ℕ) → length (keep p us) + length k ≤ 8 → Digits r k
        → Digits (reverse_free n (vs / 8) mask r) (reversed p us k))
        → Digits (reverse_free n (vs / 8) mask (cond b (push_name (vs % 8) m) m)) (reversed p us (cond b (vs % 8 ∷ l) l))
    go true f ih = ih (push_name (vs % 8) m) (vs % 8 ∷ l) (omega arith) (digits_push (vs % 8) m l (omega arith) (omega arith) d)
    go false f ih = ih m l f d

-- So the walk has, below the U nodes, what stands free of its names, and then the names of the U nodes.
pub passed_digits : (t : List ℕ) (m : Found) (l : List ℕ) → Prefix m → Digits (chain_at t m.leaf) l
    → length (keep (λ v. eqb (bit_of (mask_of t m.leaf) v) 1) (names_of m.count m.names)) + length l ≤ 8
    → Digits (pass_chain t m) (keep (λ v. eqb (bit_of (mask_of t m.leaf) v) 1) (names_of m.count m.names) ++ l)
unfolding pass_chain reversed
passed_digits t m l x d few =
    let mask = mask_of t m.leaf in
    let p : ℕ → Bool = λ v. eqb (bit_of mask v) 1 in
    let vs = names_of m.count m.names in
    let most = prefix_few m x in
    let i = keep_length p vs in
    let j = names_length m.count m.names in
    let a = reverse_digits m.count m.names mask (found m.leaf 0 0) [] (omega arith) (digits_none m.leaf) in
    let r = reverse_free m.count m.names mask (found m.leaf 0 0) in
    let h = ap (λ (z : List ℕ). length (keep p z)) a.is in
    let g = keep_length p (reversed p vs []) in
    let e = reversed_length p vs [] in
    let b = reverse_digits r.count r.names mask (chain_at t m.leaf) l (omega arith) d in
    record {
      is = b.is ∙ ap (λ (z : List ℕ). reversed p z l) a.is ∙ reversed_twice p vs [] l;
      fits = b.fits;
    }
