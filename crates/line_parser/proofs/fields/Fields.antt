-- What the first field says of all fields of the rest of a line. Assumes nothing.
use Prim.Native.Nat.{ℕ, suc, ◌+◌, ◌≤◌, ◌<◌}
use native.Mathlib.Numerals.{add-one}
use native.Mathlib.Omega.{arith}
use mathlib.Core.Bool.{Bool, true, false, cond, true≢false}
use mathlib.Core.Path.{◌≡◌, refl, sym, ap, ◌∙◌}
use mathlib.Core.List.{List, [], ◌∷◌}
use mathlib.Core.Option.{Option, none, some}
use lib.Dec.{ltb, eqb, leb-suc-suc}
use lib.ListN.{length, drop}
use lib.Seq.{length-take-le}
use borrow.Author.Tests.{lt-ltb, le-ltb}
use Rattle.sheet_format.specs.Limits.{max_number}
use Rattle.sheet_format.specs.Bytes.{tab, extend_field, fields, is_name, number}
use Rattle.sheet_format.specs.SheetLines.{cons_number, numbers}
use Rattle.sheet_format.proofs.Numbers.{decimal_number}
use Rattle.std.specs.Prelude.{Some, None}
use Rattle.line_parser.specs.Fields.{field_len, first_field, number_answer, first_number, first_name}
use Rattle.line_parser.proofs.fields.Laws.{len_le}

-- The first of `fields` is the first field; the others are those of what stands after its tab, if there is one.
pub fields_first : (s : List ℕ) → fields s ≡ first_field s ∷ cond (ltb (field_len s) (length s)) (fields (drop (field_len s + 1) s)) []
unfolding fields field_len first_field extend_field
fields_first [] = refl
fields_first (c ∷ cs) = go (eqb c tab) refl (fields_first cs)
  where
    go : (t : Bool) → eqb c tab ≡ t
        → fields cs ≡ first_field cs ∷ cond (ltb (field_len cs) (length cs)) (fields (drop (field_len cs + 1) cs)) []
        → fields (c ∷ cs) ≡ first_field (c ∷ cs) ∷ cond (ltb (field_len (c ∷ cs)) (length (c ∷ cs)))
        (fields (drop (field_len (c ∷ cs) + 1) (c ∷ cs))) []
    go true e ih = rw (e, fields) (rw (lt-ltb 0 (suc (length cs)) (omega arith)))
    go false e ih =
        rw (e, fields) (rw (add-one (suc (field_len cs)), leb-suc-suc (suc (field_len cs)) (length cs))
        (ap (extend_field c) ih ∙ rw (add-one (field_len cs))))

-- A first field that ends with the line is the only field.
pub fields_last : (s : List ℕ) → length s ≤ field_len s → fields s ≡ first_field s ∷ []
fields_last s h = fields_first s ∙ rw (le-ltb (field_len s) (length s) h)

-- A first field that ends before the line has the fields after its tab behind it.
pub fields_more : (s : List ℕ) → field_len s < length s → fields s ≡ first_field s ∷ fields (drop (field_len s + 1) s)
fields_more s h = fields_first s ∙ rw (lt-ltb (field_len s) (length s) h)

-- numbers

-- An answer with a value says the number and the length of the field.
value_is : (n : ℕ) (o : Option ℕ) (v e : ℕ) → number_answer n o ≡ Some (v, e) → (o ≡ some v) × (n ≡ e)
unfolding number_answer
value_is n none v e h = let z : ◌≡◌ {A = ℕ} 0 1 = cc in absurd (omega arith)
value_is n (some w) v e h =
    let p : ◌≡◌ {A = ℕ × ℕ} (w, n) (v, e) = cc in
    (ap (λ (q : ℕ × ℕ). some q.0) p, ap (λ (q : ℕ × ℕ). q.1) p)

-- An answer without a value says that there is no number.
bad_is : (n : ℕ) (o : Option ℕ) → number_answer n o ≡ None → o ≡ none
unfolding number_answer
bad_is n none h = refl
bad_is n (some w) h = let z : ◌≡◌ {A = ℕ} 0 1 = cc in absurd (omega arith)

module _ (s : List ℕ) where
  -- An answer with a value says the number of the first field and its length.
  first_is : (v e : ℕ) → first_number s ≡ Some (v, e) → (number (first_field s) ≡ some v) × (field_len s ≡ e)
  unfolding first_number
  first_is v e h = value_is (field_len s) (number (first_field s)) v e h

  -- A number that was read lies within the line.
  pub first_le : (v e : ℕ) → first_number s ≡ Some (v, e) → e ≤ length s
  first_le v e h = omega (arith, (first_is v e h).1, len_le s)

  -- A number that was read is at most 65,535.
  pub first_bound : (v e : ℕ) → first_number s ≡ Some (v, e) → v ≤ max_number
  first_bound v e h = (decimal_number (first_field s) v (first_is v e h).0).1

  -- Where no number comes first, the fields are not all numbers.
  pub first_bad : first_number s ≡ None → numbers (fields s) ≡ none
  unfolding first_number numbers cons_number
  first_bad h = ap numbers (fields_first s) ∙ rw (bad_is (field_len s) (number (first_field s)) h)

  -- Where a number comes first, it is the first of the numbers.
  pub first_value : (v e : ℕ) → first_number s ≡ Some (v, e)
      → numbers (fields s) ≡ cons_number (some v) (numbers (cond (ltb (field_len s) (length s)) (fields (drop (field_len s + 1) s)) []))
  unfolding numbers
  first_value v e h = ap numbers (fields_first s) ∙ rw (first_is v e h).0

  -- A number that is the only field is the only one of the numbers.
  pub first_last : (v e : ℕ) → first_number s ≡ Some (v, e) → length s ≤ e → numbers (fields s) ≡ some (v ∷ [])
  unfolding numbers cons_number
  first_last v e h l =
      let r = first_is v e h in
      ap numbers (fields_last s (omega arith)) ∙ rw r.0

  -- A number with other fields after it comes before the numbers of those fields.
  pub first_more : (v e : ℕ) → first_number s ≡ Some (v, e) → e < length s
      → numbers (fields s) ≡ cons_number (some v) (numbers (fields (drop (e + 1) s)))
  unfolding numbers
  first_more v e h l =
      let r = first_is v e h in
      ap numbers (fields_more s (omega arith)) ∙ rw (r.0, r.1)

  -- Where the fields are numbers, there is at least one number.
  pub numbers_some : numbers (fields s) ≡ some [] → ⊥
  unfolding numbers cons_number
  numbers_some h =
      go (number (first_field s)) (numbers (cond (ltb (field_len s) (length s)) (fields (drop (field_len s + 1) s)) []))
      (sym (ap numbers (fields_first s)) ∙ h)
    where
      go : (a : Option ℕ) (b : Option (List ℕ)) → cons_number a b ≡ some [] → ⊥
      go none b k = let z : ◌≡◌ {A = ℕ} 0 1 = cc in omega arith
      go (some n) none k = let z : ◌≡◌ {A = ℕ} 0 1 = cc in omega arith
      go (some n) (some ns) k = let z : ◌≡◌ {A = ℕ} 0 1 = cc in omega arith

-- names

-- An empty field is no name.
empty_no : (f : List ℕ) → is_name f ≡ true → length f ≡ 0 → ⊥
unfolding is_name
empty_no [] e h = true≢false (sym e)
empty_no (c ∷ cs) e h = omega arith

module _ (s : List ℕ) where
  -- The length of the first field as a list is `field_len`.
  pub first_length : length (first_field s) ≡ field_len s
  unfolding first_field
  first_length = length-take-le (field_len s) s (len_le s)

  -- If the answer is empty, no name comes first.
  pub name_absent : length (first_name s) ≡ 0 → is_name (first_field s) ≡ false
  unfolding first_name
  name_absent h = go (is_name (first_field s)) refl h
    where
      go : (t : Bool) → is_name (first_field s) ≡ t → length (cond t (first_field s) []) ≡ 0 → t ≡ false
      go true e k = absurd (empty_no (first_field s) e k)
      go false e k = refl

  -- If the answer is not empty, the first field is a name and the answer has its length.
  pub name_present : (length (first_name s) ≡ 0 → ⊥) → (is_name (first_field s) ≡ true) × (length (first_name s) ≡ field_len s)
  unfolding first_name
  name_present h = go (is_name (first_field s)) refl h
    where
      go : (t : Bool) → is_name (first_field s) ≡ t → (length (cond t (first_field s) []) ≡ 0 → ⊥) → (is_name (first_field s) ≡ true)
          × (length (cond t (first_field s) []) ≡ field_len s)
      go true e k = (e, first_length)
      go false e k = absurd (k refl)
