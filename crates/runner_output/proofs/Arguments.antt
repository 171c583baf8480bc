-- The number of proofs in an argument: the bytes that are a number are those that are the only field of a line and a number.
use Prim.Native.Nat.{ℕ}
use native.Mathlib.Omega.{arith}
use mathlib.Core.Path.{◌≡◌, refl, sym, ap, ◌∙◌}
use mathlib.Core.Bool.{Bool, true, false}
use mathlib.Core.List.{List, [], ◌∷◌}
use mathlib.Core.Option.{Option, none, some}
use lib.Dec.{eqb}
use Rattle.sheet_format.specs.Bytes.{tab, extend_field, fields, is_digit, number}
use Rattle.sheet_format.specs.SheetLines.{cons_number, numbers}
use Rattle.sheet_format.proofs.Bytes.{Without}
use Rattle.sheet_format.proofs.Numbers.{decimal_number, decimal_without}
use Rattle.std.specs.Prelude.{Ok, Err, Result}
use Rattle.std.specs.Result.{result_unwrap_or}
use Rattle.outcomes.specs.declared.refusals.Reason.{Reason}
use Rattle.line_parser.specs.Lines.{one_answer}
use Rattle.line_parser.proofs.lines.Laws.{one_is}
use Rattle.runner_output.specs.RunnerOutput.{or_zero, proofs_asked}

-- Bytes without a tab are one field.
one_field : (s : List ℕ) → Without tab s → fields s ≡ s ∷ []
unfolding fields extend_field
one_field [] h = refl
one_field (c ∷ cs) h = rw (h.0, fields) (ap (extend_field c) (one_field cs h.1))

-- A number has no tab.
number_without : (s : List ℕ) (n : ℕ) → number s ≡ some n → Without tab s
unfolding is_digit
number_without s n e = rw (decimal_number s n e).0 (decimal_without n tab refl)

-- So it is read as the only field.
number_alone : (s : List ℕ) (n : ℕ) → number s ≡ some n → one_answer (numbers (fields s)) ≡ Ok n
unfolding numbers cons_number one_answer
number_alone s n e = rw (one_field s (number_without s n e)) (rw e)

-- A byte before fields stands in the first of at least one.
extended_some : (c : ℕ) (fs : List (List ℕ)) → extend_field c fs ≡ [] → ⊥
unfolding extend_field
extended_some c [] h = let z : ◌≡◌ {A = ℕ} 0 1 = cc in omega arith
extended_some c (f ∷ fs) h = let z : ◌≡◌ {A = ℕ} 0 1 = cc in omega arith

-- Bytes have at least one field.
some_field : (s : List ℕ) → fields s ≡ [] → ⊥
unfolding fields
some_field [] h = let z : ◌≡◌ {A = ℕ} 0 1 = cc in omega arith
some_field (c ∷ cs) h = go (eqb c tab) refl
  where
    go : (t : Bool) → eqb c tab ≡ t → ⊥
    go true e =
        let k : [] ∷ fields cs ≡ [] = rw (← h) (rw (e, fields)) in
        let z : ◌≡◌ {A = ℕ} 0 1 = cc in omega arith
    go false e = extended_some c (fields cs) (rw (← h) (rw (e, fields)))

-- A byte before fields that make one field stands in it.
extended_one : (c : ℕ) (f : List ℕ) (fs : List (List ℕ)) → (fs ≡ [] → ⊥) → extend_field c fs ≡ f ∷ []
    → (g : List ℕ) × (fs ≡ g ∷ []) × (f ≡ c ∷ g)
unfolding extend_field
extended_one c f [] h k = absurd (h refl)
extended_one c f (g ∷ []) h k = (g, refl, cc)
extended_one c f (g ∷ h ∷ hs) l k = let z : ◌≡◌ {A = ℕ} 0 1 = cc in absurd (omega arith)

-- The only field is all of the bytes.
only_field : (s f : List ℕ) → fields s ≡ f ∷ [] → f ≡ s
unfolding fields
only_field [] f h = cc
only_field (c ∷ cs) f h = go (eqb c tab) refl (only_field cs)
  where
    go : (t : Bool) → eqb c tab ≡ t → ((g : List ℕ) → fields cs ≡ g ∷ [] → g ≡ cs) → f ≡ c ∷ cs
    go true e ih =
        let k : [] ∷ fields cs ≡ f ∷ [] = rw (← h) (rw (e, fields)) in
        absurd (some_field cs cc)
    go false e ih =
        let k : extend_field c (fields cs) ≡ f ∷ [] = rw (← h) (rw (e, fields)) in
        let r = extended_one c f (fields cs) (some_field cs) k in
        r.2 ∙ ap (◌∷◌ c) (ih r.0 r.1)

-- One number is the first, with none after it.
cons_one : (a : Option ℕ) (b : Option (List ℕ)) (n : ℕ) → cons_number a b ≡ some (n ∷ []) → (a ≡ some n) × (b ≡ some [])
unfolding cons_number
cons_one none b n h = let z : ◌≡◌ {A = ℕ} 0 1 = cc in absurd (omega arith)
cons_one (some m) none n h = let z : ◌≡◌ {A = ℕ} 0 1 = cc in absurd (omega arith)
cons_one (some m) (some []) n h = let z : m ≡ n = cc in (ap some z, refl)
cons_one (some m) (some (k ∷ ks)) n h = let z : ◌≡◌ {A = ℕ} 0 1 = cc in absurd (omega arith)

-- A first number is no list of none.
cons_some : (a : Option ℕ) (b : Option (List ℕ)) → cons_number a b ≡ some [] → ⊥
unfolding cons_number
cons_some none b h = let z : ◌≡◌ {A = ℕ} 0 1 = cc in omega arith
cons_some (some m) none h = let z : ◌≡◌ {A = ℕ} 0 1 = cc in omega arith
cons_some (some m) (some ks) h = let z : ◌≡◌ {A = ℕ} 0 1 = cc in omega arith

-- Fields that are one number are one field.
numbers_one : (fs : List (List ℕ)) (n : ℕ) → numbers fs ≡ some (n ∷ []) → (f : List ℕ) × (fs ≡ f ∷ []) × (number f ≡ some n)
unfolding numbers
numbers_one [] n h = let z : ◌≡◌ {A = ℕ} 0 1 = cc in absurd (omega arith)
numbers_one (f ∷ []) n h = (f, refl, (cons_one (number f) (some []) n h).0)
numbers_one (f ∷ g ∷ gs) n h = absurd (cons_some (number g) (numbers gs) (cons_one (number f) (cons_number (number g) (numbers gs)) n h).1)

-- So bytes that are read as one number are that number.
alone_number : (s : List ℕ) (n : ℕ) → numbers (fields s) ≡ some (n ∷ []) → number s ≡ some n
alone_number s n h =
    let r = numbers_one (fields s) n h in
    sym (ap number (only_field s r.0 r.1)) ∙ r.2

-- The number that is read, or 0, is the one that the argument asks for.
pub asked_number : (s : List ℕ) → result_unwrap_or (one_answer (numbers (fields s))) 0 ≡ proofs_asked s
unfolding proofs_asked or_zero
asked_number s = go (number s) refl (one_answer (numbers (fields s))) refl
  where
    go : (o : Option ℕ) → number s ≡ o → (r : Result ℕ Reason) → one_answer (numbers (fields s)) ≡ r → result_unwrap_or r 0 ≡ or_zero o
    go none e (Err reason) h = refl
    go none e (Ok n) h = let k = alone_number s n (one_is _ n h) in let z : ◌≡◌ {A = ℕ} 0 1 = cc in absurd (omega arith)
    go (some n) e r h = rw (sym h ∙ number_alone s n e)
