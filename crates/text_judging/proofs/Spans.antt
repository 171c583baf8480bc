-- Reading in front of bytes: `span` takes the longest beginning of one kind, `after` takes one byte.
use Prim.Native.Nat.{ℕ}
use mathlib.Core.Path.{◌≡◌, refl, sym, ap, subst}
use mathlib.Core.Bool.{Bool, true, false}
use mathlib.Core.List.{List, [], ◌∷◌, ◌++◌}
use mathlib.Core.Option.{Option}
use lib.Dec.{eqb}
use borrow.Author.Tests.{eqb-true}
use Rattle.sheet_format.specs.Bytes.{is_digit, is_name_byte}
use Rattle.sheet_format.proofs.Options.{OnSome}
use Rattle.sheet_format.proofs.Bytes.{Every, no_digit}
use Rattle.text_judging.specs.Reading.{Span, span, after}

-- What is taken and what follows it.
abbrev pub spanned : List ℕ → List ℕ → Span
spanned a r = record { taken = a; rest = r }

-- The first byte, if there is one, fails the test.
abbrev pub Stops : (ℕ → Bool) → List ℕ → Type 0
Stops k [] = Unit {0}
Stops k (c ∷ cs) = k c ≡ false

-- Where bytes do not begin with a byte of a name, they do not begin with a digit.
pub stops_digit : (b : List ℕ) → Stops is_name_byte b → Stops is_digit b
stops_digit [] h = tt
stops_digit (c ∷ cs) h = no_digit c h

-- Bytes of a kind, before bytes that do not begin with that kind, are what `span` takes.
pub span_append : (k : ℕ → Bool) (a r : List ℕ) → Every k a → Stops k r → span k (a ++ r) ≡ spanned a r
unfolding span
span_append k [] [] h s = refl
span_append k [] (c ∷ r) h s = rw (s, span)
span_append k (c ∷ a) r h s = rw (h.0, span) (ap (λ (x : Span). spanned (c ∷ x.taken) x.rest) (span_append k a r h.1 s))

-- What `span` takes and what follows it are the bytes.
pub span_split : (k : ℕ → Bool) (b : List ℕ) → b ≡ (span k b).taken ++ (span k b).rest
unfolding span
span_split k [] = refl
span_split k (c ∷ cs) = go (k c) refl (span_split k cs)
  where
    go : (b : Bool) → k c ≡ b → cs ≡ (span k cs).taken ++ (span k cs).rest → c ∷ cs ≡ (span k (c ∷ cs)).taken ++ (span k (c ∷ cs)).rest
    go true e ih = rw (e, span) (ap (c ∷◌) ih)
    go false e ih = rw (e, span)

-- What holds of all that r reads after the byte c holds of what `after c r` reads.
pub after_some : {A : Type 0} (P : List ℕ → A → Type 0) (c : ℕ) (r : List ℕ → Option A) → ((b : List ℕ) → OnSome (P (c ∷ b)) (r b))
    → (b : List ℕ) → OnSome (P b) (after c r b)
unfolding after
after_some P c r h [] = tt
after_some P c r h (d ∷ ds) = go (eqb d c) refl
  where
    go : (b : Bool) → eqb d c ≡ b → OnSome (P (d ∷ ds)) (after c r (d ∷ ds))
    go true e = rw (e, after) (subst (λ (x : ℕ). OnSome (P (x ∷ ds)) (r ds)) (sym (eqb-true d c e)) (h ds))
    go false e = rw (e, after) tt
