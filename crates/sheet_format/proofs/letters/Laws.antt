-- Folding is the library's change to small letters.
use Prim.Native.Nat.{ℕ, ◌+◌, ◌-◌}
use native.Mathlib.Omega.{arith}
use mathlib.Core.Bool.{Bool, true, false}
use mathlib.Core.Path.{◌≡◌, refl, sym}
use lib.Dec.{leb}
use borrow.Author.Tests.{leb-true, leb-false}
use Rattle.std.specs.Char.{to_ascii_lowercase}
use Rattle.std.proofs.lemmas.Str.Ascii.{lowercase_is}
use Rattle.sheet_format.specs.Bytes.{is_capital, folded}

pub folded_lowercase : (c : ℕ) → folded c ≡ to_ascii_lowercase c
unfolding folded is_capital
folded_lowercase c = go (leb 65 c) refl (leb c 90) refl
  where
    go : (x : Bool) → leb 65 c ≡ x → (y : Bool) → leb c 90 ≡ y → folded c ≡ to_ascii_lowercase c
    go true p true q =
        let h = leb-true 65 c p in
        let k = leb-true c 90 q in
        let e : c - 65 + 97 ≡ c + 32 = omega arith in
        rw (p, q, e) (sym ((lowercase_is c).0 (h, k)))
    go true p false q = let h = leb-false c 90 q in rw (p, q) (sym ((lowercase_is c).2 (omega arith)))
    go false p y q = let h = leb-false 65 c p in rw p (sym ((lowercase_is c).1 (omega arith)))
