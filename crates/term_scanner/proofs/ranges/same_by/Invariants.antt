use Rattle.std.proofs.Common.{◌≡◌, ℕ, Bool, ◌-◌, eqb, map}
use Rattle.scanning.specs.Ranges.{same_range}
use Rattle.term_scanner.proofs.ranges.same_by.Given as goal

abbrev pub invariant-loop-byte : goal.invariant-loop-byte
invariant-loop-byte g l =
    (f : ℕ → ℕ) → f 0 ≡ 0 → ((x y : ℕ) (z : Bool) → goal.F-post g l.same x y z → z ≡ eqb (f x) (f y))
    → same_range l.n (map f l.a) l.i (map f l.b) l.j ≡ same_range (l.n - l._byte) (map f l.a) l.p (map f l.b) l.q
