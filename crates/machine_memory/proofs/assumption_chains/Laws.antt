-- One law for each way through a turn of a loop or through a call; the hypotheses are the facts on the code's path.
use Prim.Native.Nat.{ℕ, zero, suc, ◌+◌, ◌-◌, ◌≤◌, ◌<◌}
use native.Mathlib.Omega.{arith}
use mathlib.Core.Path.{◌≡◌, refl}
use mathlib.Core.List.{List}
use borrow.Author.Tests.{le-leb, lt-leb}
use Rattle.machine.specs.AssumptionChains.{depth_of, step_towards, find_ancestor}

pub find_ancestor_end : (n e : ℕ) (w : List ℕ) (p d : ℕ) → n ≤ e → find_ancestor (n - e) w p d ≡ p
unfolding find_ancestor
find_ancestor_end n e w p d h = let k : n - e ≡ 0 = omega arith in rw k

pub find_ancestor_here : (n : ℕ) (w : List ℕ) (p d m : ℕ) → m ≡ depth_of w p → m ≤ d → find_ancestor n w p d ≡ p
unfolding find_ancestor
find_ancestor_here zero w p d m em l = refl
find_ancestor_here (suc n) w p d m em l = rw (← em, le-leb m d l) refl

pub find_ancestor_on : (n e : ℕ) (w : List ℕ) (p d m q : ℕ) → e < n → m ≡ depth_of w p → d < m → q ≡ step_towards w p d
    → find_ancestor (n - e) w p d ≡ find_ancestor (n - (e + 1)) w q d
unfolding find_ancestor
find_ancestor_on n e w p d m q h em l eq =
    let k : n - e ≡ suc (n - (e + 1)) = omega arith in rw (k, ← em, lt-leb m d l, ← eq) refl
