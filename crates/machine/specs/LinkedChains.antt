-- What a chain of assumptions is (W-207): its records as walking along the parents finds them, what holds of their depths and jumps,
-- and what is found on it.
use Rattle.std.specs.Prelude.{ℕ, zero, suc, ◌-◌, ◌≤◌, ◌<◌, ◌≡◌, List, [], ◌∷◌, ◌++◌, get_or}
use Rattle.machine.specs.AssumptionChains.{parent_of, depth_of, jump_of, find_ancestor, oldest_of, later_of}

-- Where k steps along the parents lead from p.
unfoldable pub climb : ℕ → List ℕ → ℕ → ℕ
climb zero w p = p
climb (suc k) w p = climb k w (parent_of w p)

-- The n assumptions of the chain p in the order in which they were made.
unfoldable pub oldest_first : ℕ → List ℕ → ℕ → List ℕ
oldest_first zero w p = []
oldest_first (suc n) w p = oldest_first n w (parent_of w p) ++ (p ∷ [])

-- What holds of the latest record of a chain in which n records are older: they were written before it, its jump goes to one of them or
-- to the end, and its oldest is the one that n steps lead to.
pub record Link (n : ℕ) (w : List ℕ) (p : ℕ) : Type 0 where
  pub some : 0 < p
  pub deep : depth_of w p ≡ suc n
  pub earlier : parent_of w p < p
  pub steps : ℕ
  pub few : steps ≤ n
  pub jumps : jump_of w p ≡ climb steps w (parent_of w p)
  pub oldest : oldest_of w p ≡ climb n w p

-- The chain p has n records, linked by parents, depths, jumps and oldest ones.
unfoldable pub Linked : ℕ → List ℕ → ℕ → Type 0
Linked zero w p = p ≡ 0
Linked (suc n) w p = Link n w p × Linked n w (parent_of w p)

-- What is found on a chain p of n records: for each depth the record that walking along the parents comes to, which stands at that
-- place of the chain's list; the list's first; after each of the list the next, 0 after the last.
pub record Finds (n : ℕ) (w : List ℕ) (p : ℕ) : Type 0 where
  pub ancestors : (d : ℕ) → d ≤ n → find_ancestor (depth_of w p) w p d ≡ climb (n - d) w p
  pub places : (i : ℕ) → i < n → find_ancestor (depth_of w p) w p (suc i) ≡ get_or (oldest_first n w p) i 0
  pub first : oldest_of w p ≡ get_or (oldest_first n w p) 0 0
  pub next : (i : ℕ) → i < n → later_of w p (get_or (oldest_first n w p) i 0) ≡ get_or (oldest_first n w p) (suc i) 0
