-- One law for each way through a turn of a loop or through a call; the hypotheses are the facts on the code's path.
use Prim.Native.Nat.{ℕ, zero, suc, ◌/◌, ◌%◌, ◌≤◌}
use native.Mathlib.Omega.{arith}
use mathlib.Core.Path.{◌≡◌, refl, sym, ap, ◌∙◌}
use mathlib.Core.Bool.{Bool, true, false, cond}
use mathlib.Core.List.{List}
use lib.Dec.{eqb}
use borrow.Author.Tests.{eq-eqb, ne_eqb}
use Rattle.node_table.specs.Layout.{and_kind, kind_of, mask_of, bit_of}
use Rattle.node_table.specs.Chains.{below_of}
use Rattle.clause_members.specs.declared.Found.{Found}
use Rattle.clause_members.specs.declared.Side.{Side}
use Rattle.clause_members.specs.Members.{found, with_leaf, side_of, chain_at, push_name, push_free, reverse_free, pass_chain}
use Rattle.clause_members.specs.Members.{FoundAs, find_member, member}
use Rattle.sheet_format.specs.Limits.{max_nodes}

-- Names reversed.

pub reverse_end : (n vs mask : ℕ) (m : Found) → n ≤ 0 → reverse_free n vs mask m ≡ m
unfolding reverse_free
reverse_end zero vs mask m p = refl
reverse_end (suc n) vs mask m p = absurd (omega arith)

pub reverse_on : (n k vs mask : ℕ) (m r : Found) → n ≡ suc k → r ≡ push_free mask (vs % 8) m
    → reverse_free n vs mask m ≡ reverse_free k (vs / 8) mask r
unfolding reverse_free
reverse_on n k vs mask m r p e = rw (p, e)

-- U nodes passed.

pub passed_first : (t : List ℕ) (m c : Found) → c ≡ chain_at t m.leaf → m.count ≡ 0 → c ≡ pass_chain t m
unfolding pass_chain reverse_free
passed_first t m c ec e = ec ∙ rw e

pub passed_more : (t : List ℕ) (m c z r s : Found) (x : ℕ) → c ≡ chain_at t m.leaf → x ≡ mask_of t m.leaf
    → z ≡ found m.leaf 0 0 → r ≡ reverse_free m.count m.names x z → s ≡ reverse_free r.count r.names x c → s ≡ pass_chain t m
unfolding pass_chain
passed_more t m c z r s x ec ex ez er es = rw (es, er, ez, ec, ex)

-- Leaves do not depend on names.

-- Names in front leave the leaf.
reverse_leaf : (n vs mask : ℕ) (m : Found) → (reverse_free n vs mask m).leaf ≡ m.leaf
unfolding reverse_free push_free push_name
reverse_leaf zero vs mask m = refl
reverse_leaf (suc n) vs mask m = reverse_leaf n (vs / 8) mask (push_free mask (vs % 8) m) ∙ go (eqb (bit_of mask (vs % 8)) 1)
  where
    go : (b : Bool) → (cond b (push_name (vs % 8) m) m).leaf ≡ m.leaf
    go true = refl
    go false = refl

pub passed_leaf : (t : List ℕ) (m : Found) → (pass_chain t m).leaf ≡ below_of t m.leaf
unfolding pass_chain chain_at
passed_leaf t m = reverse_leaf _ _ _ (chain_at t m.leaf)

pub passed_unnamed : (t : List ℕ) (m r : Found) (b : ℕ) → b ≡ below_of t m.leaf → r ≡ with_leaf m b → r.leaf ≡ (pass_chain t m).leaf
unfolding with_leaf
passed_unnamed t m r b eb er = ap (λ (x : Found). x.leaf) er ∙ eb ∙ sym (passed_leaf t m)

-- Equal tests pick equal leaves.
leaf_picked : (a b : Bool) (x x' y y' : Found) → a ≡ b → x.leaf ≡ x'.leaf → y.leaf ≡ y'.leaf
    → (elim a as (λ z. Found) [ true ↦ x | false ↦ y ]).leaf ≡ (elim b as (λ z. Found) [ true ↦ x' | false ↦ y' ]).leaf
leaf_picked a true x x' y y' e p q = rw e p
leaf_picked a false x x' y y' e p q = rw e q

-- So the leaf found does not depend on the names.
leaf_same : (f : ℕ) (t : List ℕ) (k : ℕ) (m r : Found) → m.leaf ≡ r.leaf → (find_member f t k m).leaf ≡ (find_member f t k r).leaf
unfolding find_member with_leaf
leaf_same zero t k m r e = e
leaf_same (suc f) t k m r e =
    let n = m.leaf in
    let d = side_of t n k in
    let p = passed_leaf t m ∙ ap (below_of t) e ∙ sym (passed_leaf t r) in
    leaf_picked _ _ _ _ _ _ (ap (λ (x : ℕ). eqb (kind_of t x) and_kind) e)
    (leaf_same f t d.place (with_leaf m d.node) (with_leaf r d.node) refl
    ∙ ap (λ (x : ℕ). (find_member f t (side_of t x k).place (with_leaf r (side_of t x k).node)).leaf) e)
    (leaf_picked _ _ _ _ _ _ (ap (λ (x : ℕ). eqb (kind_of t x) and_kind) p) (leaf_same f t k (pass_chain t m) (pass_chain t r) p) p)

-- The walk, with names or without.

pub found_trans : (b : Bool) (x y z : Found) → FoundAs b x y → FoundAs b y z → FoundAs b x z
found_trans b x y z p q = (p.0 ∙ q.0, λ e. p.1 e ∙ q.1 e)

pub found_same : (b : Bool) (x y : Found) → x ≡ y → FoundAs b x y
found_same b x y e = (ap (λ (m : Found). m.leaf) e, λ h. e)

pub find_end : (t : List ℕ) (f k : ℕ) (m : Found) → f ≤ 0 → find_member f t k m ≡ m
unfolding find_member
find_end t zero k m p = refl
find_end t (suc f) k m p = absurd (omega arith)

-- From states that are found alike the walk goes on alike.
find_alike : (b : Bool) (f : ℕ) (t : List ℕ) (k : ℕ) (m r : Found) → FoundAs b m r → FoundAs b (find_member f t k m) (find_member f t k r)
find_alike b f t k m r h = (leaf_same f t k m r h.0, λ e. ap (find_member f t k) (h.1 e))

module _ (t : List ℕ) (f g k : ℕ) (m : Found) (p : f ≡ suc g) (s : ℕ) (es : s ≡ kind_of t m.leaf) where
  pub find_side : (d : Side) (r : Found) → s ≡ and_kind → d ≡ side_of t m.leaf k → r ≡ with_leaf m d.node
      → find_member f t k m ≡ find_member g t d.place r
  unfolding find_member
  find_side d r e ed er = rw (p, er, ed) (simp (find_member, ← es, eq-eqb _ _ e))

  module _ (b : Bool) (r : Found) (e : s ≡ and_kind → ⊥) (er : FoundAs b r (pass_chain t m)) (s' : ℕ) (es' : s' ≡ kind_of t r.leaf) where
    below_kind : s' ≡ kind_of t (pass_chain t m).leaf
    below_kind = es' ∙ ap (kind_of t) er.0

    pub find_on : s' ≡ and_kind → FoundAs b (find_member g t k r) (find_member f t k m)
    unfolding find_member
    find_on e' =
        let x : find_member g t k (pass_chain t m) ≡ find_member f t k m =
        rw p (simp (find_member, ← es, ne_eqb _ _ e, ← below_kind, eq-eqb _ _ e')) in
        found_trans b _ _ _ (find_alike b g t k r (pass_chain t m) er) (found_same b _ _ x)

    pub find_done : (s' ≡ and_kind → ⊥) → FoundAs b r (find_member f t k m)
    unfolding find_member
    find_done e' =
        let x : pass_chain t m ≡ find_member f t k m = rw p (simp (find_member, ← es, ne_eqb _ _ e, ← below_kind, ne_eqb _ _ e')) in
        found_trans b _ _ _ er (found_same b _ _ x)

-- A clause that is a row of U nodes over a leaf has one member. An & node is its own end of such a row.
pub member_only : (t : List ℕ) (n k s : ℕ) (m : Found) → m ≡ chain_at t n → s ≡ kind_of t m.leaf → (s ≡ and_kind → ⊥) → m ≡ member t n k
unfolding member chain_at below_of
member_only t n k s m em es z =
    let below : m.leaf ≡ below_of t n = ap (λ (x : Found). x.leaf) em in
    let itself : kind_of t n ≡ and_kind → below_of t n ≡ n = λ e. rw e in
    let other : kind_of t n ≡ and_kind → ⊥ = λ e. z (es ∙ ap (kind_of t) (below ∙ itself e) ∙ e) in
    let passed = found_same true _ _ (passed_first t (found n 0 0) m em refl) in
    (find_done t max_nodes 1023 k (found n 0 0) refl (kind_of t n) refl true m other passed s es z).1 refl
