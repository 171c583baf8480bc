-- The arguments of an application: nodes that are there, terms, their sizes and masks.
use Prim.Native.Nat.{ℕ, zero, suc, ◌+◌, ◌<◌, ◌≤◌}
use native.Mathlib.Omega.{arith}
use mathlib.Core.Path.{◌≡◌, refl, sym, ap, ap₂, ◌∙◌}
use mathlib.Core.Bool.{Bool, true, false, ◌||◌, cond, true≢false, or-false}
use mathlib.Core.List.{List, [], ◌∷◌, map}
use mathlib.Core.Option.{none, some}
use lib.Bits.{bit_or, or_lt}
use lib.Dec.{ltb, leb, eqb}
use lib.ListN.{length, get_or, get_elem?}
use borrow.Author.Tests.{ltb-true, ltb-false, eqb-true, eqb-false, le-leb, lt-leb}
use Rattle.terms.specs.Lists.{All}
use Rattle.terms.specs.Terms.{Term, Terms, nil, cons, sizes}
use Rattle.formulas.specs.Formulas.{free_t, free_ts}
use Rattle.sheet_format.specs.Nodes.{Node, term_nodes, nodes_at, map2}
use Rattle.node_table.specs.Layout.{child_of, mask_of, bit_of, size_of}
use Rattle.node_table.specs.Decoding.{children_by, term_at}
use Rattle.node_table.specs.WellMade.{IsTerm}
use Rattle.table_builder.specs.declared.node_info.Counts.{Counts}
use Rattle.table_builder.specs.Symbols.{all_there, all_terms, sizes_from, masks_from, first_of}
use Rattle.table_decoding.specs.Decoding.{node_read, nodes_from, table_of, Decodes}
use Rattle.table_decoding.proofs.Bits.{bit_or_lem}
use Rattle.table_decoding.proofs.Sequences.{nodes_list, from_at, from_none}
use Rattle.table_decoding.proofs.Under.{mask_below}

-- The terms that r reads at the nodes.
unfoldable pub terms_by : (ℕ → Term ℕ) → List ℕ → Terms ℕ
terms_by r [] = nil
terms_by r (a ∷ l) = cons (r a) (terms_by r l)

pub terms_agree : (r s : ℕ → Term ℕ) (l : List ℕ) → All (λ a. r a ≡ s a) l → terms_by r l ≡ terms_by s l
unfolding terms_by
terms_agree r s [] h = refl
terms_agree r s (a ∷ l) h = ap₂ cons h.0 (terms_agree r s l h.1)

-- the children of a node, of which the first four are known

module _ (u : List ℕ) (n a b c d : ℕ) (e₀ : child_of u n 0 ≡ a) (e₁ : child_of u n 1 ≡ b) (e₂ : child_of u n 2 ≡ c)
    (e₃ : child_of u n 3 ≡ d) where
  pub children_first : (r : ℕ → Term ℕ) (count : ℕ) → count ≤ 4 → children_by r u n count 0 ≡ terms_by r (first_of count a b c d)
  unfolding children_by terms_by
  children_first r zero h = refl
  children_first r (suc zero) h = rw e₀
  children_first r (suc (suc zero)) h = rw (e₀, e₁)
  children_first r (suc (suc (suc zero))) h = rw (e₀, e₁, e₂)
  children_first r (suc (suc (suc (suc zero)))) h = rw (e₀, e₁, e₂, e₃)
  children_first r (suc (suc (suc (suc (suc x))))) h = absurd (omega arith)

  pub child_first : (j count : ℕ) → j < count → count ≤ 4 → child_of u n j ≡ get_or (first_of count a b c d) j 0
  child_first zero zero h l = absurd (omega arith)
  child_first zero (suc x) h l = e₀
  child_first (suc zero) zero h l = absurd (omega arith)
  child_first (suc zero) (suc zero) h l = absurd (omega arith)
  child_first (suc zero) (suc (suc x)) h l = e₁
  child_first (suc (suc zero)) zero h l = absurd (omega arith)
  child_first (suc (suc zero)) (suc zero) h l = absurd (omega arith)
  child_first (suc (suc zero)) (suc (suc zero)) h l = absurd (omega arith)
  child_first (suc (suc zero)) (suc (suc (suc x))) h l = e₂
  child_first (suc (suc (suc zero))) zero h l = absurd (omega arith)
  child_first (suc (suc (suc zero))) (suc zero) h l = absurd (omega arith)
  child_first (suc (suc (suc zero))) (suc (suc zero)) h l = absurd (omega arith)
  child_first (suc (suc (suc zero))) (suc (suc (suc zero))) h l = absurd (omega arith)
  child_first (suc (suc (suc zero))) (suc (suc (suc (suc x)))) h l = e₃
  child_first (suc (suc (suc (suc j)))) count h l = absurd (omega arith)

pub all_at : (P : ℕ → Type 0) (l : List ℕ) (j : ℕ) → All P l → j < length l → P (get_or l j 0)
all_at P [] j h k = absurd (omega arith)
all_at P (a ∷ l) zero h k = h.0
all_at P (a ∷ l) (suc j) h k = all_at P l j h.1 (omega arith)

module _ (bytes t : List ℕ) (k : Counts) (st : Decodes bytes t k) where
  -- A node that is there and a term.
  abbrev pub Argument : ℕ → Type 0
  Argument a = (a < k.nodes) × IsTerm t a

  there_at : (a : ℕ) → a < k.nodes → get_elem? (nodes_from t k.nodes 0) a ≡ some (node_read t a)
  there_at a h =
      ap (λ (l : List Node). get_elem? l a) (nodes_list t k.nodes 0) ∙ from_at (node_read t) k.nodes 0 a h
      ∙ ap (λ (x : ℕ). some (node_read t x)) (let e : 0 + a ≡ a = omega arith in e)

  missing_at : (a : ℕ) → k.nodes ≤ a → get_elem? (nodes_from t k.nodes 0) a ≡ none
  missing_at a h = ap (λ (l : List Node). get_elem? l a) (nodes_list t k.nodes 0) ∙ from_none (node_read t) k.nodes 0 a h

  -- The table has a node at each number below their count, and none from there on.
  pub node_there : (a : ℕ) → a < k.nodes → get_elem? (table_of bytes t k).nodes a ≡ some (node_read t a)
  unfolding table_of
  node_there a h = there_at a h

  pub node_missing : (a : ℕ) → k.nodes ≤ a → get_elem? (table_of bytes t k).nodes a ≡ none
  unfolding table_of
  node_missing a h = missing_at a h

  pub nodes_read : (l : List ℕ) → nodes_at (table_of bytes t k).nodes l ≡ cond (all_there k.nodes l) (some (map (node_read t) l)) none
  unfolding nodes_at all_there map2
  nodes_read [] = refl
  nodes_read (a ∷ l) = go (ltb a k.nodes) refl (nodes_read l)
    where
      join : (b : Bool) → map2 ◌∷◌ (some (node_read t a)) (cond b (some (map (node_read t) l)) none) ≡ cond b
          (some (node_read t a ∷ map (node_read t) l)) none
      join true = refl
      join false = refl

      go : (b : Bool) → ltb a k.nodes ≡ b
          → nodes_at (table_of bytes t k).nodes l ≡ cond (all_there k.nodes l) (some (map (node_read t) l)) none
          → map2 ◌∷◌ (get_elem? (table_of bytes t k).nodes a) (nodes_at (table_of bytes t k).nodes l) ≡ cond
          (cond b (all_there k.nodes l) false) (some (node_read t a ∷ map (node_read t) l)) none
      go true e ih = rw (node_there a (ltb-true a k.nodes e), ih) (join (all_there k.nodes l))
      go false e ih = rw (node_missing a (ltb-false a k.nodes e))

  pub terms_read : (l : List ℕ) → term_nodes (map (node_read t) l) ≡ cond (all_terms t l) (some (terms_by (term_at t) l)) none
  unfolding term_nodes all_terms terms_by node_read map2
  terms_read [] = refl
  terms_read (a ∷ l) = go (eqb (size_of t a) 0) refl (terms_read l)
    where
      join : (b : Bool) → map2 cons (some (term_at t a)) (cond b (some (terms_by (term_at t) l)) none) ≡ cond b
          (some (cons (term_at t a) (terms_by (term_at t) l))) none
      join true = refl
      join false = refl

      go : (b : Bool) → eqb (size_of t a) 0 ≡ b → term_nodes (map (node_read t) l) ≡ cond (all_terms t l) (some (terms_by (term_at t) l)) none
          → map2 cons (cond (leb 1 (size_of t a)) (some (term_at t a)) none) (term_nodes (map (node_read t) l))
          ≡ cond (cond b false (all_terms t l)) (some (cons (term_at t a) (terms_by (term_at t) l))) none
      go true e ih = let z = eqb-true (size_of t a) 0 e in rw (lt-leb 1 (size_of t a) (omega arith))
      go false e ih = let z = eqb-false (size_of t a) 0 e in rw (le-leb 1 (size_of t a) (omega arith), ih) (join (all_terms t l))

  -- Nodes that are all there and all terms are arguments.
  pub all_arguments : (l : List ℕ) → all_there k.nodes l ≡ true → all_terms t l ≡ true → All Argument l
  unfolding all_there all_terms
  all_arguments [] h j = tt
  all_arguments (a ∷ l) h j = go (ltb a k.nodes) refl (eqb (size_of t a) 0) refl h j (all_arguments l)
    where
      go : (x : Bool) → ltb a k.nodes ≡ x → (y : Bool) → eqb (size_of t a) 0 ≡ y → cond x (all_there k.nodes l) false ≡ true
          → cond y false (all_terms t l) ≡ true
          → (all_there k.nodes l ≡ true → all_terms t l ≡ true → All Argument l) → Argument a × All Argument l
      go true e true f p q ih = absurd (true≢false (sym q))
      go true e false f p q ih = let z = eqb-false (size_of t a) 0 f in ((ltb-true a k.nodes e, omega arith), ih p q)
      go false e y f p q ih = absurd (true≢false (sym p))

  pub sizes_are : (s : ℕ) (l : List ℕ) → All Argument l → sizes_from t s l ≡ s + sizes (terms_by (term_at t) l)
  unfolding sizes_from terms_by sizes
  sizes_are s [] h = omega arith
  sizes_are s (a ∷ l) h = let e = (st.term a h.0.0 h.0.1).size in let i = sizes_are (s + size_of t a) l h.1 in omega arith

  pub masks_below : (m : ℕ) (l : List ℕ) → m < 256 → masks_from t m l < 256
  unfolding masks_from
  masks_below m [] h = h
  masks_below m (a ∷ l) h = masks_below (bit_or m (mask_of t a)) l (or_lt 8 m (mask_of t a) h (mask_below t a))

  or_regroup : (x y z : Bool) → ((x || y) || z) ≡ (x || (y || z))
  or_regroup true y z = refl
  or_regroup false y z = refl

  pub masks_are : (m : ℕ) (l : List ℕ) (v : ℕ) → v < 8 → All Argument l
      → eqb (bit_of (masks_from t m l) v) 1 ≡ (eqb (bit_of m v) 1 || free_ts (terms_by (term_at t) l) v)
  unfolding masks_from terms_by free_ts
  masks_are m [] v lv h = sym (or-false (eqb (bit_of m v) 1))
  masks_are m (a ∷ l) v lv h =
      masks_are (bit_or m (mask_of t a)) l v lv h.1
      ∙ ap (λ (x : Bool). x || free_ts (terms_by (term_at t) l) v)
      (bit_or_lem v m (mask_of t a) ∙ ap (λ (x : Bool). eqb (bit_of m v) 1 || x) ((st.term a h.0.0 h.0.1).free v lv))
      ∙ or_regroup (eqb (bit_of m v) 1) (free_t (term_at t a) v) (free_ts (terms_by (term_at t) l) v)
