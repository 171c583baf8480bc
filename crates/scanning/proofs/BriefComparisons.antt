-- A brief comparison is right where it decides; where it does not, atoms are compared by classes.
use Prim.Native.Nat.{ℕ, zero, suc, ◌+◌, ◌-◌, ◌<◌, ◌≤◌}
use native.Mathlib.Omega.{arith}
use native.Mathlib.Numerals.{add-one}
use mathlib.Core.Path.{◌≡◌, refl, sym, ap, ap₂, ◌∙◌, subst}
use mathlib.Core.Bool.{Bool, true, false, ◌&&◌, cond}
use mathlib.Core.List.{List}
use mathlib.Core.Logic.{◌⊎◌, inl, inr}
use lib.Dec.{eqb, ltb}
use Rattle.std.specs.Prelude.{Option, Some, None}
use borrow.Author.Tests.{eqb-true}
use Rattle.terms.specs.Terms.{substitute, substitutes}
use Rattle.sequents.specs.Symbols.{Symbol, Ground}
use Rattle.sequents.specs.Sequents.{Environment}
use Rattle.sheet_format.proofs.Names.{Names}
use Rattle.sheet_format.specs.Limits.{max_nodes}
use Rattle.node_table.specs.Layout.{child_count, label_of, child_of}
use Rattle.node_table.specs.Decoding.{children_by, term_at, arguments_at, declarations_from}
use Rattle.node_table.specs.WellMade.{label_arity, Arguments}
use Rattle.node_table.proofs.Decoding.{Nodes}
use Rattle.node_table.proofs.Functors.{labels_compare}
use Rattle.text_judging.specs.Judging.{same_term, same_terms}
use Rattle.scanning.specs.Classes.{is_name_element, element_side, element_node, element_child, side_frame, node_element}
use Rattle.scanning.specs.Instances.{argument_count, start_of, end_of, same_name, same_by_classes}
use Rattle.scanning.specs.BriefComparisons.{brief_name, found_then, brief_children, brief_nodes, brief_elements, decided_by, same_atoms}
use Rattle.scanning.proofs.Ranges.{Folded}
use Rattle.scanning.proofs.InstanceSpelling.{argument_count_lem}
use Rattle.scanning.proofs.Nodes.{same_term_swap}
use Rattle.scanning.proofs.Elements.{environment_on, Means, same_name_lem, node_number}
use Rattle.scanning.proofs.Instances.{applied, child_means, AtomIn, atom_means, same_by_classes_lem}

-- What is found is undecided, or z.
abbrev Finds : Option Bool → Bool → Type 0
Finds v z = (v ≡ None) ⊎ (v ≡ Some z)

-- A comparison after another one.
finds_then : (v v' : Option Bool) (y z : Bool) → Finds v y → Finds v' z
    → Finds (found_then v v') (y && z)
finds_then v v' y z (inl e) k = inl (rw e refl)
finds_then v v' true z (inr e) k = rw e k
finds_then v v' false z (inr e) k = inr (rw e refl)

-- Classes find it where it is undecided.
finds_decided : (v : Option Bool) (y z : Bool) → Finds v z → y ≡ z → decided_by v y ≡ z
unfolding decided_by
finds_decided v y z (inl e) k = rw e k
finds_decided v y z (inr e) k = rw e refl

module _ (b t : List ℕ) (symbols : ℕ) (names : Names (declarations_from b t symbols 0)) (x : List ℕ) (small : Folded b x)
    (nodes : ℕ) (table : Nodes t nodes) (few : nodes ≤ max_nodes) (w : List ℕ) where
  module _ (f g : ℕ) (e d : Environment Symbol) where
    -- `E s` is the environment of side s.
    abbrev E : ℕ → Environment Symbol
    E s = environment_on b t symbols names x small nodes table few w f g e d s

    -- `M i u` says that element i means the term u.
    abbrev M : ℕ → Ground → Type 0
    M i u = Means b t symbols names x small nodes table few w f g e d i u

    -- The comparison r is right where it decides.
    abbrev Right : (ℕ → ℕ → Option Bool) → Type 0
    Right r = (i j : ℕ) (u v : Ground) → M i u → M j v → Finds (r i j) (same_term u v)

    -- applications

    module _ (r : ℕ → ℕ → Option Bool) (right : Right r) (i j : ℕ) where
      abbrev one : ℕ
      one = element_node i

      abbrev two : ℕ
      two = element_node j

      -- The instances of the l-th children.
      abbrev first : ℕ → Ground
      first l = substitute (term_at t (child_of t one l)) (E (element_side i))

      abbrev second : ℕ → Ground
      second l = substitute (term_at t (child_of t two l)) (E (element_side j))

      finds_children : (o l : ℕ) → ((a : ℕ) → l ≤ a → a < l + o → M (element_child t i a) (first a))
          → ((a : ℕ) → l ≤ a → a < l + o → M (element_child t j a) (second a))
          → Finds (brief_children r o t i j l)
          (same_terms (substitutes (children_by (term_at t) t one o l) (E (element_side i)))
          (substitutes (children_by (term_at t) t two o l) (E (element_side j))))
      unfolding brief_children children_by substitutes same_terms
      finds_children zero l p q = inr refl
      finds_children (suc o) l p q =
          finds_then (r (element_child t i l) (element_child t j l)) (brief_children r o t i j (l + 1)) (same_term (first l) (second l))
          (same_terms (substitutes (children_by (term_at t) t one o (suc l)) (E (element_side i)))
          (substitutes (children_by (term_at t) t two o (suc l)) (E (element_side j))))
          (right (element_child t i l) (element_child t j l) (first l) (second l) (p l (omega arith) (omega arith))
          (q l (omega arith) (omega arith)))
          (rw (add-one l) (finds_children o (suc l) (λ a u v. p a (omega arith) (omega arith)) (λ a u v. q a (omega arith) (omega arith))))

      -- Two nodes with arguments: the same label, and the same instances of the arguments.
      finds_nodes : Arguments t one → Arguments t two → ((a : ℕ) → a < child_count t one → M (element_child t i a) (first a))
          → ((a : ℕ) → a < child_count t two → M (element_child t j a) (second a))
          → Finds (brief_nodes r t i j) (eqb (label_of t one) (label_of t two)
          && same_terms (substitutes (arguments_at t one) (E (element_side i))) (substitutes (arguments_at t two) (E (element_side j))))
      unfolding brief_nodes arguments_at
      finds_nodes y z u v = go (eqb (label_of t one) (label_of t two)) refl
        where
          go : (o : Bool) → eqb (label_of t one) (label_of t two) ≡ o
              → Finds (cond o (brief_children r (argument_count t one) t i j 0) (Some false))
              (o && same_terms (substitutes (children_by (term_at t) t one (child_count t one) 0) (E (element_side i)))
              (substitutes (children_by (term_at t) t two (child_count t two) 0) (E (element_side j))))
          go true q =
              let l : child_count t two ≡ child_count t one =
              z.many ∙ ap (label_arity t) (sym (eqb-true (label_of t one) (label_of t two) q)) ∙ sym y.many in
              rw (argument_count_lem t one y, l) (finds_children (child_count t one) 0 (λ a p o. u a (omega arith)) (λ a p o. v a (omega arith)))
          go false q = inr refl

      -- Two applications.
      finds_applications : (u v : Ground) → is_name_element i ≡ false → is_name_element j ≡ false → M i u → M j v
          → Finds (brief_nodes r t i j) (same_term u v)
      unfolding same_term
      finds_applications u v p q hi hj =
          subst (Finds (brief_nodes r t i j)) (sym compares)
          (finds_nodes ((table.term one (hi.node p).below (hi.node p).is).application (hi.applied p))
          ((table.term two (hj.node q).below (hj.node q).is).application (hj.applied q))
          (child_means b t symbols names x small nodes table few w f g e d i u p hi)
          (child_means b t symbols names x small nodes table few w f g e d j v q hj))
        where
          compares : same_term u v ≡ (eqb (label_of t one) (label_of t two)
              && same_terms (substitutes (arguments_at t one) (E (element_side i))) (substitutes (arguments_at t two) (E (element_side j))))
          compares =
              ap₂ same_term (applied b t symbols names x small nodes table few w f g e d i u p hi)
              (applied b t symbols names x small nodes table few w f g e d j v q hj)
              ∙ ap (◌&& same_terms (substitutes (arguments_at t one) (E (element_side i)))
              (substitutes (arguments_at t two) (E (element_side j)))) (labels_compare (label_of t one) (label_of t two))

    -- names

    finds_name : (i j : ℕ) (z : Bool) → same_name b t x w f g i j ≡ z → Finds (brief_name b t x w f g i j) z
    unfolding brief_name
    finds_name i j z h = go (ltb 256 (end_of w f g i - start_of w f g i))
      where
        go : (o : Bool) → Finds (cond o None (Some (same_name b t x w f g i j))) z
        go true = inl refl
        go false = inr (ap (λ (y : Bool). Some y) h)

    -- Two elements.
    finds_elements : (n : ℕ) → Right (brief_elements n b t x w f g)
    unfolding brief_elements
    finds_elements zero i j u v hi hj = inl refl
    finds_elements (suc n) i j u v hi hj = go (is_name_element i) refl (is_name_element j) refl (finds_elements n)
      where
        go : (y : Bool) → is_name_element i ≡ y → (z : Bool) → is_name_element j ≡ z → Right (brief_elements n b t x w f g)
            → Finds (cond y (brief_name b t x w f g i j)
            (cond z (brief_name b t x w f g j i) (brief_nodes (brief_elements n b t x w f g) t i j))) (same_term u v)
        go true p z q ih =
            finds_name i j (same_term u v) (same_name_lem b t symbols names x small nodes table few w f g e d i j u v p hi hj)
        go false p true q ih =
            finds_name j i (same_term u v)
            (same_name_lem b t symbols names x small nodes table few w f g e d j i v u q hj hi ∙ same_term_swap v u)
        go false p false q ih = finds_applications (brief_elements n b t x w f g) ih i j u v p q hi hj

    -- atoms

    -- `AtomOn i` says that the node of element i is an atom on its side.
    abbrev AtomOn : ℕ → Type 0
    AtomOn i =
        AtomIn b t symbols names x small nodes table few w (element_node i) (side_frame f g (element_side i)) (E (element_side i))

    finds_atoms : (n i j : ℕ) → is_name_element i ≡ false → is_name_element j ≡ false → AtomOn i → AtomOn j
        → Finds (brief_elements (suc n) b t x w f g i j) (eqb (label_of t (element_node i)) (label_of t (element_node j))
        && same_terms (substitutes (arguments_at t (element_node i)) (E (element_side i)))
        (substitutes (arguments_at t (element_node j)) (E (element_side j))))
    unfolding brief_elements
    finds_atoms n i j p q h k =
        rw (p, q)
        (finds_nodes (brief_elements n b t x w f g) (finds_elements n) i j h.arguments k.arguments
        (atom_means b t symbols names x small nodes table few w f g e d i h)
        (atom_means b t symbols names x small nodes table few w f g e d j k))

  -- Two atoms: the same predicate, and the same arguments.
  pub same_atoms_lem : (k m f g : ℕ) (e d : Environment Symbol) → AtomIn b t symbols names x small nodes table few w k f e
      → AtomIn b t symbols names x small nodes table few w m g d
      → same_atoms b t x w f g k m ≡ (eqb (label_of t k) (label_of t m) && same_terms (substitutes (arguments_at t k) e)
      (substitutes (arguments_at t m) d))
  unfolding same_atoms side_frame
  same_atoms_lem k m f g e d h i =
      let y = h.below in
      let z = i.below in
      let p = node_number k 0 (omega arith) (omega arith) in
      let q = node_number m 1 (omega arith) (omega arith) in
      let o = finds_atoms f g e d 2 (node_element 0 k) (node_element 1 m) p.kind q.kind (rw (p.node, p.side) h)
      (rw (q.node, q.side) i) in
      finds_decided (brief_elements 3 b t x w f g (node_element 0 k) (node_element 1 m)) (same_by_classes b t x w f g k m)
      (eqb (label_of t k) (label_of t m) && same_terms (substitutes (arguments_at t k) e) (substitutes (arguments_at t m) d))
      (rw (p.node, p.side, q.node, q.side) at o) (same_by_classes_lem b t symbols names x small nodes table few w k m f g e d h i)
