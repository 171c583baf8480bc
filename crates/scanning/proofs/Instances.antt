-- Comparing instances by classes of elements is comparing the instances: the classes hold elements that mean the same term.
use Prim.Native.Nat.{ℕ, zero, suc, ◌+◌, ◌*◌, ◌/◌, ◌%◌, ◌<◌, ◌≤◌}
use native.Mathlib.Omega.{arith}
use native.Mathlib.Numerals.{add-one}
use mathlib.Core.Path.{◌≡◌, refl, sym, ap, ap₂, ◌∙◌, subst}
use mathlib.Core.Bool.{Bool, true, false, ◌&&◌, cond}
use mathlib.Core.List.{List}
use lib.Dec.{eqb, ltb}
use lib.ListN.{set}
use borrow.Author.Tests.{eqb-true, ne_eqb, ltb-true, lt-ltb, le-ltb}
use Rattle.terms.specs.Terms.{Term, app, Terms, substitute, substitutes}
use Rattle.formulas.specs.Formulas.{free_t, free_ts}
use Rattle.sequents.specs.Symbols.{Symbol, Ground}
use Rattle.sequents.specs.Sequents.{Environment}
use Rattle.sheet_format.specs.Nodes.{Declaration}
use Rattle.sheet_format.proofs.Names.{Names}
use Rattle.sheet_format.proofs.Formed.{FormedTerms}
use Rattle.sheet_format.specs.Limits.{max_nodes}
use Rattle.node_table.specs.Layout.{child_count, label_of, child_of}
use Rattle.node_table.specs.Decoding.{functor_of, children_by, term_at, arguments_at, declarations_from}
use Rattle.node_table.specs.WellMade.{label_arity, Arguments}
use Rattle.node_table.proofs.Decoding.{Nodes, term_application}
use Rattle.node_table.proofs.Functors.{labels_compare}
use Rattle.text_judging.specs.Judging.{same_term, same_terms}
use Rattle.text_judging.proofs.Infer.{same_term_refl}
use Rattle.scanning.specs.Classes.{is_name_element, element_side, element_node, element_child, side_frame, node_element, root_of, separate}
use Rattle.scanning.specs.Instances.{argument_count, Compared, compared, joined, same_name, join_name, same_children, same_nodes}
use Rattle.scanning.specs.Instances.{same_roots, same_elements, same_by_classes}
use Rattle.scanning.proofs.Ranges.{Folded}
use Rattle.scanning.proofs.InstanceSpelling.{Frame, frame_fewer, formed_child, free_child, argument_count_lem}
use Rattle.scanning.proofs.Depth.{depth, child_depth}
use Rattle.scanning.proofs.Counting.{count_below, count_most, count_strictly}
use Rattle.scanning.proofs.Nodes.{same_term_swap, TermIn, child_in}
use Rattle.scanning.proofs.Classes.{Forest, forest_set, root_of_lem, separate_forest, separate_root}
use Rattle.scanning.proofs.Elements.{environment_on, Means, means_once, Alike, alike, element_means, same_name_lem, side_low, node_number}

module _ (b t : List ℕ) (symbols : ℕ) (names : Names (declarations_from b t symbols 0)) (x : List ℕ) (small : Folded b x)
    (nodes : ℕ) (table : Nodes t nodes) (few : nodes ≤ max_nodes) (w : List ℕ) where
  -- The declared symbols are those of the table.
  abbrev ds : List Declaration
  ds = declarations_from b t symbols 0

  module _ (f g : ℕ) (e d : Environment Symbol) where
    -- `E s` is the environment of side s.
    abbrev E : ℕ → Environment Symbol
    E s = environment_on b t symbols names x small nodes table few w f g e d s

    -- `M i u` says that element i means the term u.
    abbrev M : ℕ → Ground → Type 0
    M i u = Means b t symbols names x small nodes table few w f g e d i u

    -- `A i j` says that element j means whatever element i means.
    abbrev A : ℕ → ℕ → Type 0
    A i j = Alike b t symbols names x small nodes table few w f g e d i j

    -- An element is alike to itself.
    alike_self : (i : ℕ) → A i i
    alike_self i u m = m

    -- Likeness of elements is transitive.
    alike_then : (i j k : ℕ) → A i j → A j k → A i k
    alike_then i j k p q u m = q u (p u m)

    -- `Classes c` says that the classes have elements that mean the same.
    abbrev Classes : List ℕ → Type 0
    Classes c = Forest A alike_self alike_then c

    -- A comparison has the answer z, and leaves classes.
    record Compares (o : Compared) (z : Bool) : Type 0 where
      classes : Classes o.classes
      answer : o.same ≡ z

    -- The elements that are compared join.
    compares_joined : (o : Compared) (z : Bool) (i j : ℕ) → Compares o z → (z ≡ true → A i j) → Compares (joined o i j) z
    unfolding joined
    compares_joined o z i j h r = go o.same refl
      where
        go : (y : Bool) → o.same ≡ y → Compares (joined o i j) z
        go true q =
            rw q (record {
              classes = forest_set A alike_self alike_then o.classes i j h.classes (r (sym h.answer ∙ q));
              answer = sym q ∙ h.answer;
            })
        go false q = rw q (record { classes = h.classes; answer = sym q ∙ h.answer })

    -- One comparison after the other, if the first says that the terms are the same.
    compares_then : (o : Compared) (y z : Bool) (r : List ℕ → Compared) → Compares o y
        → (Classes o.classes → Compares (r o.classes) z) → Compares (cond o.same (r o.classes) o) (y && z)
    compares_then o y z r h k = go o.same refl
      where
        go : (a : Bool) → o.same ≡ a → Compares (cond a (r o.classes) o) (y && z)
        go true q = rw (sym h.answer ∙ q) (k h.classes)
        go false q = rw (sym h.answer ∙ q) (record { classes = h.classes; answer = q })

    -- How deep the instance of node l / 2 on side l % 2 is nested.
    abbrev depth_at : ℕ → ℕ
    depth_at l = depth (substitute (term_at t (l / 2)) (E (l % 2)))

    -- How many of the 2,048 applications have instances that are nested less deep than n.
    abbrev shallower : ℕ → ℕ
    shallower n = count_below (λ l. ltb (depth_at l) n) 2048

    -- How deep comparisons are nested at most that begin with a term nested n deep: one for each application that is nested no deeper,
    -- since the terms grow smaller, and one for a name.
    abbrev comparisons : ℕ → ℕ
    comparisons n = suc (shallower (suc n))

    -- They are at most so many.
    comparisons_most : (n m : ℕ) → 2049 ≤ m → comparisons n ≤ m
    comparisons_most n m k = let h = count_most (λ l. ltb (depth_at l) (suc n)) 2048 in omega arith

    -- More applications are nested at most m deep than less deep than n, if n is at most m and an application is nested m deep.
    shallower_strictly : (l n m : ℕ) → l < 2048 → depth_at l ≡ m → n ≤ m → shallower n < shallower (suc m)
    shallower_strictly l n m h e k =
        count_strictly (λ i. ltb (depth_at i) n) (λ i. ltb (depth_at i) (suc m))
        (λ i p. let q = ltb-true (depth_at i) n p in lt-ltb (depth_at i) (suc m) (omega arith)) 2048 l h
        (le-ltb (depth_at l) n (omega arith)) (lt-ltb (depth_at l) (suc m) (omega arith))

    -- The two parts of a number that is made of a node and a side.
    made_of : (a b : ℕ) → b < 2 → ((2 * a + b) / 2 ≡ a) × ((2 * a + b) % 2 ≡ b)
    made_of a b h = (omega arith, omega arith)

    -- Going down from an application leaves room for one comparison less.
    comparisons_below : (i n : ℕ) (u v : Ground) → is_name_element i ≡ false → M i u → depth v < depth u → comparisons (depth u) ≤ suc n
        → comparisons (depth v) ≤ n
    unfolding element_node
    comparisons_below i n u v p h k l =
        let q = made_of (element_node i) (element_side i) (side_low i) in
        let o : 2 * element_node i + element_side i < 2048 = (let a = side_low i in omega arith) in
        let e : depth_at (2 * element_node i + element_side i) ≡ depth u = rw (q.0, q.1) (ap depth (sym (h.instance p))) in
        let s = shallower_strictly (2 * element_node i + element_side i) (suc (depth v)) (depth u) o e (omega arith) in
        omega arith

    -- The comparison r is right where comparisons are nested at most n deep.
    abbrev Right : (List ℕ → ℕ → ℕ → Compared) → ℕ → Type 0
    Right r n =
        (c : List ℕ) (i j : ℕ) (u v : Ground) → M i u → M j v → comparisons (depth u) ≤ n → Classes c → Compares (r c i j) (same_term u v)

    -- applications

    -- An application means its functor with the instances of its arguments.
    pub applied : (l : ℕ) (u : Ground) → is_name_element l ≡ false → M l u
        → u ≡ app (functor_of (label_of t (element_node l))) (substitutes (arguments_at t (element_node l)) (E (element_side l)))
    unfolding substitute
    applied l u p h =
        h.instance p
        ∙ ap (λ (y : Term ℕ). substitute y (E (element_side l)))
        (term_application t nodes table (element_node l) (h.node p).below (h.node p).is (h.applied p))

    -- The children of an application mean their instances.
    pub child_means : (l : ℕ) (u : Ground) → is_name_element l ≡ false → M l u → (a : ℕ) → a < child_count t (element_node l)
        → M (element_child t l a) (substitute (term_at t (child_of t (element_node l) a)) (E (element_side l)))
    unfolding element_child
    child_means l u p h a o =
        element_means b t symbols names x small nodes table few w f g e d (element_side l) (child_of t (element_node l) a) (side_low l)
        (child_in b t symbols names x small nodes table few w (element_node l) (side_frame f g (element_side l)) (E (element_side l)) (h.node p)
        (h.applied p) a o)

    module _ (r : List ℕ → ℕ → ℕ → Compared) (n : ℕ) (right : Right r n) (i j : ℕ) where
      -- `one` is the node of element i.
      abbrev one : ℕ
      one = element_node i

      -- `two` is the node of element j.
      abbrev two : ℕ
      two = element_node j

      -- `first l` is the instance of the l-th child of `one`.
      abbrev first : ℕ → Ground
      first l = substitute (term_at t (child_of t one l)) (E (element_side i))

      -- `second l` is the instance of the l-th child of `two`.
      abbrev second : ℕ → Ground
      second l = substitute (term_at t (child_of t two l)) (E (element_side j))

      -- Comparing children compares their instances.
      compares_children : (o l : ℕ) (c : List ℕ) → ((a : ℕ) → l ≤ a → a < l + o → M (element_child t i a) (first a))
          → ((a : ℕ) → l ≤ a → a < l + o → M (element_child t j a) (second a))
          → ((a : ℕ) → l ≤ a → a < l + o → comparisons (depth (first a)) ≤ n) → Classes c
          → Compares (same_children r o t i j l c)
          (same_terms (substitutes (children_by (term_at t) t one o l) (E (element_side i)))
          (substitutes (children_by (term_at t) t two o l) (E (element_side j))))
      unfolding same_children children_by substitutes same_terms
      compares_children zero l c p q s h = record { classes = h; answer = refl }
      compares_children (suc o) l c p q s h =
          compares_then (r c (element_child t i l) (element_child t j l)) (same_term (first l) (second l))
          (same_terms (substitutes (children_by (term_at t) t one o (suc l)) (E (element_side i)))
          (substitutes (children_by (term_at t) t two o (suc l)) (E (element_side j))))
          (same_children r o t i j (l + 1))
          (right c (element_child t i l) (element_child t j l) (first l) (second l) (p l (omega arith) (omega arith))
          (q l (omega arith) (omega arith)) (s l (omega arith) (omega arith)) h)
          (λ y. rw (add-one l) (compares_children o (suc l) (r c (element_child t i l) (element_child t j l)).classes
          (λ a u v. p a (omega arith) (omega arith))
          (λ a u v. q a (omega arith) (omega arith)) (λ a u v. s a (omega arith) (omega arith)) y))

      -- Comparing all children of two nodes with one label compares the instances of the arguments.
      compares_arguments : (c : List ℕ) → Arguments t one → Arguments t two → label_of t one ≡ label_of t two
          → ((a : ℕ) → a < child_count t one → M (element_child t i a) (first a))
          → ((a : ℕ) → a < child_count t two → M (element_child t j a) (second a))
          → ((a : ℕ) → a < child_count t one → comparisons (depth (first a)) ≤ n) → Classes c
          → Compares (same_children r (argument_count t one) t i j 0 c)
          (same_terms (substitutes (arguments_at t one) (E (element_side i))) (substitutes (arguments_at t two) (E (element_side j))))
      unfolding arguments_at
      compares_arguments c y z q u v s h =
          let l : child_count t two ≡ child_count t one = z.many ∙ ap (label_arity t) (sym q) ∙ sym y.many in
          rw (argument_count_lem t one y, l) (compares_children (child_count t one) 0 c (λ a p o. u a (omega arith)) (λ a p o. v a (omega arith))
          (λ a p o. s a (omega arith)) h)

      -- Two applications.
      compares_nodes : (c : List ℕ) (u v : Ground) → is_name_element i ≡ false → is_name_element j ≡ false → M i u → M j v
          → comparisons (depth u) ≤ suc n → Classes c
          → Compares (same_nodes r t i j c) (same_term u v)
      unfolding same_nodes depth same_term arguments_at
      compares_nodes c u v p q hi hj l h =
          subst (Compares (same_nodes r t i j c)) (sym compares) (go (eqb (label_of t one) (label_of t two)) refl)
        where
          Us : Terms Symbol
          Us = substitutes (arguments_at t one) (E (element_side i))

          Vs : Terms Symbol
          Vs = substitutes (arguments_at t two) (E (element_side j))

          eu : u ≡ app (functor_of (label_of t one)) Us
          eu = applied i u p hi

          ev : v ≡ app (functor_of (label_of t two)) Vs
          ev = applied j v q hj

          compares : same_term u v ≡ (eqb (label_of t one) (label_of t two) && same_terms Us Vs)
          compares = ap₂ same_term eu ev ∙ ap (◌&& same_terms Us Vs) (labels_compare (label_of t one) (label_of t two))

          together : (eqb (label_of t one) (label_of t two) && same_terms Us Vs) ≡ true → A i j
          together z = alike b t symbols names x small nodes table few w f g e d i j u v hi hj (compares ∙ z)

          go : (z : Bool) → eqb (label_of t one) (label_of t two) ≡ z
              → Compares (same_nodes r t i j c) (eqb (label_of t one) (label_of t two) && same_terms Us Vs)
          go true o =
              rw o
              (compares_joined (same_children r (argument_count t one) t i j 0 c) (same_terms Us Vs) i j
              (compares_arguments c ((table.term one (hi.node p).below (hi.node p).is).application (hi.applied p))
              ((table.term two (hj.node q).below (hj.node q).is).application (hj.applied q))
              (eqb-true (label_of t one) (label_of t two) o) (child_means i u p hi) (child_means j v q hj)
              (λ a y. let s = child_depth t one (E (element_side i)) (child_count t one) 0 a (omega arith) (omega arith) in let z =
              ap depth eu in comparisons_below i n u (first a) p hi (omega arith) l) h)
              (λ z. together (rw o z)))
          go false o = rw o (record { classes = h; answer = refl })

    -- representatives

    -- Two representatives.
    compares_roots : (r : List ℕ → ℕ → ℕ → Compared) (n : ℕ) → Right r n → (c : List ℕ) (i j : ℕ) (u v : Ground) → M i u → M j v
        → comparisons (depth u) ≤ suc n → Classes c
        → Compares (same_roots r b t x w f g i j c) (same_term u v)
    unfolding same_roots join_name
    compares_roots r n right c i j u v hi hj l h = go (eqb i j) refl (is_name_element i) refl (is_name_element j) refl
      where
        go : (o : Bool) → eqb i j ≡ o → (y : Bool) → is_name_element i ≡ y → (z : Bool) → is_name_element j ≡ z
            → Compares (same_roots r b t x w f g i j c) (same_term u v)
        go true o y p z q =
            let k = means_once b t symbols names x small nodes table few w f g e d j u v (subst (λ (a : ℕ). M a u) (eqb-true i j o) hi) hj in
            rw o (record { classes = h; answer = sym (ap (same_term u) (sym k) ∙ same_term_refl u) })
        go false o true p z q =
            rw (o, p)
            (compares_joined (compared c (same_name b t x w f g i j)) (same_term u v) i j
            (record { classes = h; answer = same_name_lem b t symbols names x small nodes table few w f g e d i j u v p hi hj })
            (alike b t symbols names x small nodes table few w f g e d i j u v hi hj))
        go false o false p true q =
            rw (o, p, q)
            (compares_joined (compared c (same_name b t x w f g j i)) (same_term u v) j i
            (record { classes = h; answer = same_name_lem b t symbols names x small nodes table few w f g e d j i v u q hj hi ∙ same_term_swap v u })
            (λ k. alike b t symbols names x small nodes table few w f g e d j i v u hj hi (same_term_swap v u ∙ k)))
        go false o false p false q = rw (o, p, q) (compares_nodes r n right i j c u v p q hi hj l h)

    -- Two elements.
    compares_elements : (n : ℕ) → Right (same_elements n b t x w f g) n
    unfolding same_elements
    compares_elements zero c i j u v hi hj l h = absurd (omega arith)
    compares_elements (suc n) c i j u v hi hj l h =
        let p = root_of_lem A alike_self alike_then c i h in
        let q = root_of_lem A alike_self alike_then (root_of c i).classes j p.forest in
        compares_roots (same_elements n b t x w f g) n (compares_elements n) (root_of (root_of c i).classes j).classes (root_of c i).root
        (root_of (root_of c i).classes j).root u v
        (p.related u hi) (q.related v hj) l q.forest

  -- atoms

  -- An atom's node, in frame g.
  pub record AtomIn (m g : ℕ) (e : Environment Symbol) : Type 0 where
    pub below : m < nodes
    pub arguments : Arguments t m
    pub formed : FormedTerms (arguments_at t m) ds
    pub frame : Frame ds x w g e (free_ts (arguments_at t m))

  -- A child of an atom is a node of a term in its frame.
  atom_child : (m g : ℕ) (e : Environment Symbol) → AtomIn m g e → (n : ℕ) → n < child_count t m
      → TermIn b t symbols names x small nodes table few w (child_of t m n) g e
  unfolding arguments_at
  atom_child m g e h n l =
      let q = h.arguments.terms n l in
      let u = h.below in
      record {
        below = omega (arith, q.0);
        is = q.1;
        formed = formed_child t ds m (child_count t m) 0 n h.formed (omega arith) (omega arith);
        frame = frame_fewer ds x w g e (free_ts (arguments_at t m)) (free_t (term_at t (child_of t m n)))
            (λ v f. free_child t m (child_count t m) 0 n v (omega arith) (omega arith) f) h.frame;
      }

  -- Joining does not change the answer.
  joined_same : (o : Compared) (i j : ℕ) → (joined o i j).same ≡ o.same
  unfolding joined
  joined_same o i j = go o.same refl
    where
      go : (z : Bool) → o.same ≡ z → (cond o.same (compared (set o.classes i j) true) (compared o.classes false)).same ≡ o.same
      go true q = rw q
      go false q = rw q

  -- `same` tells whether two atoms have the same predicate and the same arguments.
  abbrev same : ℕ → ℕ → Environment Symbol → Environment Symbol → Bool
  same k m e d = eqb (label_of t k) (label_of t m) && same_terms (substitutes (arguments_at t k) e) (substitutes (arguments_at t m) d)

  module _ (f g : ℕ) (e d : Environment Symbol) where
    -- `D s` is the environment of side s.
    abbrev D : ℕ → Environment Symbol
    D s = environment_on b t symbols names x small nodes table few w f g e d s

    -- `AtomOn i` says that the node of element i is an atom on its side.
    abbrev AtomOn : ℕ → Type 0
    AtomOn i = AtomIn (element_node i) (side_frame f g (element_side i)) (D (element_side i))

    -- The children of an atom mean their instances.
    pub atom_means : (i : ℕ) → AtomOn i → (a : ℕ) → a < child_count t (element_node i)
        → Means b t symbols names x small nodes table few w f g e d (element_child t i a)
        (substitute (term_at t (child_of t (element_node i) a)) (D (element_side i)))
    unfolding element_child
    atom_means i h a l =
        element_means b t symbols names x small nodes table few w f g e d (element_side i) (child_of t (element_node i) a) (side_low i)
        (atom_child (element_node i) (side_frame f g (element_side i)) (D (element_side i)) h a l)

    -- Comparing the elements of two atoms, if they differ, compares the atoms.
    atoms_apart : (n : ℕ) → 2049 ≤ n → (i j : ℕ) → (i ≡ j → ⊥) → is_name_element i ≡ false → is_name_element j ≡ false → AtomOn i → AtomOn j
        → (same_elements (suc n) b t x w f g separate i j).same ≡ same (element_node i) (element_node j) (D (element_side i))
        (D (element_side j))
    unfolding same_elements same_roots same_nodes
    atoms_apart n high i j z p q h k =
        rw (same_elements, separate_root i, separate_root j, ne_eqb i j z, p, q)
        (go (eqb (label_of t (element_node i)) (label_of t (element_node j))) refl)
      where
        r : List ℕ → ℕ → ℕ → Compared
        r = same_elements n b t x w f g

        o : Compared
        o = same_children r (argument_count t (element_node i)) t i j 0 separate

        go : (y : Bool) → eqb (label_of t (element_node i)) (label_of t (element_node j)) ≡ y
            → (cond y (joined o i j) (compared separate false)).same
            ≡ (y && same_terms (substitutes (arguments_at t (element_node i)) (D (element_side i)))
            (substitutes (arguments_at t (element_node j)) (D (element_side j))))
        go true l =
            joined_same o i j
            ∙ (compares_arguments f g e d r n (compares_elements f g e d n) i j separate h.arguments
            k.arguments
            (eqb-true (label_of t (element_node i)) (label_of t (element_node j)) l) (atom_means i h) (atom_means j k)
            (λ a o. comparisons_most f g e d _ n high)
            (separate_forest (λ a c. Alike b t symbols names x small nodes table few w f g e d a c) (alike_self f g e d)
            (alike_then f g e d))).answer
        go false l = refl

  -- Two atoms: the same predicate, and the same arguments, found by classes.
  pub same_by_classes_lem : (k m f g : ℕ) (e d : Environment Symbol) → AtomIn k f e → AtomIn m g d
      → same_by_classes b t x w f g k m ≡ (eqb (label_of t k) (label_of t m) && same_terms (substitutes (arguments_at t k) e)
      (substitutes (arguments_at t m) d))
  unfolding same_by_classes side_frame
  same_by_classes_lem k m f g e d h i =
      let y = h.below in
      let z = i.below in
      let p = node_number k 0 (omega arith) (omega arith) in
      let q = node_number m 1 (omega arith) (omega arith) in
      let apart : node_element 0 k ≡ node_element 1 m → ⊥ = λ o. let r = sym p.side ∙ ap element_side o ∙ q.side in omega arith in
      atoms_apart f g e d 2049 (omega arith) (node_element 0 k) (node_element 1 m) apart p.kind q.kind (rw (p.node, p.side) h)
      (rw (q.node, q.side) i)
      ∙ rw (p.node, p.side, q.node, q.side) refl
