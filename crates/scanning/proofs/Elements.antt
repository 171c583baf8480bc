-- The elements of a comparison, and the terms that they mean.
use Prim.Native.Nat.{ℕ, ◌+◌, ◌*◌, ◌%◌, ◌<◌, ◌≤◌}
use native.Mathlib.Omega.{arith}
use mathlib.Core.Path.{◌≡◌, refl, sym, ap, ◌∙◌, subst}
use mathlib.Core.Bool.{Bool, true, false, cond, true≢false}
use mathlib.Core.List.{List}
use lib.Dec.{eqb}
use borrow.Author.Tests.{eqb-true, eqb-false, ne_eqb, lt-ltb, le-ltb}
use Rattle.terms.specs.Terms.{substitute}
use Rattle.sequents.specs.Symbols.{Symbol, Ground}
use Rattle.sequents.specs.Sequents.{Environment}
use Rattle.sheet_format.specs.Nodes.{Declaration}
use Rattle.sheet_format.proofs.Names.{Names}
use Rattle.sheet_format.specs.Limits.{max_nodes, variable_names}
use Rattle.node_table.specs.Layout.{kind_of, label_of, application_kind, variable_kind}
use Rattle.node_table.specs.Decoding.{term_at, declarations_from}
use Rattle.node_table.proofs.Decoding.{Nodes}
use Rattle.text_judging.specs.Judging.{same_term}
use Rattle.text_judging.proofs.Infer.{same_term_true}
use Rattle.scanning.specs.Classes.{name_element, node_element, element_of, is_name_element, element_side, element_name, element_node}
use Rattle.scanning.specs.Classes.{side_frame}
use Rattle.scanning.specs.Instances.{start_of, end_of, same_name}
use Rattle.scanning.proofs.Ranges.{Folded}
use Rattle.scanning.proofs.TermsInText.{SpelledAt, spelled_at_once, same_slots_lem}
use Rattle.scanning.proofs.Nodes.{TermIn, is_instance_lem, slot_of}

-- numbers

-- A name v on side s.
pub record NameNumber (i v s : ℕ) : Type 0 where
  pub kind : is_name_element i ≡ true
  pub side : element_side i ≡ s
  pub name : element_name i ≡ v

-- An application at node m on side s.
pub record NodeNumber (i m s : ℕ) : Type 0 where
  pub kind : is_name_element i ≡ false
  pub side : element_side i ≡ s
  pub node : element_node i ≡ m

-- A name's element has the side and the name.
name_number : (v s : ℕ) → v < variable_names → s < 2 → NameNumber (name_element s v) v s
unfolding name_element is_name_element element_side element_name
name_number v s h k =
    let e : v % 8 ≡ v = omega arith in
    rw e (record { kind = lt-ltb (2 * v + (s + 16)) 2048 (omega arith); side = omega arith; name = omega arith })

-- An application's element has the side and the node.
pub node_number : (m s : ℕ) → m < 1024 → s < 2 → NodeNumber (node_element s m) m s
unfolding node_element is_name_element element_side element_node
node_number m s h k =
    let e : m % 1024 ≡ m = omega arith in
    rw e (record { kind = le-ltb (2 * m + (s + 2048)) 2048 (omega arith); side = omega arith; node = omega arith })

-- A node's element is by its kind that of a name or of an application.
name_element_lem : (t : List ℕ) (s m : ℕ) → kind_of t m ≡ variable_kind → label_of t m < 8 → s < 2 → NameNumber (element_of t s m) (label_of t m) s
unfolding element_of
name_element_lem t s m z h k = rw z (name_number (label_of t m) s h k)

node_element_lem : (t : List ℕ) (s m : ℕ) → (kind_of t m ≡ variable_kind → ⊥) → m < 1024 → s < 2 → NodeNumber (element_of t s m) m s
unfolding element_of
node_element_lem t s m z h k = rw (ne_eqb (kind_of t m) variable_kind z) (node_number m s h k)

-- A side is 0 or 1.
pub side_low : (i : ℕ) → element_side i < 2
unfolding element_side
side_low i = omega arith

-- terms

module _ (b t : List ℕ) (symbols : ℕ) (names : Names (declarations_from b t symbols 0)) (x : List ℕ) (small : Folded b x)
    (nodes : ℕ) (table : Nodes t nodes) (few : nodes ≤ max_nodes) (w : List ℕ)
    (f g : ℕ) (e d : Environment Symbol) where
  -- The declared symbols are those of the table.
  abbrev ds : List Declaration
  ds = declarations_from b t symbols 0

  -- `environment_on s` is the environment of side s.
  abbrev pub environment_on : ℕ → Environment Symbol
  environment_on s = cond (eqb s 0) e d

  -- `NodeOn m s` says that m is a node of a term on side s.
  abbrev pub NodeOn : ℕ → ℕ → Type 0
  NodeOn m s = TermIn b t symbols names x small nodes table few w m (side_frame f g s) (environment_on s)

  -- Element i means the term u: the name stands for it in the frame of its side, or the node's instance there is u.
  pub record Means (i : ℕ) (u : Ground) : Type 0 where
    pub spelled_at : is_name_element i ≡ true → SpelledAt ds x (start_of w f g i) (end_of w f g i) u
    pub node : is_name_element i ≡ false → NodeOn (element_node i) (element_side i)
    pub applied : is_name_element i ≡ false → kind_of t (element_node i) ≡ application_kind
    pub instance : is_name_element i ≡ false → u ≡ substitute (term_at t (element_node i)) (environment_on (element_side i))

  -- An element means one term only.
  pub means_once : (i : ℕ) (u v : Ground) → Means i u → Means i v → u ≡ v
  means_once i u v h k = go (is_name_element i) refl
    where
      go : (z : Bool) → is_name_element i ≡ z → u ≡ v
      go true q = spelled_at_once ds names x (start_of w f g i) (end_of w f g i) (end_of w f g i) u v (h.spelled_at q) (k.spelled_at q)
      go false q = h.instance q ∙ sym (k.instance q)

  -- Whatever i means, j means.
  abbrev pub Alike : ℕ → ℕ → Type 0
  Alike i j = (u : Ground) → Means i u → Means j u

  -- Two elements that mean the same term are alike.
  pub alike : (i j : ℕ) (u v : Ground) → Means i u → Means j v → same_term u v ≡ true → Alike i j
  alike i j u v h k q y m = subst (Means j) (sym (same_term_true u v q) ∙ means_once i u y h m) k

  -- A node's element means its instance.
  pub element_means : (s m : ℕ) → s < 2 → NodeOn m s → Means (element_of t s m) (substitute (term_at t m) (environment_on s))
  unfolding start_of end_of
  element_means s m l h = go (eqb (kind_of t m) variable_kind) refl
    where
      i : ℕ
      i = element_of t s m

      u : Ground
      u = substitute (term_at t m) (environment_on s)

      go : (z : Bool) → eqb (kind_of t m) variable_kind ≡ z → Means i u
      go true q =
          let z = eqb-true (kind_of t m) 0 q in
          let n = name_element_lem t s m z ((table.term m h.below h.is).variable z) l in
          let p = slot_of b t symbols names x small nodes table few w m (side_frame f g s) (environment_on s) h z in
          record {
            spelled_at = λ y. rw (n.side, n.name, p.1) p.0;
            node = λ y. absurd (true≢false (sym n.kind ∙ y));
            applied = λ y. absurd (true≢false (sym n.kind ∙ y));
            instance = λ y. absurd (true≢false (sym n.kind ∙ y));
          }
      go false q =
          let z = eqb-false (kind_of t m) 0 q in
          let n = node_element_lem t s m z (let y = h.below in omega arith) l in
          let k : kind_of t m ≡ application_kind = omega (arith, (table.term m h.below h.is).kind) in
          record {
            spelled_at = λ y. absurd (true≢false (sym y ∙ n.kind));
            node = λ y. rw (n.side, n.node) h;
            applied = λ y. rw n.node k;
            instance = λ y. rw (n.side, n.node);
          }

  -- The term of a name is compared.
  pub same_name_lem : (i j : ℕ) (u v : Ground) → is_name_element i ≡ true → Means i u → Means j v → same_name b t x w f g i j ≡ same_term u v
  unfolding same_name
  same_name_lem i j u v n h k = go (is_name_element j) refl
    where
      go : (z : Bool) → is_name_element j ≡ z → same_name b t x w f g i j ≡ same_term u v
      go true q =
          rw q (same_slots_lem ds names x small.text (start_of w f g i) (end_of w f g i) (start_of w f g j) (end_of w f g j) u v (h.spelled_at n)
          (k.spelled_at q))
      go false q =
          rw q
          (is_instance_lem b t symbols names x small nodes table few w (start_of w f g i) (end_of w f g i) u (element_node j)
          (side_frame f g (element_side j)) (environment_on (element_side j)) (h.spelled_at n) (k.node q)
          ∙ ap (same_term u) (sym (k.instance q)))
