-- Nodes of terms, each with a frame: where their instances stand, and the nodes below them.
use Prim.Native.Nat.{ℕ, ◌+◌, ◌<◌, ◌≤◌}
use native.Mathlib.Omega.{arith}
use mathlib.Core.Path.{◌≡◌, refl, sym, ap, ap₂, ◌∙◌, subst}
use mathlib.Core.Bool.{Bool, true, false, cond, true≢false}
use mathlib.Core.List.{List, [], ◌∷◌}
use mathlib.Core.Logic.{inl, inr}
use lib.ListN.{length, get_or, take, drop}
use lib.Seq.{take-append_seam}
use borrow.Author.Tests.{eqb-true, eq-eqb, ne_eqb}
use Rattle.terms.specs.Terms.{Term, substitute}
use Rattle.formulas.specs.Formulas.{free_t}
use Rattle.sequents.specs.Symbols.{Symbol, Ground}
use Rattle.sequents.specs.Sequents.{Environment}
use Rattle.sheet_format.specs.Bytes.{is_digit, is_name_byte, same_bytes}
use Rattle.sheet_format.specs.Nodes.{Declaration}
use Rattle.sheet_format.proofs.Bytes.{same_equal, equal_same, no_digit}
use Rattle.sheet_format.proofs.Names.{Names}
use Rattle.sheet_format.proofs.Formed.{FormedTerm}
use Rattle.sheet_format.specs.Limits.{max_nodes}
use Rattle.node_table.specs.Layout.{kind_of, child_count, label_of, child_of, application_kind, variable_kind}
use Rattle.node_table.specs.Decoding.{term_at, arguments_at, declarations_from}
use Rattle.node_table.specs.WellMade.{IsTerm}
use Rattle.node_table.proofs.Decoding.{Nodes, term_variable, term_application}
use Rattle.answer_texts.specs.Spelling.{spell_term}
use Rattle.answer_texts.specs.Spelled.{WritableTerm}
use Rattle.text_judging.specs.Judging.{same_term}
use Rattle.text_judging.proofs.Spans.{Stops}
use Rattle.text_judging.proofs.Infer.{same_term_true, same_term_refl}
use Rattle.scanning.specs.Instances.{Reach}
use Rattle.std.specs.Prelude.{Some, None}
use Rattle.scanning.specs.Frames.{slot_start, slot_end}
use Rattle.scanning.specs.Instances.{match_instance, ends_at, is_instance}
use Rattle.scanning.proofs.Positions.{byte_is, byte_none}
use Rattle.scanning.proofs.Ranges.{begins, begins_rest, rest_begins, Folded}
use Rattle.scanning.proofs.TermsInText.{both_ways, same_spelled, SpelledAt}
use Rattle.scanning.proofs.InstanceSpelling.{reach, Matches, Frame, frame_fewer, instance_writable, formed_child, free_child}
use Rattle.scanning.proofs.InstanceSpelling.{match_instance_lem}

-- a term of the text and an instance

-- The bytes a end where the term does exactly if they are its spelling.
ends_same : (ds : List Declaration) (x : List ℕ) (s e : ℕ) (u : Ground) (a : List ℕ) → SpelledAt ds x s e u
    → ends_at (reach a x s) e ≡ same_bytes (spell_term u ds) a
unfolding reach ends_at
ends_same ds x s e u a p = both_ways (ends_at (reach a x s) e) (same_bytes (spell_term u ds) a) forth back
  where
    forth : ends_at (reach a x s) e ≡ true → same_bytes (spell_term u ds) a ≡ true
    forth h = go (begins a (drop s x)) refl h
      where
        go : (z : Bool) → begins a (drop s x) ≡ z → ends_at (cond z (Some (s + length a)) None) e ≡ true
            → same_bytes (spell_term u ds) a ≡ true
        go false q k = absurd (true≢false (sym k))
        go true q k =
            let r = begins_rest a (drop s x) q in
            let l : length (spell_term u ds) ≡ length a = (let d = eqb-true (s + length a) e k in let c = p.end in omega arith) in
            equal_same (spell_term u ds) a (sym (take-append_seam (spell_term u ds) (drop e x)) ∙ ap₂ take l (sym p.spelled ∙ r.1)
            ∙ take-append_seam a r.0)

    back : same_bytes (spell_term u ds) a ≡ true → ends_at (reach a x s) e ≡ true
    back h =
        let q = same_equal (spell_term u ds) a h in
        let l : s + length a ≡ e = (let c = p.end in let d = ap length q in omega arith) in
        rw (p.spelled, ← q, rest_begins (spell_term u ds) (drop e x))
        (eq-eqb (s + length (spell_term u ds)) e (let c = p.end in omega arith))

-- What was reached in place of p ends where a name or a number does not go on exactly if p does.
ends_matched : (x : List ℕ) (o p : Reach) (e : ℕ) → Matches x o p → Stops is_name_byte (drop e x) → ends_at o e ≡ ends_at p e
unfolding ends_at is_digit
ends_matched x o None e h s = ap (λ (q : Reach). ends_at q e) h
ends_matched x o (Some j) e (inl h) s = ap (λ (q : Reach). ends_at q e) h
ends_matched x o (Some j) e (inr h) s = ap (λ (q : Reach). ends_at q e) h.0 ∙ sym (ne_eqb j e (λ q. go (drop e x) refl q s))
  where
    go : (r : List ℕ) → drop e x ≡ r → j ≡ e → Stops is_name_byte r → ⊥
    go [] d q s = true≢false (sym h.1 ∙ ap (λ (i : ℕ). is_digit (get_or x i 0)) q ∙ ap is_digit (byte_none x e d))
    go (c ∷ cs) d q s =
        true≢false (sym h.1 ∙ ap (λ (i : ℕ). is_digit (get_or x i 0)) q ∙ ap is_digit (byte_is x e c cs d) ∙ no_digit c s)

-- Comparing two terms is the same either way round.
pub same_term_swap : (t u : Ground) → same_term t u ≡ same_term u t
same_term_swap t u =
    both_ways (same_term t u) (same_term u t)
    (λ h. subst (λ (z : Ground). same_term z t ≡ true) (same_term_true t u h) (same_term_refl t))
    (λ h. subst (λ (z : Ground). same_term z u ≡ true) (same_term_true u t h) (same_term_refl u))

module _ (b t : List ℕ) (symbols : ℕ) (names : Names (declarations_from b t symbols 0)) (x : List ℕ) (small : Folded b x)
    (nodes : ℕ) (table : Nodes t nodes) (few : nodes ≤ max_nodes) (w : List ℕ) where
  -- The declared symbols are those of the table.
  abbrev ds : List Declaration
  ds = declarations_from b t symbols 0

  -- A node of a term whose instance in frame g is that by the environment e.
  pub record TermIn (m g : ℕ) (e : Environment Symbol) : Type 0 where
    pub below : m < nodes
    pub is : IsTerm t m
    pub formed : FormedTerm (term_at t m) ds
    pub frame : Frame ds x w g e (free_t (term_at t m))

  -- The instance of a node of a term can be written.
  term_writable : (m g : ℕ) (e : Environment Symbol) → TermIn m g e → WritableTerm (substitute (term_at t m) e) ds
  term_writable m g e h = instance_writable (term_at t m) ds e h.formed (λ v l f. (h.frame v l f).writable)

  -- The term of the text from s to j is an instance.
  pub is_instance_lem : (s j : ℕ) (u : Ground) (m g : ℕ) (e : Environment Symbol) → SpelledAt ds x s j u → TermIn m g e
      → is_instance b t x w s j g m ≡ same_term u (substitute (term_at t m) e)
  unfolding is_instance
  is_instance_lem s j u m g e p h =
      ends_matched x (match_instance 1024 b t x w g m s) (reach (spell_term (substitute (term_at t m) e) ds) x s) j
      (match_instance_lem b t symbols names x small nodes table few w g e 1024 m (let q = h.below in omega arith) h.below h.is
      h.formed h.frame s) p.stops
      ∙ ends_same ds x s j u (spell_term (substitute (term_at t m) e) ds) p
      ∙ same_spelled u (substitute (term_at t m) e) ds names p.writable (term_writable m g e h)

  -- A variable's slot holds the position of the term that it stands for, which is its instance.
  pub slot_of : (m g : ℕ) (e : Environment Symbol) → TermIn m g e → kind_of t m ≡ variable_kind
      → SpelledAt ds x (slot_start w g (label_of t m)) (slot_end w g (label_of t m)) (e (label_of t m))
      × (substitute (term_at t m) e ≡ e (label_of t m))
  unfolding FormedTerm free_t substitute
  slot_of m g e h z =
      let tree = term_variable t nodes table m h.below h.is z in
      let v = label_of t m in (
        h.frame v (subst (λ (y : Term ℕ). FormedTerm y ds) tree h.formed)
            (subst (λ (y : Term ℕ). free_t y v ≡ true) (sym tree) (eq-eqb v v refl)),
        ap (λ (y : Term ℕ). substitute y e) tree,
      )

  -- A child of an application is a node of a term in the same frame.
  pub child_in : (m g : ℕ) (e : Environment Symbol) → TermIn m g e → kind_of t m ≡ application_kind → (n : ℕ) → n < child_count t m
      → TermIn (child_of t m n) g e
  unfolding FormedTerm free_t arguments_at
  child_in m g e h z n l =
      let tree = term_application t nodes table m h.below h.is z in
      let q = ((table.term m h.below h.is).application z).terms n l in
      let u = h.below in
      let p = subst (λ (y : Term ℕ). FormedTerm y ds) tree h.formed in
      record {
        below = omega (arith, q.0);
        is = q.1;
        formed = formed_child t ds m (child_count t m) 0 n p.1 (omega arith) (omega arith);
        frame = frame_fewer ds x w g e (free_t (term_at t m)) (free_t (term_at t (child_of t m n)))
            (λ v f. subst (λ (y : Term ℕ). free_t y v ≡ true) (sym tree)
            (free_child t m (child_count t m) 0 n v (omega arith) (omega arith) f)) h.frame;
      }
