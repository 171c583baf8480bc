-- Terms that stand in a text. Equal terms have equal spellings, so that two positions are compared by their bytes; a scan of a line finds
-- a term exactly where one stands.
use Prim.Native.Nat.{ℕ, ◌+◌, ◌-◌, ◌<◌, ◌≤◌}
use native.Mathlib.Omega.{arith}
use mathlib.Core.Path.{◌≡◌, refl, sym, ap, ap₂, ◌∙◌, subst}
use mathlib.Core.Bool.{Bool, true, false, cond, true≢false}
use mathlib.Core.List.{List, [], ◌∷◌, ◌++◌}
use mathlib.Core.Option.{Option, none, some}
use lib.Dec.{eqb}
use lib.ListN.{length, drop}
use lib.Seq.{take-append_seam}
use borrow.Author.Tests.{eqb-true, eqb-false}
use Rattle.terms.proofs.Lists.{all_weaken}
use Rattle.sequents.specs.Symbols.{Ground, level}
use Rattle.sheet_format.specs.Bytes.{is_name_byte, same_bytes, lf, folded_name}
use Rattle.sheet_format.specs.Nodes.{Declaration}
use Rattle.sheet_format.proofs.Bytes.{Without, graphic_without, same_equal, equal_same}
use Rattle.sheet_format.proofs.Options.{OnSome}
use Rattle.sheet_format.proofs.Names.{Names}
use Rattle.node_table.specs.Decoding.{declarations_from}
use Rattle.answer_texts.specs.Spelling.{spell_term}
use Rattle.answer_texts.specs.Spelled.{WritableTerm}
use Rattle.node_table.specs.Fingerprints.{NamesStand}
use Rattle.text_judging.specs.Reading.{Parsed, parsed, read_term, term_field}
use Rattle.text_judging.specs.Judging.{same_term}
use Rattle.text_judging.proofs.Spans.{Stops}
use Rattle.text_judging.proofs.ReadTerms.{read_term_lem, ReadsTerm, read_term_some, read_field, term_graphic}
use Rattle.text_judging.proofs.Infer.{same_term_true, same_term_refl}
use Rattle.scanning.specs.Scanning.{Scan}
use Rattle.std.specs.Prelude.{Some, None}
use Rattle.scanning.specs.Ranges.{same_folded}
use Rattle.scanning.specs.Scanning.{scan_term}
use Rattle.scanning.specs.Instances.{same_slots}
use Rattle.scanning.proofs.Positions.{drop_past, position_unique}
use Rattle.scanning.proofs.Ranges.{begins, begins_same, unequal_lengths, Solid, range_begins, Folded, folded_range}
use Rattle.scanning.proofs.Scanning.{Scans, scan_term_lem}

-- tests with one meaning

-- Two tests are equal if each is true where the other is.
pub both_ways : (a b : Bool) → (a ≡ true → b ≡ true) → (b ≡ true → a ≡ true) → a ≡ b
both_ways true true f g = refl
both_ways true false f g = sym (f refl)
both_ways false true f g = g refl
both_ways false false f g = refl

-- spellings

-- A spelling has no byte 0.
pub spelling_solid : (t : Ground) (ds : List Declaration) → Names ds → WritableTerm t ds → Solid (spell_term t ds)
spelling_solid t ds ns w = all_weaken (λ c. 32 < c) (λ c. 0 < c) (λ c k. omega arith) (spell_term t ds) (term_graphic t ds ns w)

-- Terms with the same spelling are equal.
pub spelling_injective : (t u : Ground) (ds : List Declaration) → Names ds → WritableTerm t ds → WritableTerm u ds
    → spell_term t ds ≡ spell_term u ds → t ≡ u
spelling_injective t u ds ns w v e =
    let h : some t ≡ some u = sym (read_field t ds ns w) ∙ ap (term_field ds) e ∙ read_field u ds ns v in
    cc

-- Two terms are the same exactly if their spellings have the same bytes.
pub same_spelled : (t u : Ground) (ds : List Declaration) → Names ds → WritableTerm t ds → WritableTerm u ds
    → same_bytes (spell_term t ds) (spell_term u ds) ≡ same_term t u
same_spelled t u ds ns w v =
    both_ways (same_bytes (spell_term t ds) (spell_term u ds)) (same_term t u)
    (λ h. subst (λ (z : Ground). same_term t z ≡ true) (spelling_injective t u ds ns w v (same_equal (spell_term t ds) (spell_term u ds) h))
    (same_term_refl t))
    (λ h. equal_same (spell_term t ds) (spell_term u ds) (ap (λ (z : Ground). spell_term z ds) (same_term_true t u h)))

-- The term that was read, or t.
abbrev value_or : Ground → Option (Parsed Ground) → Ground
value_or t none = t
value_or t (some p) = p.value

-- terms in a text

-- The term t stands in x from i to e, and the name that it may end with does not go on.
pub record SpelledAt (ds : List Declaration) (x : List ℕ) (i e : ℕ) (t : Ground) : Type 0 where
  pub spelled : drop i x ≡ spell_term t ds ++ drop e x
  pub end : e ≡ i + length (spell_term t ds)
  pub writable : WritableTerm t ds
  pub stops : Stops is_name_byte (drop e x)

module _ (ds : List Declaration) (names : Names ds) (x : List ℕ) where
  -- Two terms that start at the same position are equal.
  pub spelled_at_once : (i e j : ℕ) (t u : Ground) → SpelledAt ds x i e t → SpelledAt ds x i j u → t ≡ u
  spelled_at_once i e j t u p q =
      let f = length (spell_term t ds) + length (spell_term u ds) in
      let a : read_term f ds (drop i x) ≡ parsed t (drop e x) = ap (read_term f ds) p.spelled
      ∙ read_term_lem t ds f (drop e x) names p.writable (omega arith) p.stops in
      let b : read_term f ds (drop i x) ≡ parsed u (drop j x) = ap (read_term f ds) q.spelled
      ∙ read_term_lem u ds f (drop j x) names q.writable (omega arith) q.stops in
      ap (value_or t) (sym a ∙ b)

  -- Two terms of the text are compared by their bytes.
  pub same_slots_lem : folded_name x ≡ x → (s e i j : ℕ) (t u : Ground) → SpelledAt ds x s e t → SpelledAt ds x i j u
      → same_slots x s e i j ≡ same_term t u
  unfolding same_slots
  same_slots_lem small s e i j t u p q = go (eqb s i) refl
    where
      a : List ℕ
      a = spell_term t ds

      b : List ℕ
      b = spell_term u ds

      apart : (z : Bool) → eqb (length a) (length b) ≡ z → cond z (same_folded (length a) x s x i) false ≡ same_bytes a b
      apart true h =
          folded_range (length a) x s x i small small ∙ range_begins a (drop e x) x s x i p.spelled (spelling_solid t ds names p.writable) ∙ ap (begins a) q.spelled
          ∙ sym (begins_same a (b ++ drop j x) (length b) (eqb-true (length a) (length b) h
          ∙ ap length (sym (take-append_seam b (drop j x)))))
          ∙ ap (same_bytes a) (take-append_seam b (drop j x))
      apart false h = sym (unequal_lengths a b (eqb-false (length a) (length b) h))

      go : (z : Bool) → eqb s i ≡ z → cond z true (cond (eqb (e - s) (j - i)) (same_folded (e - s) x s x i) false) ≡ same_term t u
      go true h =
          sym (subst (λ (v : Ground). same_term t v ≡ true)
          (spelled_at_once s e j t u p (subst (λ (k : ℕ). SpelledAt ds x k j u) (sym (eqb-true s i h)) q)) (same_term_refl t))
      go false h =
          let l : e - s ≡ length a = (let d = p.end in omega arith) in
          let m : j - i ≡ length b = (let d = q.end in omega arith) in
          rw (l, m) (apart (eqb (length a) (length b)) refl ∙ same_spelled t u ds names p.writable q.writable)

-- scanning a line

-- Bytes c without LF that begin a text made of a, an LF and b are a beginning of a.
pub split_lf : (a b c d : List ℕ) → a ++ (lf ∷ b) ≡ c ++ d → Without lf c → (r : List ℕ) × (a ≡ c ++ r) × (d ≡ r ++ (lf ∷ b))
split_lf a b [] d h w = (a, refl, sym h)
split_lf [] b (y ∷ c) d h w = absurd (true≢false (sym (ap (λ (z : ℕ). eqb z lf) (let q : lf ≡ y = cc in sym q)) ∙ w.0))
split_lf (z ∷ a) b (y ∷ c) d h w =
    let q : z ≡ y = cc in
    let p : a ++ (lf ∷ b) ≡ c ++ d = cc in
    let r = split_lf a b c d p w.1 in
    (r.0, ap₂ ◌∷◌ q r.1, r.2)

-- A term at position i of a line, of which l is left there.
pub record ScansTerm (ds : List Declaration) (x : List ℕ) (i : ℕ) (l r : List ℕ) (e k : ℕ) : Type 0 where
  pub term : Ground
  pub more : List ℕ
  pub spelled : l ≡ spell_term term ds ++ more
  pub writable : WritableTerm term ds
  pub level_is : k ≡ level term
  pub end : e ≡ i + length (spell_term term ds)
  pub rest : drop e x ≡ more ++ (lf ∷ r)

module _ (b t : List ℕ) (symbols : ℕ) (names : Names (declarations_from b t symbols 0)) (stand : NamesStand b t symbols) (x : List ℕ)
    (small : Folded b x) where
  -- The declared symbols are those of the table.
  abbrev ds : List Declaration
  ds = declarations_from b t symbols 0

  -- What a scan finds in a line is a term.
  pub scanned_line : (f i : ℕ) (l r : List ℕ) (e k : ℕ) → drop i x ≡ l ++ (lf ∷ r) → scan_term f b t symbols x i ≡ Some (e, k)
      → ScansTerm ds x i l r e k
  scanned_line f i l r e k h q =
      go (read_term f ds (drop i x)) (subst (λ (s : Scan). Scans x s (read_term f ds (drop i x))) q (scan_term_lem b t symbols names stand x small f i))
      (read_term_some f ds (drop i x))
    where
      go : (o : Option (Parsed Ground)) → Scans x (Some (e, k)) o → OnSome (ReadsTerm ds (drop i x)) o → ScansTerm ds x i l r e k
      go none s p = absurd s
      go (some u) s p =
          let a = spell_term u.value ds in
          let m = split_lf l r a u.rest (sym h ∙ p.spelled)
          (graphic_without lf (omega arith) a (term_graphic u.value ds names p.writable)) in
          record {
            term = u.value;
            more = m.0;
            spelled = m.1;
            writable = p.writable;
            level_is = s.1;
            end = places m.0 (s.0 ∙ m.2) (drop_past x i a u.rest p.spelled ∙ m.2);
            rest = s.0 ∙ m.2;
          }
        where
          places : (n : List ℕ) → drop e x ≡ n ++ (lf ∷ r) → drop (i + length (spell_term u.value ds)) x ≡ n ++ (lf ∷ r)
              → e ≡ i + length (spell_term u.value ds)
          places [] y z = position_unique x e (i + length (spell_term u.value ds)) lf r y z
          places (c ∷ n) y z = position_unique x e (i + length (spell_term u.value ds)) c (n ++ (lf ∷ r)) y z

  -- A term that stands at position i, with no name byte after it, is found with its end and its level.
  pub spelled_scan : (f i : ℕ) (u : Ground) (c : ℕ) (r : List ℕ) → drop i x ≡ spell_term u ds ++ (c ∷ r) → WritableTerm u ds
      → length (spell_term u ds) ≤ f
      → is_name_byte c ≡ false → scan_term f b t symbols x i ≡ Some (i + length (spell_term u ds), level u)
  spelled_scan f i u c r h w l s =
      go (scan_term f b t symbols x i)
      (subst (Scans x (scan_term f b t symbols x i)) (ap (read_term f ds) h ∙ read_term_lem u ds f (c ∷ r) names w l s)
      (scan_term_lem b t symbols names stand x small f i))
    where
      go : (a : Scan) → Scans x a (parsed u (c ∷ r)) → a ≡ Some (i + length (spell_term u ds), level u)
      go None q = absurd q
      go (Some (e, k)) q =
          ap₂ (λ (j l : ℕ). Some (j, l)) (position_unique x e (i + length (spell_term u ds)) c r q.0 (drop_past x i (spell_term u ds) (c ∷ r) h)) q.1
