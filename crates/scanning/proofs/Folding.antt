-- Request W-201: what the checker scans is the same in a text and a sheet whose letters are all folded. So the laws of scanning, which are
-- about folded bytes, hold of what it scans.
use Prim.Native.Nat.{ℕ, zero, suc, ◌+◌, ◌-◌, ◌*◌}
use mathlib.Core.Path.{◌≡◌, refl, sym, ap, ap₂, ◌∙◌}
use mathlib.Core.Bool.{Bool, true, false, cond}
use mathlib.Core.List.{List}
use lib.Dec.{eqb, leb}
use lib.ListN.{length, get_or}
use Rattle.terms.proofs.Lists.{length_map}
use Rattle.sheet_format.specs.Limits.{max_number, max_symbols, max_nodes}
use Rattle.sheet_format.specs.Bytes.{is_digit, is_small, is_capital, is_letter, is_name_byte, folded, folded_name}
use Rattle.sheet_format.proofs.Capitals.{digit_folded, name_folded, folded_name_twice, test_folded, digit_stays}
use Rattle.node_table.specs.Layout.{label_of, name_start, arity_of}
use Rattle.node_table.specs.Fingerprints.{word_at}
use Rattle.node_table.proofs.Words.{byte_folded, bytes_word}
use Rattle.scanning.specs.Ranges.{Number}
use Rattle.std.specs.Prelude.{Some, None, Option}
use Rattle.scanning.specs.Scanning.{Scan}
use Rattle.scanning.specs.Instances.{Reach}
use Rattle.scanning.specs.Ranges.{same_range, same_folded, number_from, number_zero, scan_number}
use Rattle.scanning.specs.Scanning.{name_from, name_end, name_size, is_named, symbol_from, symbol_named, scan_level, scan_at, scan_symbol}
use Rattle.scanning.specs.Scanning.{higher, scan_more, scan_numeral, scan_arguments, scan_application, scan_term}
use Rattle.scanning.specs.Frames.{slot_start, slot_end}
use Rattle.scanning.specs.Classes.{node_element, element_side, element_node, element_child, side_frame, separate, root_of}
use Rattle.scanning.specs.Instances.{same_slots, match_range, match_name, match_number, match_functor, match_slot, argument_count}
use Rattle.scanning.specs.Instances.{argument_of, match_more, match_arguments, match_application, match_instance, is_instance, Compared}
use Rattle.scanning.specs.Instances.{start_of, end_of}
use Rattle.scanning.specs.Instances.{same_name, join_name, same_children, same_nodes, same_roots, same_elements, comparison_depth, same_by_classes}
use Rattle.scanning.specs.BriefComparisons.{found_then, brief_name, brief_children, brief_nodes, brief_elements, decided_by, same_atoms}
use Rattle.scanning.specs.Numbering.{outside_name, is_symbol, no_number, number_at, level_at}
use Rattle.scanning.proofs.Ranges.{Folded, range_folded}
use Rattle.scanning.proofs.SymbolsInText.{symbol_at, starts_in}

-- Folded bytes are folded.
pub folded_both : (b x : List ℕ) → Folded (folded_name b) (folded_name x)
folded_both b x = record { bytes = folded_name_twice b; text = folded_name_twice x }

-- Ranges of folded lists are the same where those of the lists are.
range_twice : (n : ℕ) (a : List ℕ) (i : ℕ) (b : List ℕ) (j : ℕ) → same_folded n (folded_name a) i (folded_name b) j ≡ same_folded n a i b j
range_twice n a i b j =
    range_folded n (folded_name a) i (folded_name b) j
    ∙ ap₂ (λ (x y : List ℕ). same_range n x i y j) (folded_name_twice a) (folded_name_twice b) ∙ sym (range_folded n a i b j)

-- As many bytes are left.
left_folded : (x : List ℕ) (i : ℕ) → length (folded_name x) - i ≡ length x - i
left_folded x i = ap (◌- i) (length_map folded x)

module _ (x : List ℕ) where
  -- A test for a byte that is no letter.
  pub byte_test : (k i : ℕ) → is_letter k ≡ false → eqb (get_or (folded_name x) i 0) k ≡ eqb (get_or x i 0) k
  byte_test k i h = ap (λ (c : ℕ). eqb c k) (byte_folded x i) ∙ test_folded k (get_or x i 0) h

  -- A digit is tested for alike.
  digit_test : (i : ℕ) → is_digit (get_or (folded_name x) i 0) ≡ is_digit (get_or x i 0)
  digit_test i = ap is_digit (byte_folded x i) ∙ digit_folded (get_or x i 0)

  -- A name byte is tested for alike.
  name_test : (i : ℕ) → is_name_byte (get_or (folded_name x) i 0) ≡ is_name_byte (get_or x i 0)
  name_test i = ap is_name_byte (byte_folded x i) ∙ name_folded (get_or x i 0)

  -- A digit stays.
  digit_same : (i : ℕ) → is_digit (get_or x i 0) ≡ true → get_or (folded_name x) i 0 ≡ get_or x i 0
  digit_same i h = byte_folded x i ∙ digit_stays (get_or x i 0) h

  -- numbers

  number_from_lem : (n i v : ℕ) → number_from n (folded_name x) i v ≡ number_from n x i v
  unfolding number_from
  number_from_lem zero i v = refl
  number_from_lem (suc n) i v = go (is_digit (get_or x i 0)) refl (number_from_lem n (i + 1))
    where
      go : (z : Bool) → is_digit (get_or x i 0) ≡ z → ((u : ℕ) → number_from n (folded_name x) (i + 1) u ≡ number_from n x (i + 1) u)
          → number_from (suc n) (folded_name x) i v ≡ number_from (suc n) x i v
      go true e ih =
          rw (digit_same i e) (ap (λ (o : Number). cond (is_digit (get_or x i 0)) (cond (leb (10 * v + (get_or x i 0 - 48)) max_number) o None)
          (Some (v, i))) (ih (10 * v + (get_or x i 0 - 48))))
      go false e ih = rw (digit_test i, e)

  number_zero_lem : (i : ℕ) → number_zero (folded_name x) i ≡ number_zero x i
  unfolding number_zero
  number_zero_lem i = rw (digit_test i)

  -- A number is read alike.
  pub number_folded : (i : ℕ) → scan_number (folded_name x) i ≡ scan_number x i
  unfolding scan_number
  number_folded i = go (is_digit (get_or x i 0)) refl
    where
      go : (z : Bool) → is_digit (get_or x i 0) ≡ z → scan_number (folded_name x) i ≡ scan_number x i
      go true e =
          rw (digit_same i e, number_zero_lem (i + 1), left_folded x (i + 1)) (ap (λ (o : Number). cond (is_digit (get_or x i 0))
          (cond (eqb (get_or x i 0) 48) (number_zero x (i + 1)) o) None)
          (number_from_lem (length x - (i + 1)) (i + 1) (get_or x i 0 - 48)))
      go false e = rw (digit_test i, e)

  -- made constants and leftover variables

  level_folded : (i : ℕ) → scan_level (folded_name x) i ≡ scan_level x i
  unfolding scan_level
  level_folded i = rw (number_folded i, scan_level)

  at_folded : (i : ℕ) → scan_at (folded_name x) i ≡ scan_at x i
  unfolding scan_at is_letter is_small is_capital
  at_folded i = rw (byte_test 64 i refl, level_folded (i + 1))

  -- A symbol is read alike after its first byte.
  pub symbol_folded : (i : ℕ) → scan_symbol (folded_name x) i ≡ scan_symbol x i
  unfolding scan_symbol
  symbol_folded i = rw (number_folded i, scan_symbol) (go (scan_number x i))
    where
      go : (o : Number)
          → ◌≡◌ {A = Scan} (elim o [ Some (n, e) ↦ scan_at (folded_name x) e | None ↦ None ])
          (elim o [ Some (n, e) ↦ scan_at x e | None ↦ None ])
      go (Some (n, e)) = at_folded e
      go None = refl

  -- A number as a term is read alike.
  numeral_folded : (i : ℕ) → scan_numeral (folded_name x) i ≡ scan_numeral x i
  unfolding scan_numeral
  numeral_folded i = rw (number_folded i, scan_numeral) (go (scan_number x i))
    where
      go : (o : Number)
          → ◌≡◌ {A = Scan} (elim o [ Some (n, e) ↦ cond (is_name_byte (get_or (folded_name x) e 0)) None (Some (e, 0)) | None ↦ None ])
          (elim o [ Some (n, e) ↦ cond (is_name_byte (get_or x e 0)) None (Some (e, 0)) | None ↦ None ])
      go (Some (n, e)) = rw (name_test e)
      go None = refl

  -- names

  name_from_lem : (n i : ℕ) → name_from n (folded_name x) i ≡ name_from n x i
  unfolding name_from
  name_from_lem zero i = refl
  name_from_lem (suc n) i = rw (name_test i, name_from_lem n (i + 1))

  name_end_lem : (i : ℕ) → name_end (folded_name x) i ≡ name_end x i
  unfolding name_end
  name_end_lem i = rw (left_folded x i) (name_from_lem (length x - i) i)

  -- symbols in the text

  symbol_test : (i : ℕ) → is_symbol (folded_name x) i ≡ is_symbol x i
  unfolding is_symbol outside_name is_letter is_small is_capital
  symbol_test i = rw (byte_test 33 i refl, byte_test 95 i refl, name_test (i - 1))

  number_at_lem : (i : ℕ) → number_at (folded_name x) i ≡ number_at x i
  unfolding number_at
  number_at_lem i = rw (number_folded i, number_at)

  level_at_lem : (i : ℕ) → level_at (folded_name x) i ≡ level_at x i
  unfolding level_at
  level_at_lem i = rw (number_folded (i + 1), level_at) (go (scan_number x (i + 1)))
    where
      go : (o : Number)
          → ◌≡◌ {A = ℕ} (elim o [ Some (n, e) ↦ number_at (folded_name x) (e + 1) | None ↦ no_number ])
          (elim o [ Some (n, e) ↦ number_at x (e + 1) | None ↦ no_number ])
      go (Some (n, e)) = number_at_lem (e + 1)
      go None = refl

  symbol_at_lem : (i : ℕ) → symbol_at (folded_name x) i ≡ symbol_at x i
  unfolding symbol_at is_letter is_small is_capital
  symbol_at_lem i = rw (byte_test 33 i refl, number_at_lem (i + 1), level_at_lem i)

  -- The symbols that begin at so many positions are the same.
  pub starts_folded : (n i : ℕ) → starts_in n (folded_name x) i ≡ starts_in n x i
  unfolding starts_in
  starts_folded zero i = refl
  starts_folded (suc n) i = rw (symbol_test i, symbol_at_lem i, starts_folded n (suc i))

  -- terms

  more_folded : (r s : ℕ → Scan) → ((i : ℕ) → r i ≡ s i) → (n c i k : ℕ) → is_letter c ≡ false
      → scan_more r n (folded_name x) c i k ≡ scan_more s n x c i k
  unfolding scan_more is_letter is_small is_capital
  more_folded r s h zero c i k q = rw (byte_test 41 i refl)
  more_folded r s h (suc n) c i k q =
      rw (byte_test c i q, h (i + 1)) (go (s (i + 1)) (λ e j. more_folded r s h n 44 e (higher k j) refl))
    where
      go : (o : Scan) → ((e j : ℕ) → scan_more r n (folded_name x) 44 e (higher k j) ≡ scan_more s n x 44 e (higher k j))
          → cond (eqb (get_or x i 0) c) (elim o as (λ z. Scan) [
            | Some (e, j) ↦ scan_more r n (folded_name x) 44 e (higher k j)
            | None ↦ None
          ]) None ≡ cond (eqb (get_or x i 0) c) (elim o as (λ z. Scan) [
            | Some (e, j) ↦ scan_more s n x 44 e (higher k j)
            | None ↦ None
          ]) None
      go (Some (e, j)) ih = rw (ih e j)
      go None ih = refl

  arguments_folded : (r s : ℕ → Scan) → ((i : ℕ) → r i ≡ s i) → (n i : ℕ) → scan_arguments r n (folded_name x) i ≡ scan_arguments s n x i
  unfolding scan_arguments is_letter is_small is_capital
  arguments_folded r s h n i = rw (more_folded r s h n 40 i 0 refl)

  application_folded : (r s : ℕ → Scan) → ((i : ℕ) → r i ≡ s i) → (t : List ℕ) (symbols k i : ℕ)
      → scan_application r t symbols k (folded_name x) i ≡ scan_application s t symbols k x i
  unfolding scan_application
  application_folded r s h t symbols k i = rw (arguments_folded r s h (arity_of t k) i)

module _ (b t : List ℕ) where
  -- The name of a symbol has as many bytes.
  size_folded : (k : ℕ) → name_size (folded_name b) t k ≡ name_size b t k
  unfolding name_size
  size_folded k = rw (left_folded b (name_start t k))

  module _ (x : List ℕ) where
    named_folded : (k word i e : ℕ) → is_named (folded_name b) t k word (folded_name x) i e ≡ is_named b t k word x i e
    unfolding is_named
    named_folded k word i e = rw (size_folded k, range_twice (e - i) x i b (name_start t k))

    from_folded : (n k word i e : ℕ) → symbol_from n (folded_name b) t k word (folded_name x) i e ≡ symbol_from n b t k word x i e
    unfolding symbol_from
    from_folded zero k word i e = refl
    from_folded (suc n) k word i e = rw (named_folded k word i e, from_folded n (k + 1) word i e)

    symbol_named_lem : (symbols i e : ℕ) → symbol_named symbols (folded_name b) t (folded_name x) i e ≡ symbol_named symbols b t x i e
    unfolding symbol_named
    symbol_named_lem symbols i e = rw (bytes_word x i (e - i)) (from_folded symbols 0 (word_at x i (e - i)) i e)

    -- A term is scanned alike.
    pub term_folded : (symbols f i : ℕ) → scan_term f (folded_name b) t symbols (folded_name x) i ≡ scan_term f b t symbols x i
    unfolding scan_term is_letter is_small is_capital
    term_folded symbols zero i = refl
    term_folded symbols (suc f) i =
        rw (
          byte_test x 33 i refl,
          byte_test x 95 i refl,
          symbol_folded x (i + 1),
          digit_test x i,
          numeral_folded x i,
          name_end_lem x i,
          symbol_named_lem symbols i (name_end x i),
          application_folded x (scan_term f (folded_name b) t symbols (folded_name x)) (scan_term f b t symbols x) (term_folded symbols f) t symbols
              (symbol_named symbols b t x i (name_end x i)) (name_end x i),
        )

    -- instances

    reach_range : (n s i : ℕ) (a : List ℕ) → match_range n (folded_name a) s (folded_name x) i ≡ match_range n a s x i
    unfolding match_range
    reach_range n s i a = rw (left_folded x i, range_twice n a s x i)

    reach_name : (k i : ℕ) → match_name (folded_name b) t k (folded_name x) i ≡ match_name b t k x i
    unfolding match_name
    reach_name k i = rw (size_folded k) (reach_range (name_size b t k) (name_start t k) i b)

    reach_number : (n i : ℕ) → match_number n (folded_name x) i ≡ match_number n x i
    unfolding match_number
    reach_number n i = rw (number_folded x i, match_number)

    reach_functor : (l i : ℕ) → match_functor (folded_name b) t l (folded_name x) i ≡ match_functor b t l x i
    unfolding match_functor
    reach_functor l i = rw (reach_name l i, reach_number (l - max_symbols) i)

    reach_slot : (w : List ℕ) (g v i : ℕ) → match_slot (folded_name x) w g v i ≡ match_slot x w g v i
    unfolding match_slot
    reach_slot w g v i = reach_range (slot_end w g v - slot_start w g v) (slot_start w g v) i x

    reach_more : (r s : ℕ → ℕ → Reach) → ((m i : ℕ) → r m i ≡ s m i) → (n m j c i : ℕ) → is_letter c ≡ false
        → match_more r n t m j (folded_name x) c i ≡ match_more s n t m j x c i
    unfolding match_more is_letter is_small is_capital
    reach_more r s h zero m j c i q = rw (byte_test x 41 i refl)
    reach_more r s h (suc n) m j c i q =
        rw (byte_test x c i q, h (argument_of t m j) (i + 1))
        (go (s (argument_of t m j) (i + 1)) (λ e. reach_more r s h n m (j + 1) 44 e refl))
      where
        go : (o : Reach) → ((e : ℕ) → match_more r n t m (j + 1) (folded_name x) 44 e ≡ match_more s n t m (j + 1) x 44 e)
            → cond (eqb (get_or x i 0) c) (elim o as (λ z. Reach) [
              | Some e ↦ match_more r n t m (j + 1) (folded_name x) 44 e
              | None ↦ None
            ]) None ≡ cond (eqb (get_or x i 0) c) (elim o as (λ z. Reach) [
              | Some e ↦ match_more s n t m (j + 1) x 44 e
              | None ↦ None
            ]) None
        go (Some e) ih = rw (ih e)
        go None ih = refl

    reach_arguments : (r s : ℕ → ℕ → Reach) → ((m i : ℕ) → r m i ≡ s m i) → (m i : ℕ)
        → match_arguments r t m (folded_name x) i ≡ match_arguments s t m x i
    unfolding match_arguments is_letter is_small is_capital
    reach_arguments r s h m i = rw (reach_more r s h (argument_count t m) m 0 40 i refl)

    reach_application : (r s : ℕ → ℕ → Reach) → ((m i : ℕ) → r m i ≡ s m i) → (m i : ℕ)
        → match_application r (folded_name b) t m (folded_name x) i ≡ match_application s b t m x i
    unfolding match_application
    reach_application r s h m i = rw (reach_functor (label_of t m) i, match_application) (go (match_functor b t (label_of t m) x i))
      where
        go : (o : Reach)
            → ◌≡◌ {A = Reach} (elim o [ Some e ↦ match_arguments r t m (folded_name x) e | None ↦ None ])
            (elim o [ Some e ↦ match_arguments s t m x e | None ↦ None ])
        go (Some e) = reach_arguments r s h m e
        go None = refl

    module _ (w : List ℕ) where
      reach_instance : (f g m i : ℕ) → match_instance f (folded_name b) t (folded_name x) w g m i ≡ match_instance f b t x w g m i
      unfolding match_instance
      reach_instance zero g m i = refl
      reach_instance (suc f) g m i =
          rw (
            reach_slot w g (label_of t m) i,
            reach_application (match_instance f (folded_name b) t (folded_name x) w g) (match_instance f b t x w g) (reach_instance f g) m i,
          )

      instance_folded : (s e g m : ℕ) → is_instance (folded_name b) t (folded_name x) w s e g m ≡ is_instance b t x w s e g m
      unfolding is_instance
      instance_folded s e g m = rw (reach_instance max_nodes g m s)

      slots_folded : (s e i j : ℕ) → same_slots (folded_name x) s e i j ≡ same_slots x s e i j
      unfolding same_slots
      slots_folded s e i j = rw (range_twice (e - s) x s x i)

      module _ (f g : ℕ) where
        name_folded_too : (i j : ℕ) → same_name (folded_name b) t (folded_name x) w f g i j ≡ same_name b t x w f g i j
        unfolding same_name
        name_folded_too i j =
            rw (
              slots_folded (start_of w f g i) (end_of w f g i) (start_of w f g j) (end_of w f g j),
              instance_folded (start_of w f g i) (end_of w f g i) (side_frame f g (element_side j)) (element_node j),
            )

        join_folded : (c : List ℕ) (i j : ℕ) → join_name (folded_name b) t (folded_name x) w f g c i j ≡ join_name b t x w f g c i j
        unfolding join_name
        join_folded c i j = rw (name_folded_too i j)

        children_alike : (r s : List ℕ → ℕ → ℕ → Compared) → ((c : List ℕ) (i j : ℕ) → r c i j ≡ s c i j) → (n i j k : ℕ) (c : List ℕ)
            → same_children r n t i j k c ≡ same_children s n t i j k c
        unfolding same_children
        children_alike r s h zero i j k c = refl
        children_alike r s h (suc n) i j k c =
            rw (
              h c (element_child t i k) (element_child t j k),
              children_alike r s h n i j (k + 1) (s c (element_child t i k) (element_child t j k)).classes,
            )

        nodes_alike : (r s : List ℕ → ℕ → ℕ → Compared) → ((c : List ℕ) (i j : ℕ) → r c i j ≡ s c i j) → (i j : ℕ) (c : List ℕ)
            → same_nodes r t i j c ≡ same_nodes s t i j c
        unfolding same_nodes
        nodes_alike r s h i j c = rw (children_alike r s h (argument_count t (element_node i)) i j 0 c)

        roots_folded : (r s : List ℕ → ℕ → ℕ → Compared) → ((c : List ℕ) (i j : ℕ) → r c i j ≡ s c i j) → (i j : ℕ) (c : List ℕ)
            → same_roots r (folded_name b) t (folded_name x) w f g i j c ≡ same_roots s b t x w f g i j c
        unfolding same_roots
        roots_folded r s h i j c = rw (join_folded c i j, join_folded c j i, nodes_alike r s h i j c)

        elements_folded : (n : ℕ) (c : List ℕ) (i j : ℕ)
            → same_elements n (folded_name b) t (folded_name x) w f g c i j ≡ same_elements n b t x w f g c i j
        unfolding same_elements
        elements_folded zero c i j = refl
        elements_folded (suc n) c i j =
            let p = root_of c i in
            let q = root_of p.classes j in
            roots_folded (same_elements n (folded_name b) t (folded_name x) w f g) (same_elements n b t x w f g) (elements_folded n) p.root
            q.root q.classes

        -- the brief comparison

        brief_name_lem : (i j : ℕ) → brief_name (folded_name b) t (folded_name x) w f g i j ≡ brief_name b t x w f g i j
        unfolding brief_name
        brief_name_lem i j = rw (name_folded_too i j)

        brief_children_lem : (r s : ℕ → ℕ → Option Bool) → ((i j : ℕ) → r i j ≡ s i j) → (n i j k : ℕ)
            → brief_children r n t i j k ≡ brief_children s n t i j k
        unfolding brief_children
        brief_children_lem r s h zero i j k = refl
        brief_children_lem r s h (suc n) i j k =
            ap₂ found_then (h (element_child t i k) (element_child t j k)) (brief_children_lem r s h n i j (k + 1))

        brief_elements_lem : (n i j : ℕ) → brief_elements n (folded_name b) t (folded_name x) w f g i j ≡ brief_elements n b t x w f g i j
        unfolding brief_elements brief_nodes
        brief_elements_lem zero i j = refl
        brief_elements_lem (suc n) i j =
            rw (
              brief_name_lem i j,
              brief_name_lem j i,
              brief_children_lem (brief_elements n (folded_name b) t (folded_name x) w f g) (brief_elements n b t x w f g) (brief_elements_lem n)
                  (argument_count t (element_node i)) i j 0,
            )

        -- Two atoms are compared alike.
        pub atoms_folded : (k m : ℕ) → same_atoms (folded_name b) t (folded_name x) w f g k m ≡ same_atoms b t x w f g k m
        unfolding same_atoms same_by_classes
        atoms_folded k m =
            ap₂ decided_by (brief_elements_lem 3 (node_element 0 k) (node_element 1 m))
            (ap (λ (o : Compared). o.same) (elements_folded comparison_depth separate (node_element 0 k) (node_element 1 m)))
