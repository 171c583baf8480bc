-- One law for each way through a step of a scan; the hypotheses are the facts on the code's path.
use Prim.Native.Nat.{ℕ, suc, ◌+◌, ◌-◌, ◌/◌, ◌%◌, ◌<◌, ◌≤◌}
use native.Mathlib.Omega.{arith}
use mathlib.Core.Path.{◌≡◌, refl, sym, ap, ◌∙◌, subst}
use mathlib.Core.List.{List, [], ◌∷◌}
use lib.ListN.{length, get_or}
use borrow.Author.Tests.{ne_eqb}
use Rattle.scanning.specs.Scanning.{Scan}
use Rattle.std.specs.Prelude.{Option, Some, None}
use Rattle.scanning.specs.Scanning.{higher, scan_term}
use Rattle.term_scanner.specs.declared.Head.{Head}
use Rattle.term_scanner.specs.declared.Head.TheVariants.{Leaf, Open}
use Rattle.term_scanner.specs.declared.TermScan.{TermScan}
use Rattle.term_scanner.specs.declared.delimiters.DelimiterStack.{DelimiterStack}
use Rattle.term_scanner.specs.Heads.{head_at}
use Rattle.term_scanner.specs.Delimiters.{bits_before, bits_of_words, delimiters, power_of2, Fits, capacity, pushed}
use Rattle.term_scanner.specs.declared.Stage.{Stage}
use Rattle.term_scanner.specs.declared.Stage.TheVariants.{Begin, After, Ended, Malformed, Full}
use Rattle.term_scanner.specs.Steps.{resume, begin, found, outcome, stages_left, steps_left, Advances, Reaches}
use Rattle.term_scanner.proofs.ranges.Laws.{inside}
use Rattle.term_scanner.proofs.Heads.{HeadFrom, head_from}
use Rattle.term_scanner.proofs.Resuming.{begin_rank, begin_absent, begin_leaf, begin_open, open_no_room, begin_whole}

-- What has not ended has found nothing.
pub found_none : (s : TermScan) → (s.stage ≡ Ended → ⊥) → None ≡ found s
unfolding found
found_none s n = go s.stage refl
  where
    go : (z : Stage) → s.stage ≡ z → None ≡ found s
    go Begin e = rw e
    go After e = rw e
    go Ended e = absurd (n e)
    go Malformed e = rw e
    go Full e = rw e

module _ (rank : ℕ) (b t : List ℕ) (symbols : ℕ) (x : List ℕ) where
  -- outcomes by the stage

  -- What a scan with these delimiters, depth, position and level comes to from the beginning of a term.
  abbrev FromBegin : List ℕ → TermScan → Scan
  FromBegin w s = begin (delimiters w s.stack) rank b t symbols x s.depth s.at s.level

  -- The same after a term.
  abbrev FromResume : List ℕ → TermScan → Scan
  FromResume w s = resume (delimiters w s.stack) rank b t symbols x s.depth s.at s.level

  outcome_begin : (w : List ℕ) (s : TermScan) → s.stage ≡ Begin → outcome rank b t symbols x w s ≡ FromBegin w s
  unfolding outcome
  outcome_begin w s h = rw h

  outcome_full : (w : List ℕ) (s : TermScan) → s.stage ≡ Full → outcome rank b t symbols x w s ≡ FromBegin w s
  unfolding outcome
  outcome_full w s h = rw h

  outcome_after : (w : List ℕ) (s : TermScan) → s.stage ≡ After → outcome rank b t symbols x w s ≡ FromResume w s
  unfolding outcome
  outcome_after w s h = rw h

  outcome_ended : (w : List ℕ) (s : TermScan) → s.stage ≡ Ended → outcome rank b t symbols x w s ≡ Some (s.at, s.level)
  unfolding outcome
  outcome_ended w s h = rw h

  outcome_malformed : (w : List ℕ) (s : TermScan) → s.stage ≡ Malformed → outcome rank b t symbols x w s ≡ None
  unfolding outcome
  outcome_malformed w s h = rw h

  module _ (w : List ℕ) (s : TermScan) (fits : Fits w s.stack) where
    -- There is no term.
    stop_malformed : (r : TermScan) → 1 < stages_left s.stage → outcome rank b t symbols x w s ≡ None → Fits w r.stack → r.at ≡ s.at
        → r.stage ≡ Malformed → Advances rank b t symbols x w s w r
    unfolding steps_left
    stop_malformed r l h f a g =
        record {
          fits = f;
          same = h ∙ sym (outcome_malformed w r g);
          full = λ p q. h;
          falls = rw (a, g) (omega arith);
        }

    module _ (z : s.stage ≡ Begin) where
      pub begin_spent : (r : TermScan) → rank ≤ s.depth → r.stack ≡ s.stack → r.at ≡ s.at → r.stage ≡ Malformed
          → Advances rank b t symbols x w s w r
      begin_spent r l f a g =
          stop_malformed r (rw z (omega arith))
          (outcome_begin w s z ∙ begin_rank rank b t symbols x (delimiters w s.stack) s.depth s.at s.level l)
          (subst (Fits w) (sym f) fits) a g

      module _ (h : Option Head) (l : s.depth < rank) (e : h ≡ head_at b t symbols x s.at) where
        pub begin_none : (r : TermScan) → h ≡ None → r.stack ≡ s.stack → r.at ≡ s.at → r.stage ≡ Malformed
            → Advances rank b t symbols x w s w r
        begin_none r q f a g =
            stop_malformed r (rw z (omega arith))
            (outcome_begin w s z
            ∙ begin_absent rank b t symbols x (delimiters w s.stack) s.depth s.at s.level h l e q)
            (subst (Fits w) (sym f) fits) a g

        -- What the head says of positions.
        from : (k : Option Head) → h ≡ k → HeadFrom x s.at k
        from k q = subst (HeadFrom x s.at) (sym e ∙ q) (head_from b t symbols x s.at)

        pub begin_ended : (r : TermScan) (i j k : ℕ) → h ≡ Some (Leaf i j) → k ≡ higher s.level j → r.stack ≡ s.stack
            → r.depth ≡ s.depth → r.at ≡ i → r.level ≡ k → r.stage ≡ After → Advances rank b t symbols x w s w r
        unfolding steps_left
        begin_ended r i j k q p f d a v g =
            let m = from (Some (Leaf i j)) q in
            record {
              fits = subst (Fits w) (sym f) fits;
              same =
                  outcome_begin w s z
                  ∙ begin_leaf rank b t symbols x (delimiters w s.stack) s.depth s.at s.level h i j l e q
                  ∙ sym (outcome_after w r g ∙ rw (f, d, a, v, p));
              full = λ o j. cc;
              falls = rw (a, g, z) (omega arith);
            }

        pub begin_full : (r : TermScan) (i n m k : ℕ) → h ≡ Some (Open i n) → m + length (delimiters w s.stack) ≡ capacity w → k ≡ n
            → m < k → r.stack ≡ s.stack → r.depth ≡ s.depth → r.at ≡ s.at → r.level ≡ s.level → r.stage ≡ Full
            → Advances rank b t symbols x w s w r
        unfolding steps_left
        begin_full r i n m k q c u y f d a v g =
            let p = from (Some (Open i n)) q in
            record {
              fits = subst (Fits w) (sym f) fits;
              same = outcome_begin w s z ∙ sym (outcome_full w r g ∙ rw (f, d, a, v));
              full =
                  λ o j. outcome_begin w s z
                  ∙ open_no_room rank b t symbols x (delimiters w s.stack) s.depth s.at s.level h i n l e q p.2
                  (omega arith);
              falls = rw (a, g, z) (omega arith);
            }

        pub begin_opened : (v : List ℕ) (r : TermScan) (i n : ℕ) → h ≡ Some (Open i n) → Fits v r.stack
            → delimiters v r.stack ≡ pushed n 0 (delimiters w s.stack) → r.depth ≡ s.depth + 1 → r.at ≡ i
            → r.level ≡ s.level → r.stage ≡ Begin → Advances rank b t symbols x w s v r
        unfolding steps_left
        begin_opened v r i n q f k d a c y =
            let p = from (Some (Open i n)) q in
            record {
              fits = f;
              same =
                  outcome_begin w s z
                  ∙ begin_open rank b t symbols x (delimiters w s.stack) s.depth s.at s.level h i n l e q p.2
                  ∙ sym (outcome_begin v r y ∙ rw (k, d, a, c));
              full = λ o j. cc;
              falls = rw (a, y, z) (omega arith);
            }

    -- after a term

    module _ (z : s.stage ≡ After) (q : DelimiterStack) (g : q ≡ s.stack) where
      -- No delimiter is left.
      pub take_none : (r : TermScan) → q.count ≡ 0 → q.words ≡ 0 → r.stack ≡ s.stack → r.at ≡ s.at → r.level ≡ s.level
          → r.stage ≡ Ended → Advances rank b t symbols x w s w r
      unfolding steps_left delimiters bits_before bits_of_words resume
      take_none r c o k a v u =
          record {
            fits = subst (Fits w) (sym k) fits;
            same =
                outcome_after w s z
                ∙ ap (λ (ms : List ℕ). resume ms rank b t symbols x s.depth s.at s.level) none
                ∙ sym (outcome_ended w r u ∙ rw (a, v));
            full = λ o j. cc;
            falls = rw (a, u, z, k) (omega arith);
          }
        where
          none : delimiters w s.stack ≡ []
          none = rw (← g, c, o)

      -- The next word of delimiters comes on top.
      pub take_word : (r : TermScan) (p : DelimiterStack) → q.count ≡ 0 → Fits w p → delimiters w p ≡ delimiters w q → 0 < p.count
          → r.stack ≡ p → r.depth ≡ s.depth → r.at ≡ s.at → r.level ≡ s.level → r.stage ≡ s.stage
          → Advances rank b t symbols x w s w r
      unfolding steps_left
      take_word r p c f k l e d a v u =
          record {
            fits = subst (Fits w) (sym e) f;
            same = outcome_after w s z ∙ sym (outcome_after w r (u ∙ z) ∙ rw (e, k, g, d, a, v));
            full = λ o j. cc;
            falls = rw (a, u, e, ← g, c) (omega arith);
          }

      -- The nearest delimiter and those after it.
      module _ (m : DelimiterStack) (c : q.count ≡ 0 → ⊥) (et : m.top ≡ q.top / 2) (ec : m.count ≡ q.count - 1)
          (ew : m.words ≡ q.words) where
        taken : delimiters w s.stack ≡ (q.top % 2) ∷ delimiters w m
        unfolding delimiters bits_before
        taken =
            let n : q.count ≡ suc (q.count - 1) = omega arith in
            rw (← g, n, et, ec, ew)

        rest_fits : Fits w m
        unfolding power_of2
        rest_fits =
            let f = subst (Fits w) (sym g) fits in
            let n : q.count ≡ suc (q.count - 1) = omega arith in
            let p : q.top < power_of2 (suc (q.count - 1)) = subst (λ (m : ℕ). q.top < power_of2 m) n f.bounded in
            let o = f.counted in
            record {
              counted = omega arith;
              bounded = rw (et, ec) (omega arith);
              within = let j = f.within in omega arith;
            }

        -- After a term the nearest delimiter must follow.
        after_is : outcome rank b t symbols x w s
            ≡ resume ((q.top % 2) ∷ delimiters w m) rank b t symbols x s.depth s.at s.level
        after_is =
            outcome_after w s z ∙ ap (λ (ms : List ℕ). resume ms rank b t symbols x s.depth s.at s.level) taken

        module _ (p : ℕ) (ebyte : p ≡ get_or x s.at 0) (r : TermScan) where
          pub take_bracket : q.top % 2 ≡ 0 → p ≡ 41 → r.stack ≡ m → r.depth ≡ s.depth - 1 → r.at ≡ s.at + 1
              → r.level ≡ s.level → r.stage ≡ After → Advances rank b t symbols x w s w r
          unfolding steps_left resume
          take_bracket h g n d a v u =
              let i = inside x s.at p 41 ebyte g (omega arith) in
              record {
                fits = subst (Fits w) (sym n) rest_fits;
                same = after_is ∙ rw (h, ← ebyte, g) (sym (outcome_after w r u ∙ rw (n, d, a, v)));
                full = λ o j. cc;
                falls = rw (a, u, z) (omega arith);
              }

          pub take_comma : (q.top % 2 ≡ 0 → ⊥) → p ≡ 44 → r.stack ≡ m → r.depth ≡ s.depth → r.at ≡ s.at + 1
              → r.level ≡ s.level → r.stage ≡ Begin → Advances rank b t symbols x w s w r
          unfolding steps_left resume begin
          take_comma h g n d a v u =
              let i = inside x s.at p 44 ebyte g (omega arith) in
              record {
                fits = subst (Fits w) (sym n) rest_fits;
                same = after_is ∙ rw (ne_eqb (q.top % 2) 0 h, ← ebyte, g) (sym (outcome_begin w r u ∙ rw (n, d, a, v)));
                full = λ o j. cc;
                falls = rw (a, u, z) (omega arith);
              }

          pub take_no_bracket : q.top % 2 ≡ 0 → (p ≡ 41 → ⊥) → r.stack ≡ s.stack → r.at ≡ s.at → r.stage ≡ Malformed
              → Advances rank b t symbols x w s w r
          unfolding resume
          take_no_bracket h g n a u =
              stop_malformed r (rw z (omega arith)) (after_is ∙ rw (h, ← ebyte, ne_eqb p 41 g)) (subst (Fits w) (sym n) fits) a u

          pub take_no_comma : (q.top % 2 ≡ 0 → ⊥) → (p ≡ 44 → ⊥) → r.stack ≡ s.stack → r.at ≡ s.at → r.stage ≡ Malformed
              → Advances rank b t symbols x w s w r
          unfolding resume
          take_no_comma h g n a u =
              stop_malformed r (rw z (omega arith)) (after_is ∙ rw (ne_eqb (q.top % 2) 0 h, ← ebyte, ne_eqb p 44 g))
              (subst (Fits w) (sym n) fits) a u

  -- all steps

  pub reaches_start : (w : List ℕ) (s : TermScan) → Fits w s.stack → s.stage ≡ Begin → Reaches rank b t symbols x w s w s
  reaches_start w s f z =
      record { fits = f; kept = refl; same = refl; full = λ o j. cc }

  pub reaches_on : (u : List ℕ) (p : TermScan) (w : List ℕ) (s : TermScan) (v : List ℕ) (r : TermScan) → Reaches rank b t symbols x u p w s
      → Advances rank b t symbols x w s v r → length v ≡ length w → Reaches rank b t symbols x u p v r
  unfolding capacity
  reaches_on u p w s v r h a k =
      let c = h.kept in
      record {
        fits = a.fits;
        kept = k ∙ c;
        same = h.same ∙ a.same;
        full = λ o j. h.same ∙ a.full o (omega arith);
      }

  -- A scan that has stopped, and not for want of room.
  pub reached : (w : List ℕ) (s : TermScan) (v : List ℕ) (r : TermScan) → Reaches rank b t symbols x w s v r → (r.stage ≡ Begin → ⊥)
      → (r.stage ≡ After → ⊥) → (r.stage ≡ Full → ⊥) → found r ≡ outcome rank b t symbols x w s
  unfolding found outcome
  reached w s v r h l m n = go r.stage refl ∙ sym h.same
    where
      go : (z : Stage) → r.stage ≡ z → found r ≡ outcome rank b t symbols x v r
      go Begin e = absurd (l e)
      go After e = absurd (m e)
      go Ended e = rw e
      go Malformed e = rw e
      go Full e = absurd (n e)

  -- A scan that has stopped with room for more delimiters than the text has bytes.
  pub reached_deep : (w : List ℕ) (s : TermScan) (v : List ℕ) (r : TermScan) → Reaches rank b t symbols x w s v r → (r.stage ≡ Begin → ⊥)
      → (r.stage ≡ After → ⊥) → length w ≡ 1023 → length x ≤ 65535 → found r ≡ outcome rank b t symbols x w s
  unfolding found capacity
  reached_deep w s v r h l m d k = go r.stage refl
    where
      other : (z : Stage) → r.stage ≡ z → (z ≡ Full → ⊥) → found r ≡ outcome rank b t symbols x w s
      other z e n = reached w s v r h l m (λ f. n (sym e ∙ f))

      go : (z : Stage) → r.stage ≡ z → found r ≡ outcome rank b t symbols x w s
      go Begin e = absurd (l e)
      go After e = absurd (m e)
      go Ended e = other Ended e (λ f. cc)
      go Malformed e = other Malformed e (λ f. cc)
      go Full e = rw e (sym (h.full e (omega arith)))

  -- The beginning of the whole term.
  pub whole_start : (w : List ℕ) (s : TermScan) → s.stage ≡ Begin → s.depth ≡ 0 → s.level ≡ 0 → s.stack.count ≡ 0
      → s.stack.words ≡ 0 → outcome rank b t symbols x w s ≡ scan_term rank b t symbols x s.at
  unfolding delimiters bits_before bits_of_words
  whole_start w s z d v c o = outcome_begin w s z ∙ rw (d, v, c, o) (sym (begin_whole rank b t symbols x s.at))

  -- A stack with no whole word is the same with other words.
  top_only : (w v : List ℕ) (q : DelimiterStack) → q.words ≡ 0 → delimiters w q ≡ delimiters v q
  unfolding delimiters bits_of_words
  top_only w v q h = rw h

  -- What comes of a scan without words, from where it has stopped.
  pub handed_over : (w : List ℕ) (s : TermScan) (v : List ℕ) (r : TermScan) (a : Scan) → Reaches rank b t symbols x w s v r
      → length w ≡ 0 → a ≡ outcome rank b t symbols x [] r → a ≡ outcome rank b t symbols x w s
  handed_over w s v r a h d e =
      e ∙ sym (h.same ∙ ap (λ (u : List ℕ). outcome rank b t symbols x u r) (no_words v (h.kept ∙ d)))
    where
      no_words : (l : List ℕ) → length l ≡ 0 → l ≡ []
      no_words [] q = refl
      no_words (n ∷ l) q = absurd (omega arith)

  -- A scan that has stopped for want of any word goes on with other words.
  pub deep_same : (w : List ℕ) (s r : TermScan) → Fits [] s.stack → s.stage ≡ Full → r.stage ≡ Begin → r.stack ≡ s.stack
      → r.depth ≡ s.depth → r.at ≡ s.at → r.level ≡ s.level → outcome rank b t symbols x w r ≡ outcome rank b t symbols x [] s
  deep_same w s r f z y k d a v =
      let o : s.stack.words ≡ 0 = let n = f.within in omega arith in
      outcome_begin w r y ∙ rw (k, d, a, v, top_only w [] s.stack o) (sym (outcome_full [] s z))

pub deep_fits : (w : List ℕ) (q : DelimiterStack) → Fits [] q → Fits w q
deep_fits w q f = record { counted = f.counted; bounded = f.bounded; within = let n = f.within in omega arith }

pub empty_fits : (w : List ℕ) (q : DelimiterStack) → q.top ≡ 0 → q.count ≡ 0 → q.words ≡ 0 → Fits w q
unfolding power_of2
empty_fits w q e c o = record { counted = omega arith; bounded = rw (e, c) (omega arith); within = omega arith }
