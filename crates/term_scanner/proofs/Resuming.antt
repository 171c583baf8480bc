-- A scan that goes on after a term, or from the beginning of one, comes to what `scan_term` finds.
use Prim.Native.Nat.{ℕ, zero, suc, ◌+◌, ◌-◌, ◌<◌, ◌≤◌}
use native.Mathlib.Omega.{arith}
use native.Mathlib.Numerals.{sub-one}
use mathlib.Core.Path.{◌≡◌, refl, sym, ap, ◌∙◌}
use mathlib.Core.Bool.{Bool, true, false, cond}
use mathlib.Core.List.{List, [], ◌∷◌}
use lib.Dec.{eqb, ltb}
use lib.ListN.{length, get_or, get_or-eq_default}
use borrow.Author.Tests.{ltb-true, ltb-false, lt-ltb, le-ltb}
use Rattle.scanning.specs.Scanning.{Scan}
use Rattle.std.specs.Prelude.{Option, Some, None}
use Rattle.scanning.specs.Scanning.{higher, scan_more, scan_term}
use Rattle.term_scanner.specs.declared.Head.{Head}
use Rattle.term_scanner.specs.declared.Head.TheVariants.{Leaf, Open}
use Rattle.term_scanner.specs.Heads.{head_at}
use Rattle.term_scanner.specs.Delimiters.{pushed}
use Rattle.term_scanner.specs.Steps.{resume, begin}
use Rattle.term_scanner.proofs.delimiters.Laws.{pushed_length}
use Rattle.term_scanner.proofs.Ends.{EndsFrom, term_ends}
use Rattle.term_scanner.proofs.Heads.{after_first, scan_head, head_scan}

-- levels

higher_zero : (j : ℕ) → higher 0 j ≡ j
unfolding higher
higher_zero zero = refl
higher_zero (suc j) = rw (lt-ltb 0 (suc j) (omega arith))

higher_three : (k j l : ℕ) → higher k (higher j l) ≡ higher (higher k j) l
unfolding higher
higher_three k j l = go (ltb j l) (ltb k j) (ltb k l) refl refl refl
  where
    go : (a b c : Bool) → ltb j l ≡ a → ltb k j ≡ b → ltb k l ≡ c
        → cond (ltb k (cond a l j)) (cond a l j) k ≡ cond (ltb (cond b j k) l) l (cond b j k)
    go true true c p q r =
        let u = ltb-true j l p in let v = ltb-true k j q in rw (lt-ltb k l (omega arith), lt-ltb j l (omega arith))
    go true false c p q r = refl
    go false true c p q r =
        let u = ltb-false j l p in let v = ltb-true k j q in rw (lt-ltb k j (omega arith), le-ltb j l (omega arith))
    go false false c p q r =
        let u = ltb-false j l p in let v = ltb-false k j q in rw (le-ltb k j (omega arith), le-ltb k l (omega arith))

-- delimiters

-- Commas are on top of what they were pushed on.
comma_first : (n : ℕ) (l : List ℕ) → pushed n 1 (1 ∷ l) ≡ 1 ∷ pushed n 1 l
unfolding pushed
comma_first zero l = refl
comma_first (suc n) l = comma_first n (1 ∷ l)

module _ (rank : ℕ) (b t : List ℕ) (symbols : ℕ) (x : List ℕ) where
  -- After a term of a scan.
  after : List ℕ → ℕ → ℕ → Scan → Scan
  after ms d k s = elim s [ Some (e, j) ↦ resume ms rank b t symbols x d e (higher k j) | None ↦ None ]

  -- Scanning n more arguments and the bracket, and going on after them.
  more_resume : (n i j k d : ℕ) (ms : List ℕ)
      → after ms d k (scan_more (scan_term (rank - (d + 1)) b t symbols x) n x 44 i j)
      ≡ resume (pushed n 1 (0 ∷ ms)) rank b t symbols x (d + 1) i (higher k j)
  unfolding after scan_more resume pushed
  more_resume zero i j k d ms =
      let e : d + 1 - 1 ≡ d = omega arith in
      rw e (go (eqb (get_or x i 0) 41))
    where
      go : (z : Bool)
          → after ms d k (cond z (Some (i + 1, j)) None)
          ≡ cond z (resume ms rank b t symbols x d (i + 1) (higher k j)) None
      go true = refl
      go false = refl
  more_resume (suc n) i j k d ms =
      rw (comma_first n (0 ∷ ms))
      (go (eqb (get_or x i 0) 44) (scan_term (rank - (d + 1)) b t symbols x (i + 1)) (more_resume n))
    where
      r : ℕ → Scan
      r = scan_term (rank - (d + 1)) b t symbols x

      Rest : Type 0
      Rest = (i j k d : ℕ) (ms : List ℕ)
          → after ms d k (scan_more (scan_term (rank - (d + 1)) b t symbols x) n x 44 i j)
          ≡ resume (pushed n 1 (0 ∷ ms)) rank b t symbols x (d + 1) i (higher k j)

      further : ℕ → ℕ → Scan
      further e l = resume (pushed n 1 (0 ∷ ms)) rank b t symbols x (d + 1) e l

      go : (z : Bool) (s : Scan) → Rest
          → after ms d k
          (cond z (elim s as (λ z. Scan) [ Some (e, l) ↦ scan_more r n x 44 e (higher j l) | None ↦ None ]) None)
          ≡ cond z (elim s as (λ z. Scan) [ Some (e, l) ↦ further e (higher (higher k j) l) | None ↦ None ]) None
      go true (Some (e, l)) ih =
          ih e (higher j l) k d ms ∙ ap (further e) (higher_three k j l)
      go true None ih = refl
      go false s ih = refl

  -- from the beginning of a term

  pub begin_rank : (ms : List ℕ) (d i k : ℕ) → rank ≤ d → begin ms rank b t symbols x d i k ≡ None
  unfolding begin scan_term
  begin_rank ms d i k h = let e : rank - d ≡ 0 = omega arith in rw (begin, e)

  -- A term by its head.
  begin_head : (ms : List ℕ) (d i k : ℕ) (h : Option Head) → d < rank → h ≡ head_at b t symbols x i
      → begin ms rank b t symbols x d i k ≡ after ms d k (scan_head (scan_term (rank - (d + 1)) b t symbols x) x h)
  unfolding begin after
  begin_head ms d i k h l e =
      let z : rank - d ≡ suc (rank - (d + 1)) = omega arith in
      rw (begin, z, e) (ap (after ms d k) (head_scan b t symbols x (rank - (d + 1)) i))

  pub begin_absent : (ms : List ℕ) (d i k : ℕ) (h : Option Head) → d < rank → h ≡ head_at b t symbols x i → h ≡ None
      → begin ms rank b t symbols x d i k ≡ None
  unfolding scan_head after
  begin_absent ms d i k h l e q = begin_head ms d i k h l e ∙ rw q

  pub begin_leaf : (ms : List ℕ) (d i k : ℕ) (h : Option Head) (e j : ℕ) → d < rank → h ≡ head_at b t symbols x i → h ≡ Some (Leaf e j)
      → begin ms rank b t symbols x d i k ≡ resume ms rank b t symbols x d e (higher k j)
  unfolding scan_head after
  begin_leaf ms d i k h e j l p q = begin_head ms d i k h l p ∙ rw q

  pub begin_open : (ms : List ℕ) (d i k : ℕ) (h : Option Head) (e n : ℕ) → d < rank → h ≡ head_at b t symbols x i → h ≡ Some (Open e n) → 0 < n
      → begin ms rank b t symbols x d i k ≡ begin (pushed n 0 ms) rank b t symbols x (d + 1) e k
  unfolding scan_head after_first after pushed begin
  begin_open ms d i k h e zero l p q z = absurd (omega arith)
  begin_open ms d i k h e (suc n) l p q z =
      begin_head ms d i k h l p
      ∙ ap (λ (h : Option Head). after ms d k (scan_head (scan_term (rank - (d + 1)) b t symbols x) x h)) q
      ∙ ap (λ (m : ℕ). after ms d k (after_first (scan_term (rank - (d + 1)) b t symbols x) m x (scan_term (rank - (d + 1)) b t symbols x e)))
      (sub-one (suc n)) ∙ go (scan_term (rank - (d + 1)) b t symbols x e)
    where
      go : (s : Scan)
          → after ms d k (after_first (scan_term (rank - (d + 1)) b t symbols x) n x s)
          ≡ elim s as (λ z. Scan)
          [ Some (i, j) ↦ resume (pushed n 1 (0 ∷ ms)) rank b t symbols x (d + 1) i (higher k j) | None ↦ None ]
      go (Some (i, j)) =
          more_resume n i (higher 0 j) k d ms
          ∙ ap (λ (l : ℕ). resume (pushed n 1 (0 ∷ ms)) rank b t symbols x (d + 1) i (higher k l)) (higher_zero j)
      go None = refl

  -- room

  -- Where more delimiters are to come than bytes are left, there is no term.
  no_room_lem : (ms : List ℕ) (d i k : ℕ) → 0 < length ms → length x < i + length ms → resume ms rank b t symbols x d i k ≡ None
  unfolding resume
  no_room_lem [] d i k z h = absurd (omega arith)
  no_room_lem (m ∷ ms) d i k z h = go (ltb i (length x)) refl (no_room_lem ms)
    where
      Rest : Type 0
      Rest = (d i k : ℕ) → 0 < length ms → length x < i + length ms → resume ms rank b t symbols x d i k ≡ None

      inner : (a p q : Bool) (s : Scan) → i < length x → EndsFrom (i + 1) s → Rest
          → cond a (cond p (resume ms rank b t symbols x (d - 1) (i + 1) k) None)
          (cond q (elim s as (λ z. Scan) [ Some (e, j) ↦ resume ms rank b t symbols x d e (higher k j) | None ↦ None ]) None)
          ≡ None
      inner true true q s l f ih = ih (d - 1) (i + 1) k (omega arith) (omega arith)
      inner true false q s l f ih = refl
      inner false p true (Some (e, j)) l f ih = ih d e (higher k j) (omega arith) (omega arith)
      inner false p true None l f ih = refl
      inner false p false s l f ih = refl

      outer : (a : Bool) → ◌≡◌ {A = Scan} (cond a None None) None
      outer true = refl
      outer false = refl

      go : (c : Bool) → ltb i (length x) ≡ c → Rest → resume (m ∷ ms) rank b t symbols x d i k ≡ None
      go true e ih =
          inner (eqb m 0) (eqb (get_or x i 0) 41) (eqb (get_or x i 0) 44) (scan_term (rank - d) b t symbols x (i + 1)) (ltb-true i (length x) e)
          (term_ends b t symbols x (rank - d) (i + 1)) ih
      go false e ih =
          rw (resume, get_or-eq_default x 0 (ltb-false i (length x) e)) (outer (eqb m 0))

  begin_no_room : (ms : List ℕ) (d i k : ℕ) → 0 < length ms → length x < i + length ms → begin ms rank b t symbols x d i k ≡ None
  unfolding begin
  begin_no_room ms d i k z h = go (scan_term (rank - d) b t symbols x i) (term_ends b t symbols x (rank - d) i)
    where
      go : (s : Scan) → EndsFrom i s
          → elim s as (λ z. Scan) [ Some (e, j) ↦ resume ms rank b t symbols x d e (higher k j) | None ↦ None ] ≡ None
      go (Some (e, j)) f = no_room_lem ms d e (higher k j) z (omega arith)
      go None f = refl

  pub open_no_room : (ms : List ℕ) (d i k : ℕ) (h : Option Head) (e n : ℕ) → d < rank → h ≡ head_at b t symbols x i → h ≡ Some (Open e n) → 0 < n
      → length x < n + length ms → begin ms rank b t symbols x d i k ≡ None
  open_no_room ms d i k h e n l p q z g =
      let m = pushed_length n 0 ms in
      begin_open ms d i k h e n l p q z ∙ begin_no_room (pushed n 0 ms) (d + 1) e k (omega arith) (omega arith)

-- Nothing is left after the whole term.
pub begin_whole : (rank : ℕ) (b t : List ℕ) (symbols : ℕ) (x : List ℕ) (i : ℕ)
    → scan_term rank b t symbols x i ≡ begin [] rank b t symbols x 0 i 0
unfolding begin resume
begin_whole rank b t symbols x i =
    let e : rank - 0 ≡ rank = omega arith in
    rw (begin, e) (go (scan_term rank b t symbols x i))
  where
    go : (s : Scan) → s ≡ elim s as (λ z. Scan) [ Some (e, j) ↦ resume [] rank b t symbols x 0 e (higher 0 j) | None ↦ None ]
    go (Some (e, j)) = ap (λ (j : ℕ). Some (e, j)) (sym (higher_zero j))
    go None = refl
