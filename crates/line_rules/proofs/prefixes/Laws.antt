-- One law for each way through a turn of the loop or through a call; the hypotheses are the facts on the code's path.
use Prim.Native.Nat.{ℕ, suc, ◌+◌, ◌-◌, ◌/◌, ◌%◌, ◌≤◌, ◌<◌}
use native.Mathlib.Omega.{arith}
use mathlib.Core.Path.{◌≡◌, refl, ◌∙◌}
use mathlib.Core.Bool.{Bool, true, false}
use mathlib.Core.List.{List}
use lib.Dec.{ltb}
use lib.ListN.{length, get_or, get_or-eq_default}
use borrow.Author.Tests.{ltb-true, ltb-false, le-leb, lt-leb, eq-eqb, ne_eqb}
use Rattle.scanning.specs.Scanning.{Scan}
use Rattle.std.specs.Prelude.{Some, None}
use Rattle.scanning.specs.Scanning.{scan_term}
use Rattle.scanning.specs.Frames.{put_range}
use Rattle.line_checking.specs.Clauses.{Read, read, prefix_term, prefix_at, prefix_from}

-- terms of a prefix

module _ (w : List ℕ) (q v i j k m e : ℕ) where
  pub prefix_right : (w' : List ℕ) → j ≤ e → k ≤ m → w' ≡ put_range w q v i j → read w' (Some (j, k)) ≡ prefix_term w q v i j k m e
  unfolding prefix_term
  prefix_right w' h l ew = rw (ew, le-leb _ _ h, le-leb _ _ l)

  pub prefix_high : j ≤ e → m < k → read w None ≡ prefix_term w q v i j k m e
  unfolding prefix_term
  prefix_high h l = rw (le-leb _ _ h, lt-leb _ _ l)

  pub prefix_long : e < j → read w None ≡ prefix_term w q v i j k m e
  unfolding prefix_term
  prefix_long h = rw (lt-leb _ _ h)

-- A tab is no byte past the end.
pub tab_inside : (x : List ℕ) (i c : ℕ) → c ≡ get_or x i 0 → c ≡ 9 → i < length x
tab_inside x i c ec h = go (ltb i (length x)) refl
  where
    go : (z : Bool) → ltb i (length x) ≡ z → i < length x
    go true p = ltb-true _ _ p
    go false p =
        let n : c ≡ 0 = ec ∙ get_or-eq_default x 0 (ltb-false _ _ p) in
        absurd (omega (arith, h, n))

module _ (b t : List ℕ) (symbols : ℕ) (x w : List ℕ) (q : ℕ) where
  module _ (v i m e c : ℕ) (ec : c ≡ get_or x i 0) where
    pub term_none : (c ≡ 9 → ⊥) → read w None ≡ prefix_at b t symbols x w q v i m e
    unfolding prefix_at
    term_none h = rw (← ec, ne_eqb _ _ h)

    module _ (h : c ≡ 9) (o : Scan) (eo : o ≡ scan_term (length x) b t symbols x (i + 1)) where
      pub term_read : (j k : ℕ) (a : Read) → o ≡ Some (j, k) → a ≡ prefix_term w q v (i + 1) j k m e → a ≡ prefix_at b t symbols x w q v i m e
      unfolding prefix_at
      term_read j k a f ea = rw (prefix_at, ← ec, eq-eqb _ _ h, ← eo, f) ea

      pub term_wrong : o ≡ None → read w None ≡ prefix_at b t symbols x w q v i m e
      unfolding prefix_at
      term_wrong f = rw (prefix_at, ← ec, eq-eqb _ _ h, ← eo, f)

  module _ (vs i m e n turn : ℕ) where
    pub terms_end : n ≤ turn → prefix_from (n - turn) b t symbols x w q vs i m e ≡ read w (Some (i, 0))
    unfolding prefix_from
    terms_end h = let z : n - turn ≡ 0 = omega arith in rw z refl

    module _ (w' : List ℕ) (o : Scan) (eo : read w' o ≡ prefix_at b t symbols x w q (vs % 8) i m e) where
      pub terms_wrong : turn < n → o ≡ None → prefix_from (n - turn) b t symbols x w q vs i m e ≡ read w' None
      unfolding prefix_from
      terms_wrong p h = let z : n - turn ≡ suc (n - (turn + 1)) = omega arith in rw z (rw (prefix_from, ← eo, h, ← eo, h))

      pub terms_on : (j k : ℕ) → turn < n → o ≡ Some (j, k)
          → prefix_from (n - turn) b t symbols x w q vs i m e ≡ prefix_from (n - (turn + 1)) b t symbols x w' q (vs / 8) j m e
      unfolding prefix_from
      terms_on j k p h = let z : n - turn ≡ suc (n - (turn + 1)) = omega arith in rw z (rw (prefix_from, ← eo, h, ← eo))
