-- A term is scanned as its head, and its arguments with a rank one lower.
use Prim.Native.Nat.{ℕ, zero, suc, ◌+◌, ◌-◌, ◌<◌, ◌≤◌}
use native.Mathlib.Omega.{arith}
use native.Mathlib.Numerals.{sub-one}
use mathlib.Core.Path.{◌≡◌, refl, sym, ap}
use mathlib.Core.Bool.{Bool, true, false, cond}
use mathlib.Core.List.{List}
use lib.Dec.{eqb, ltb}
use lib.ListN.{length, get_or}
use borrow.Author.Tests.{eqb-true, eqb-false, ne_eqb}
use Rattle.sheet_format.specs.Bytes.{is_digit}
use Rattle.node_table.specs.Layout.{is_function_bit, arity_of}
use Rattle.scanning.specs.Scanning.{Scan}
use Rattle.std.specs.Prelude.{Option, Some, None}
use Rattle.scanning.specs.Scanning.{name_end, symbol_named, scan_symbol, scan_numeral, higher, scan_more, scan_arguments, scan_application}
use Rattle.scanning.specs.Scanning.{scan_term}
use Rattle.term_scanner.specs.declared.Head.{Head}
use Rattle.term_scanner.specs.declared.Head.TheVariants.{Leaf, Open}
use Rattle.term_scanner.specs.Heads.{leaf_of, open_at, head_of, head_at}
use Rattle.term_scanner.proofs.ranges.Laws.{inside}
use Rattle.term_scanner.proofs.Ends.{EndsFrom, symbol_ends, numeral_ends, name_ends}

-- After the first argument: n more, scanned by r.
unfoldable pub after_first : (ℕ → Scan) → ℕ → List ℕ → Scan → Scan
after_first r n x s = elim s [ Some (i, j) ↦ scan_more r n x 44 i (higher 0 j) | None ↦ None ]

-- The scan of a term with this head; its arguments are scanned by r.
unfoldable pub scan_head : (ℕ → Scan) → List ℕ → Option Head → Scan
scan_head r x (Some (Leaf e k)) = Some (e, k)
scan_head r x (Some (Open e n)) = after_first r (n - 1) x (r e)
scan_head r x None = None

module _ (r : ℕ → Scan) (x : List ℕ) where
  leaf_scan : (s : Scan) → s ≡ scan_head r x (leaf_of s)
  unfolding scan_head leaf_of
  leaf_scan (Some (e, k)) = refl
  leaf_scan None = refl

  open_scan : (n i : ℕ) → scan_arguments r n x i ≡ scan_head r x (open_at n x i)
  unfolding scan_arguments scan_head after_first open_at scan_more
  open_scan zero i = refl
  open_scan (suc n) i = rw (ne_eqb (suc n) 0 (λ q. omega arith)) (go (eqb (get_or x i 0) 40))
    where
      go : (z : Bool)
          → cond z (elim (r (i + 1)) as (λ z. Scan) [ Some (e, j) ↦ scan_more r n x 44 e (higher 0 j) | None ↦ None ]) None
          ≡ scan_head r x (cond z (Some (Open (i + 1) (suc n))) None)
      go true = ap (λ (m : ℕ). after_first r m x (r (i + 1))) (sym (sub-one (suc n)))
      go false = refl

  application_scan : (t : List ℕ) (symbols k i : ℕ) → scan_application r t symbols k x i ≡ scan_head r x (head_of t symbols k x i)
  unfolding scan_application head_of scan_head
  application_scan t symbols k i = go (ltb k symbols) (eqb (is_function_bit t k) 1)
    where
      go : (a b : Bool)
          → cond a (cond b (scan_arguments r (arity_of t k) x i) None) None
          ≡ scan_head r x (cond (cond a b false) (open_at (arity_of t k) x i) None)
      go true true = open_scan (arity_of t k) i
      go true false = refl
      go false b = refl

module _ (b t : List ℕ) (symbols : ℕ) (x : List ℕ) where
  pub head_scan : (f i : ℕ) → scan_term (suc f) b t symbols x i ≡ scan_head (scan_term f b t symbols x) x (head_at b t symbols x i)
  unfolding scan_term head_at
  head_scan f i =
      let k = symbol_named symbols b t x i (name_end x i) in
      go (eqb (get_or x i 0) 33) (eqb (get_or x i 0) 95) (is_digit (get_or x i 0)) (leaf_of (scan_symbol x (i + 1))) (leaf_of (scan_numeral x i))
      (head_of t symbols k x (name_end x i)) (leaf_scan (scan_term f b t symbols x) x (scan_symbol x (i + 1)))
      (leaf_scan (scan_term f b t symbols x) x (scan_numeral x i))
      (application_scan (scan_term f b t symbols x) x t symbols k (name_end x i))
    where
      go : {s n a : Scan} (u v w : Bool) (h l g : Option Head) → s ≡ scan_head (scan_term f b t symbols x) x h
          → n ≡ scan_head (scan_term f b t symbols x) x l → a ≡ scan_head (scan_term f b t symbols x) x g
          → cond u s (cond v s (cond w n a)) ≡ scan_head (scan_term f b t symbols x) x (cond (cond u true v) h (cond w l g))
      go true v w h l g p q r = p
      go false true w h l g p q r = p
      go false false true h l g p q r = q
      go false false false h l g p q r = r

-- positions

-- A head that ends at i or after it; where arguments are to begin, the bracket before them is inside the text.
abbrev pub HeadFrom : List ℕ → ℕ → Option Head → Type 0
HeadFrom x i (Some (Leaf e k)) = i ≤ e
HeadFrom x i (Some (Open e n)) = (i < e) × (i < length x) × (0 < n)
HeadFrom x i None = Unit {0}

head_either : (x : List ℕ) (i : ℕ) (z : Bool) (h g : Option Head) → HeadFrom x i h → HeadFrom x i g → HeadFrom x i (cond z h g)
head_either x i true h g p q = p
head_either x i false h g p q = q

leaf_from : (x : List ℕ) (i j : ℕ) (s : Scan) → i ≤ j → EndsFrom j s → HeadFrom x i (leaf_of s)
unfolding leaf_of
leaf_from x i j (Some (e, k)) l h = omega arith
leaf_from x i j None l h = tt

open_from : (n : ℕ) (x : List ℕ) (i j : ℕ) → i ≤ j → HeadFrom x i (open_at n x j)
unfolding open_at
open_from n x i j l = go (eqb n 0) (eqb (get_or x j 0) 40) refl refl
  where
    go : (a b : Bool) → eqb n 0 ≡ a → eqb (get_or x j 0) 40 ≡ b → HeadFrom x i (cond a (Some (Leaf j 0)) (cond b (Some (Open (j + 1) n)) None))
    go true b p q = l
    go false true p q =
        let d = eqb-false n 0 p in
        let h = inside x j (get_or x j 0) 40 refl (eqb-true (get_or x j 0) 40 q) (omega arith) in
        (omega arith, omega arith, omega arith)
    go false false p q = tt

pub head_from : (b t : List ℕ) (symbols : ℕ) (x : List ℕ) (i : ℕ) → HeadFrom x i (head_at b t symbols x i)
unfolding head_at head_of
head_from b t symbols x i =
    let k = symbol_named symbols b t x i (name_end x i) in
    head_either x i (cond (eqb (get_or x i 0) 33) true (eqb (get_or x i 0) 95)) (leaf_of (scan_symbol x (i + 1))) _
    (leaf_from x i (i + 1) (scan_symbol x (i + 1)) (omega arith) (symbol_ends x (i + 1)))
    (head_either x i (is_digit (get_or x i 0)) (leaf_of (scan_numeral x i)) (head_of t symbols k x (name_end x i))
    (leaf_from x i i (scan_numeral x i) (omega arith) (numeral_ends x i))
    (head_either x i (cond (ltb k symbols) (eqb (is_function_bit t k) 1) false) (open_at (arity_of t k) x (name_end x i)) None
    (open_from (arity_of t k) x i (name_end x i) (name_ends x i)) tt))
