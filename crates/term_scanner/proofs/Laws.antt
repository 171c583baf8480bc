-- One law for each way through a turn of a loop or through a call; the hypotheses are the facts on the code's path.
use Prim.Native.Nat.{ℕ, ◌+◌, ◌<◌, max}
use native.Mathlib.Omega.{arith}
use mathlib.Core.Path.{◌≡◌, refl, sym, ◌∙◌}
use mathlib.Core.Bool.{Bool, true, false, cond}
use mathlib.Core.List.{List}
use lib.Dec.{eqb, ltb}
use lib.ListN.{length, get_or}
use borrow.Author.Tests.{eqb-true, eq-eqb, ltb-false, ltb-true, ne_eqb}
use Rattle.sheet_format.specs.Bytes.{is_digit, is_name_byte}
use Rattle.node_table.specs.Layout.{is_function_bit, arity_of}
use Rattle.scanning.specs.Ranges.{Number}
use Rattle.std.specs.Prelude.{Option, Some, None}
use Rattle.scanning.specs.Scanning.{Scan}
use Rattle.scanning.specs.Ranges.{scan_number}
use Rattle.scanning.specs.Scanning.{name_end, symbol_named, scan_level, scan_at, scan_symbol, scan_numeral, higher}
use Rattle.term_scanner.specs.declared.Head.{Head}
use Rattle.term_scanner.specs.declared.Head.TheVariants.{Leaf}
use Rattle.term_scanner.specs.Heads.{leaf_of, open_at, head_of, head_at}
use Rattle.term_scanner.proofs.ranges.Laws.{inside}

pub sigil_inside : (x : List ℕ) (i b : ℕ) (z : Bool) → b ≡ get_or x i 0 → z ≡ cond (eqb b 33) true (eqb b 95) → z ≡ true → i < length x
sigil_inside x i b z e d h = go (eqb b 33) (eqb b 95) refl refl (sym d ∙ h)
  where
    go : (u v : Bool) → eqb b 33 ≡ u → eqb b 95 ≡ v → cond u true v ≡ true → i < length x
    go true v p q k = inside x i b 33 e (eqb-true b 33 p) (omega arith)
    go false true p q k = inside x i b 95 e (eqb-true b 95 q) (omega arith)
    go false false p q k = absurd (let y : ◌≡◌ {A = ℕ} 0 1 = cc in omega arith)

-- symbols of a text

pub level_some : (x : List ℕ) (i k e : ℕ) (r : Number) → r ≡ scan_number x i → r ≡ Some (k, e) → Some (e, k) ≡ scan_level x i
unfolding scan_level
level_some x i k e r p q = rw (scan_level, ← p, q)

pub level_none : (x : List ℕ) (i : ℕ) (r : Number) → r ≡ scan_number x i → r ≡ None → None ≡ scan_level x i
unfolding scan_level
level_none x i r p q = rw (scan_level, ← p, q)

pub sigil_here : (x : List ℕ) (i b : ℕ) (s : Scan) → b ≡ get_or x i 0 → b ≡ 64 → s ≡ scan_level x (i + 1) → s ≡ scan_at x i
unfolding scan_at
sigil_here x i b s p q h = rw (← p, eq-eqb b 64 q) h

pub sigil_none : (x : List ℕ) (i b : ℕ) → b ≡ get_or x i 0 → (b ≡ 64 → ⊥) → None ≡ scan_at x i
unfolding scan_at
sigil_none x i b p q = rw (← p, ne_eqb b 64 q)

pub symbol_some : (x : List ℕ) (i n e : ℕ) (r : Number) (s : Scan) → r ≡ scan_number x i → r ≡ Some (n, e) → s ≡ scan_at x e
    → s ≡ scan_symbol x i
unfolding scan_symbol
symbol_some x i n e r s p q h = rw (scan_symbol, ← p, q) h

pub symbol_none : (x : List ℕ) (i : ℕ) (r : Number) → r ≡ scan_number x i → r ≡ None → None ≡ scan_symbol x i
unfolding scan_symbol
symbol_none x i r p q = rw (scan_symbol, ← p, q)

-- numbers

pub numeral_none : (x : List ℕ) (i : ℕ) (r : Number) → r ≡ scan_number x i → r ≡ None → None ≡ scan_numeral x i
unfolding scan_numeral
numeral_none x i r p q = rw (scan_numeral, ← p, q)

module _ (x : List ℕ) (i n e : ℕ) (r : Number) (p : r ≡ scan_number x i) (q : r ≡ Some (n, e)) (c : ℕ) (h : c ≡ get_or x e 0) (z : Bool)
    (k : z ≡ is_name_byte c) where
  numeral_next : cond z None (Some (e, 0)) ≡ scan_numeral x i
  unfolding scan_numeral
  numeral_next = rw (scan_numeral, ← p, q) (rw (k, h))

  pub numeral_longer : z ≡ true → None ≡ scan_numeral x i
  numeral_longer g = rw (← numeral_next, g)

  pub numeral_ended : z ≡ false → Some (e, 0) ≡ scan_numeral x i
  numeral_ended g = rw (← numeral_next, g)

-- heads

-- The higher of two levels is their maximum.
pub max_higher : (k j m : ℕ) → m ≡ max k j → m ≡ higher k j
unfolding higher
max_higher k j m e = go (ltb k j) refl
  where
    go : (z : Bool) → ltb k j ≡ z → m ≡ cond z j k
    go true p = let l = ltb-true k j p in omega arith
    go false p = let l = ltb-false k j p in omega arith

pub leaf_some : (s : Scan) (e k : ℕ) → s ≡ Some (e, k) → Some (Leaf e k) ≡ leaf_of s
unfolding leaf_of
leaf_some s e k q = rw (leaf_of, q)

pub leaf_none : (s : Scan) → s ≡ None → None ≡ leaf_of s
unfolding leaf_of
leaf_none s q = rw (leaf_of, q)

module _ (b t : List ℕ) (symbols : ℕ) (x : List ℕ) (i c : ℕ) (z : Bool) (e : c ≡ get_or x i 0) (d : z ≡ cond (eqb c 33) true (eqb c 95)) where
  pub head_sigil : (s : Scan) (r : Option Head) → z ≡ true → s ≡ scan_symbol x (i + 1) → r ≡ leaf_of s → r ≡ head_at b t symbols x i
  unfolding head_at
  head_sigil s r h k l = l ∙ rw (← e, ← d, h, k)

  module _ (h : z ≡ false) (w : Bool) (v : w ≡ is_digit c) where
    pub head_numeral : (s : Scan) (r : Option Head) → w ≡ true → s ≡ scan_numeral x i → r ≡ leaf_of s → r ≡ head_at b t symbols x i
    unfolding head_at
    head_numeral s r g k l = l ∙ rw (← e, ← d, h, ← v, g, k)

    module _ (u : w ≡ false) (at k : ℕ) (g : at ≡ name_end x i) (y : k ≡ symbol_named symbols b t x i at) (a : Bool)
        (p : a ≡ cond (ltb k symbols) (eqb (is_function_bit t k) 1) false) where
      head_name : cond a (open_at (arity_of t k) x at) None ≡ head_at b t symbols x i
      unfolding head_at head_of
      head_name = rw (← e, ← d, h, ← v, u, ← g, ← y, ← p)

      pub head_open : (n : ℕ) (r : Option Head) → a ≡ true → n ≡ arity_of t k → r ≡ open_at n x at → r ≡ head_at b t symbols x i
      head_open n r q l m = m ∙ rw (l, ← head_name, q)

      pub head_unknown : a ≡ false → None ≡ head_at b t symbols x i
      head_unknown q = rw (← head_name, q)
