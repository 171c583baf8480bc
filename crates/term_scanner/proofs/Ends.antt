-- What is scanned at a position ends there or after it.
use Prim.Native.Nat.{ℕ, zero, suc, ◌+◌, ◌-◌, ◌*◌, ◌≤◌}
use native.Mathlib.Omega.{arith}
use mathlib.Core.Bool.{Bool, true, false, cond}
use mathlib.Core.List.{List}
use lib.Dec.{eqb, ltb, leb}
use lib.ListN.{length, get_or}
use Rattle.sheet_format.specs.Bytes.{is_digit, is_name_byte}
use Rattle.node_table.specs.Layout.{is_function_bit, arity_of}
use Rattle.scanning.specs.Ranges.{Number}
use Rattle.std.specs.Prelude.{Some, None}
use Rattle.scanning.specs.Scanning.{Scan}
use Rattle.scanning.specs.Ranges.{number_from, number_zero, scan_number}
use Rattle.scanning.specs.Scanning.{name_from, name_end, symbol_named, scan_level, scan_at, scan_symbol, higher, scan_more, scan_arguments}
use Rattle.scanning.specs.Scanning.{scan_numeral, scan_application, scan_term}

-- A number that ends at i or after it.
abbrev pub NumberFrom : ℕ → Number → Type 0
NumberFrom i (Some (v, e)) = i ≤ e
NumberFrom i None = Unit {0}

-- A term that ends at i or after it.
abbrev pub EndsFrom : ℕ → Scan → Type 0
EndsFrom i (Some (e, k)) = i ≤ e
EndsFrom i None = Unit {0}

ends_sooner : (i j : ℕ) (s : Scan) → i ≤ j → EndsFrom j s → EndsFrom i s
ends_sooner i j (Some (e, k)) l h = omega arith
ends_sooner i j None l h = tt

-- Whatever a test picks ends there.
ends_either : (i : ℕ) (z : Bool) (s r : Scan) → EndsFrom i s → EndsFrom i r → EndsFrom i (cond z s r)
ends_either i true s r h k = h
ends_either i false s r h k = k

-- symbols

number_from_lem : (n : ℕ) (x : List ℕ) (i j v : ℕ) → i ≤ j → NumberFrom i (number_from n x j v)
unfolding number_from
number_from_lem zero x i j v h = h
number_from_lem (suc n) x i j v h =
    go (is_digit (get_or x j 0)) (leb (10 * v + (get_or x j 0 - 48)) 65535)
    (number_from_lem n x i (j + 1) (10 * v + (get_or x j 0 - 48)) (omega arith))
  where
    go : (a b : Bool) → NumberFrom i (number_from n x (j + 1) (10 * v + (get_or x j 0 - 48)))
        → NumberFrom i (cond a (cond b (number_from n x (j + 1) (10 * v + (get_or x j 0 - 48))) None) (Some (v, j)))
    go true true ih = ih
    go true false ih = tt
    go false b ih = h

pub number_ends : (x : List ℕ) (i : ℕ) → NumberFrom i (scan_number x i)
unfolding scan_number number_zero
number_ends x i =
    go (is_digit (get_or x i 0)) (eqb (get_or x i 0) 48) (is_digit (get_or x (i + 1) 0))
    (number_from_lem (length x - (i + 1)) x i (i + 1) (get_or x i 0 - 48) (omega arith))
  where
    go : (a b c : Bool) → NumberFrom i (number_from (length x - (i + 1)) x (i + 1) (get_or x i 0 - 48))
        → NumberFrom i
        (cond a (cond b (cond c None (Some (0, i + 1))) (number_from (length x - (i + 1)) x (i + 1) (get_or x i 0 - 48))) None)
    go true true true h = tt
    go true true false h = omega arith
    go true false c h = h
    go false b c h = tt

level_ends : (x : List ℕ) (i : ℕ) → EndsFrom i (scan_level x i)
unfolding scan_level
level_ends x i = go (scan_number x i) (number_ends x i)
  where
    go : (n : Number) → NumberFrom i n → EndsFrom i (elim n as (λ z. Scan) [ Some (k, e) ↦ Some (e, k) | None ↦ None ])
    go (Some (k, e)) h = h
    go None h = tt

at_ends : (x : List ℕ) (i : ℕ) → EndsFrom i (scan_at x i)
unfolding scan_at
at_ends x i = ends_either i (eqb (get_or x i 0) 64) (scan_level x (i + 1)) None
    (ends_sooner i (i + 1) (scan_level x (i + 1)) (omega arith) (level_ends x (i + 1))) tt

pub symbol_ends : (x : List ℕ) (i : ℕ) → EndsFrom i (scan_symbol x i)
unfolding scan_symbol
symbol_ends x i = go (scan_number x i) (number_ends x i)
  where
    go : (n : Number) → NumberFrom i n → EndsFrom i (elim n as (λ z. Scan) [ Some (k, e) ↦ scan_at x e | None ↦ None ])
    go (Some (k, e)) h = ends_sooner i e (scan_at x e) h (at_ends x e)
    go None h = tt

-- numbers

pub numeral_ends : (x : List ℕ) (i : ℕ) → EndsFrom i (scan_numeral x i)
unfolding scan_numeral
numeral_ends x i = go (scan_number x i) (number_ends x i)
  where
    go : (n : Number) → NumberFrom i n
        → EndsFrom i (elim n as (λ z. Scan) [ Some (k, e) ↦ cond (is_name_byte (get_or x e 0)) None (Some (e, 0)) | None ↦ None ])
    go (Some (k, e)) h = ends_either i (is_name_byte (get_or x e 0)) None (Some (e, 0)) tt h
    go None h = tt

-- applications

name_from_lem : (n : ℕ) (x : List ℕ) (i : ℕ) → i ≤ name_from n x i
unfolding name_from
name_from_lem zero x i = omega arith
name_from_lem (suc n) x i = go (is_name_byte (get_or x i 0)) (name_from_lem n x (i + 1))
  where
    go : (z : Bool) → i + 1 ≤ name_from n x (i + 1) → i ≤ cond z (name_from n x (i + 1)) i
    go true h = omega arith
    go false h = omega arith

pub name_ends : (x : List ℕ) (i : ℕ) → i ≤ name_end x i
unfolding name_end
name_ends x i = name_from_lem (length x - i) x i

module _ (r : ℕ → Scan) (x : List ℕ) (ends : (i : ℕ) → EndsFrom i (r i)) where
  more_ends : (n c i k : ℕ) → EndsFrom i (scan_more r n x c i k)
  unfolding scan_more
  more_ends zero c i k = ends_either i (eqb (get_or x i 0) 41) (Some (i + 1, k)) None (omega arith) tt
  more_ends (suc n) c i k = go (eqb (get_or x i 0) c) (r (i + 1)) (ends (i + 1)) (more_ends n)
    where
      go : (z : Bool) (s : Scan) → EndsFrom (i + 1) s → ((c i k : ℕ) → EndsFrom i (scan_more r n x c i k))
          → EndsFrom i
          (cond z (elim s as (λ z. Scan) [ Some (e, j) ↦ scan_more r n x 44 e (higher k j) | None ↦ None ]) None)
      go true (Some (e, j)) h ih = ends_sooner i e (scan_more r n x 44 e (higher k j)) (omega arith) (ih 44 e (higher k j))
      go true None h ih = tt
      go false s h ih = tt

  application_ends : (t : List ℕ) (symbols k i : ℕ) → EndsFrom i (scan_application r t symbols k x i)
  unfolding scan_application scan_arguments
  application_ends t symbols k i =
      ends_either i (ltb k symbols) _ None
      (ends_either i (eqb (is_function_bit t k) 1) _ None
      (ends_either i (eqb (arity_of t k) 0) (Some (i, 0)) (scan_more r (arity_of t k) x 40 i 0) (omega arith)
      (more_ends (arity_of t k) 40 i 0)) tt) tt

module _ (b t : List ℕ) (symbols : ℕ) (x : List ℕ) where
  pub term_ends : (f i : ℕ) → EndsFrom i (scan_term f b t symbols x i)
  unfolding scan_term
  term_ends zero i = tt
  term_ends (suc f) i =
      let s = ends_sooner i (i + 1) (scan_symbol x (i + 1)) (omega arith) (symbol_ends x (i + 1)) in
      let k = symbol_named symbols b t x i (name_end x i) in
      let a = scan_application (scan_term f b t symbols x) t symbols k x (name_end x i) in
      ends_either i (eqb (get_or x i 0) 33) (scan_symbol x (i + 1)) _ s
      (ends_either i (eqb (get_or x i 0) 95) (scan_symbol x (i + 1)) _ s
      (ends_either i (is_digit (get_or x i 0)) (scan_numeral x i) a (numeral_ends x i)
      (ends_sooner i (name_end x i) a (name_ends x i)
      (application_ends (scan_term f b t symbols x) x (term_ends f) t symbols k (name_end x i)))))
