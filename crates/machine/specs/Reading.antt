-- This file reads the work buffer back as level 1's store and path; Words has leaves, environments and terms.
use Rattle.std.specs.Prelude.{ℕ, zero, suc, ◌-◌, ◌<◌, ◌≡◌, true, false, cond, List, [], ◌∷◌, eqb}
use Rattle.terms.specs.Terms.{Term, leaf}
use Rattle.sequents.specs.Sequents.{Dtrue, Dand, Dleft, Dright, Dassume, Line, plain, Dsome, Dall, Dclause}
use Rattle.unification.specs.Store.{Leaf, var, con, Store, bound_to}
use Rattle.machine.specs.declared.Registers.{Registers}
use Rattle.machine.specs.Fields as fields
use Rattle.machine.specs.Records.{cell_of, level_of, true_line, and_line, left_line, right_line, assume_line, some_line, all_line}
use Rattle.machine.specs.Words.{term_of}
use Rattle.memory.specs.Records.{field}

-- What a variable is bound to; itself, if to nothing.
unfoldable pub variable_of : List ℕ → List ℕ → ℕ → Term Leaf
variable_of t w x = cond (eqb (cell_of w x) 0) (leaf (var x)) (term_of t w (cell_of w x))

-- The variables made read as the store's.
pub record Holds (t w : List ℕ) (r : Registers) (s : Store) : Type 0 where
  pub next : r.next ≡ s.next
  pub bindings : (x : ℕ) → x < s.next → variable_of t w x ≡ bound_to s.bindings x
  pub levels : (x : ℕ) → x < s.next → level_of w x ≡ s.level x

-- The fresh variables of a prefix: n of them, from x on.
unfoldable pub variables_from : ℕ → ℕ → List (Term Leaf)
variables_from zero x = []
variables_from (suc n) x = leaf (var x) ∷ variables_from n (suc x)

-- The line of the path in record q; which of the eight it is stands with the pointer to it (Records).
unfoldable pub line_at : List ℕ → ℕ → ℕ → Line Leaf
line_at w q k =
    cond (eqb k true_line) (plain Dtrue)
    (cond (eqb k and_line) (plain Dand)
    (cond (eqb k left_line) (plain Dleft)
    (cond (eqb k right_line) (plain Dright)
    (cond (eqb k assume_line) (plain Dassume)
    (cond (eqb k some_line) (Dsome (leaf (var (field w q fields.variables))))
    (cond (eqb k all_line) (Dall (leaf (con q (field w q fields.constant_level))))
    (Dclause (field w q fields.use_place) (variables_from (field w q fields.use_count) (field w q fields.variables)))))))))

-- The path from pointer p on, latest line first, at most n lines.
unfoldable pub path_from : ℕ → List ℕ → ℕ → ℕ → List (Line Leaf)
path_from zero w p k = []
path_from (suc n) w p k =
    elim (eqb p 0) [
      | true ↦ []
      | false ↦ line_at w (p - 1) k ∷ path_from n w (field w (p - 1) fields.path_before)
          (field w (p - 1) fields.path_line)
    ]
