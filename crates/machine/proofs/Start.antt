-- The start of the machine is the start of the search, whatever the buffer held.
use Prim.Native.Nat.{ℕ, zero, suc, ◌+◌, ◌≤◌, ◌<◌}
use native.Mathlib.Omega.{arith}
use mathlib.Core.Path.{◌≡◌, refl, sym, ◌∙◌, subst}
use mathlib.Core.Bool.{Bool, true, false}
use mathlib.Core.List.{List}
use lib.Dec.{eqb}
use lib.ListN.{length}
use borrow.Author.Tests.{eqb-true, eqb-false}
use Rattle.sequents.specs.Derivations.{instance_of, sheet_program}
use Rattle.unification.specs.Store.{binding}
use Rattle.search.specs.Search.{start_store, start_goal, start}
use Rattle.sheet_format.specs.Limits.{numbers_per_unit}
use Rattle.formulas.specs.Rules.{rules}
use Rattle.node_table.specs.Decoding.{clauses_from, goal_at, order_of}
use Rattle.machine.specs.Records.{cell_of, level_of, put_cell, made}
use Rattle.machine.specs.Frames.{put_variable, put_variables}
use Rattle.machine.specs.Machine.{start_memory, start_registers}
use Rattle.machine.proofs.Records.{There, there, cell_same, level_same, level_cell, cell_other, cell_level, level_other, length_cell}
use Rattle.machine.proofs.Tables.{Table}
use Rattle.machine.proofs.Terms.{FrameAt}
use Rattle.machine.proofs.Stores.{CellAt}
use Rattle.machine.proofs.Branches.{first_environment, PathAt, program_sheet, GoalsAt}
use Rattle.machine.proofs.Configurations.{store_of, ConfigurationAt}
use Rattle.machine.proofs.ChoicePoints.{alternatives_none, ResultAt}
use Rattle.machine.proofs.Lengths.{length_variables}

-- A variable unbound and of level 0.
abbrev Blank : List ℕ → ℕ → Type 0
Blank w y = (cell_of w y ≡ 0) × (level_of w y ≡ 0)

-- A variable that is made is blank.
variable_blank : (w : List ℕ) (x : ℕ) → There x w → Blank (put_variable w x 0) x
unfolding put_variable
variable_blank w x h =
    (cell_level (put_cell w x 0) x 0 x ∙ cell_same w x 0 h, level_same (put_cell w x 0) x 0 (let l = length_cell w x 0 in omega arith))

-- Others stay so.
variable_other : (w : List ℕ) (x y : ℕ) → (y ≡ x → ⊥) → Blank w y → Blank (put_variable w x 0) y
unfolding put_variable
variable_other w x y d h =
    (cell_level (put_cell w x 0) x 0 y ∙ cell_other w x 0 y d ∙ h.0, level_other (put_cell w x 0) x 0 y d ∙ level_cell w x 0 y ∙ h.1)

-- The length stays.
length_variable : (w : List ℕ) (x : ℕ) → length (put_variables 1 w x) ≡ length w
length_variable w x = length_variables 1 w x

-- The variables made are blank, and those that were stay so.
variables_blank : (n : ℕ) (w : List ℕ) (x y : ℕ) → numbers_per_unit ≤ length w → x + n ≤ 9 → y < x + n → (y < x → Blank w y)
    → Blank (put_variables n w x) y
unfolding put_variables
variables_blank zero w x y l b h k = k (omega arith)
variables_blank (suc n) w x y l b h k =
    let e = length_variable w x in
    variables_blank n (put_variable w x 0) (suc x) y (omega arith) (omega arith) (omega arith) (λ q. go (eqb y x) refl q)
  where
    go : (c : Bool) → eqb y x ≡ c → y < suc x → Blank (put_variable w x 0) y
    go true q m =
        subst (λ (z : ℕ). Blank (put_variable w x 0) z) (sym (eqb-true y x q)) (variable_blank w x (there 0 x w (omega arith) (omega arith)))
    go false q m = let d = eqb-false y x q in variable_other w x y d (k (omega arith))

-- The state at the start.
pub start_result : (T : Table) (w : List ℕ) → numbers_per_unit ≤ length w
    → ResultAt T 0 (made (start_memory w) (start_registers T.goal))
    (start (rules (order_of T.numbers) (clauses_from T.numbers T.clauses 0)) (goal_at T.numbers T.goal))
unfolding start_memory start_registers start start_goal start_store instance_of sheet_program ResultAt ConfigurationAt store_of GoalsAt PathAt
    FrameAt binding
    CellAt
start_result T w l =
    let blank : (y : ℕ) → y < 8 → Blank (put_variables 8 w 0) y =
    λ y h. variables_blank 8 w 0 y l (omega arith) (omega arith) (λ q. absurd (omega arith)) in
    record {
      front = (
        refl,
        record {
          node = (T.made.goal_there, T.made.goal_is);
          goal = refl;
          frame = tt;
          environment = first_environment (put_variables 8 w 0);
          program = program_sheet T 0 (put_variables 8 w 0);
          level = refl;
          low = omega arith;
        },
        record { waiting = tt; taken = tt },
      );
      shared = record {
        store = record { cells = λ x h. (blank x h).0; levels = λ x h. (blank x h).1 };
        bounded = record { bindings = omega arith; least = omega arith; variables = omega arith; later = λ h. omega arith };
        next = refl;
        trail = omega arith;
        alternatives = alternatives_none;
      };
    }
