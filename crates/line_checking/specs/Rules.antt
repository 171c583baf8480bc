-- D lines for goals that are no atoms: line q of the text, from i to e, does its rule to the sequent that is due.
use Rattle.std.specs.Prelude.{ℕ, ◌+◌, cond, List, eqb, leb, length}
use Rattle.sheet_format.specs.Bytes.{ascii}
use Rattle.node_table.specs.Layout.{members_of, label_of, child_of}
use Rattle.std.specs.Prelude.{Some, None}
use Rattle.scanning.specs.Scanning.{scan_symbol, scan_term}
use Rattle.scanning.specs.Frames.{bind_frame}
use Rattle.line_checking.specs.declared.Registers.{Registers}
use Rattle.line_checking.specs.Sequents.{Made, made, broken, with_sequent, put_sequent, next_sequent, put_hypothesis}
use Rattle.line_checking.specs.HypothesisChains.{links_after, put_links}
use Rattle.line_checking.specs.Members.{start_after}
use Rattle.line_checking.specs.Bindings.{begins_with, is_line}

-- Child j of the goal is due in the place of the goal.
unfoldable pub with_child : List ℕ → Registers → ℕ → Registers
with_child t r j = with_sequent r (child_of t r.node j) r.frame r.hypotheses r.level r.rest

-- "D true"
unfoldable pub true_line : List ℕ → List ℕ → Registers → ℕ → ℕ → Made
true_line x w r i e = cond (is_line (ascii "D\ttrue") x i e) (made w (next_sequent w r)) (broken w r)

-- The left side is due, the right side after it.
unfoldable pub and_line : List ℕ → List ℕ → List ℕ → Registers → ℕ → ℕ → ℕ → Made
and_line t x w r q i e =
    cond (is_line (ascii "D\tand") x i e)
    (made (put_sequent w q (child_of t r.node 1) r.frame r.hypotheses r.level r.rest)
    (with_sequent r (child_of t r.node 0) r.frame r.hypotheses r.level (q + 1)))
    (broken w r)

-- "D left", "D right"
unfoldable pub or_line : List ℕ → List ℕ → List ℕ → Registers → ℕ → ℕ → Made
or_line t x w r i e =
    cond (is_line (ascii "D\tleft") x i e) (made w (with_child t r 0))
    (cond (is_line (ascii "D\tright") x i e) (made w (with_child t r 1)) (broken w r))

-- The clause is the latest hypothesis, which starts after the others (request W-207) and is linked to them.
unfoldable pub assume_line : List ℕ → ℕ → List ℕ → List ℕ → Registers → ℕ → ℕ → ℕ → Made
assume_line t clauses x w r q i e =
    cond (is_line (ascii "D\tassume") x i e)
    (made (put_links (put_hypothesis w q (child_of t r.node 0) r.frame r.hypotheses (start_after t clauses w r.hypotheses)) q
    (links_after w r.hypotheses (members_of t (child_of t r.node 0))))
    (with_sequent r (child_of t r.node 1) r.frame (q + 1) r.level r.rest))
    (broken w r)

-- The goal's variable stands for the term from i to j; the level is k after it.
unfoldable pub bind_goal : List ℕ → List ℕ → Registers → ℕ → ℕ → ℕ → ℕ → Made
bind_goal t w r q i j k =
    made (bind_frame w q r.frame (label_of t r.node) i j) (with_sequent r (child_of t r.node 0) q r.hypotheses k r.rest)

-- "D some term", the term from i to j of level k.
unfoldable pub some_with : List ℕ → List ℕ → Registers → ℕ → ℕ → ℕ → ℕ → ℕ → Made
some_with t w r q i j k e = cond (eqb j e) (cond (leb k r.level) (bind_goal t w r q i j r.level) (broken w r)) (broken w r)

-- This reads the term of a `D some` line at position i.
unfoldable pub some_term : List ℕ → List ℕ → ℕ → List ℕ → List ℕ → Registers → ℕ → ℕ → ℕ → Made
some_term b t symbols x w r q i e =
    elim (scan_term (length x) b t symbols x i) [ Some (j, k) ↦ some_with t w r q i j k e | None ↦ broken w r ]

-- This judges a `D some` line from position i on.
unfoldable pub some_line : List ℕ → List ℕ → ℕ → List ℕ → List ℕ → Registers → ℕ → ℕ → ℕ → Made
some_line b t symbols x w r q i e = cond (begins_with (ascii "D\tsome\t") x i) (some_term b t symbols x w r q (i + 7) e) (broken w r)

-- "D all constant": a made constant of the next level.
unfoldable pub all_with : List ℕ → List ℕ → Registers → ℕ → ℕ → ℕ → ℕ → ℕ → Made
all_with t w r q i j k e = cond (eqb j e) (cond (eqb k (r.level + 1)) (bind_goal t w r q i j k) (broken w r)) (broken w r)

-- This reads the constant of a `D all` line at position i, after its first byte.
unfoldable pub all_constant : List ℕ → List ℕ → List ℕ → Registers → ℕ → ℕ → ℕ → Made
all_constant t x w r q i e = elim (scan_symbol x (i + 1)) [ Some (j, k) ↦ all_with t w r q i j k e | None ↦ broken w r ]

-- This judges a `D all` line from position i on.
unfoldable pub all_line : List ℕ → List ℕ → List ℕ → Registers → ℕ → ℕ → ℕ → Made
all_line t x w r q i e = cond (begins_with (ascii "D\tall\t!") x i) (all_constant t x w r q (i + 6) e) (broken w r)
