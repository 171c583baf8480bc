-- One law for each way out of a function; the hypotheses are the facts on the code's path.
use Prim.Native.Nat.{ℕ, ◌+◌}
use mathlib.Core.Path.{◌≡◌}
use mathlib.Core.Bool.{Bool, true, false}
use mathlib.Core.List.{List}
use Rattle.sheet_format.specs.Bytes.{ascii}
use Rattle.node_table.specs.Layout.{members_of, child_of}
use Rattle.line_checking.specs.declared.Registers.{Registers}
use Rattle.line_checking.specs.Sequents.{Made, made, broken, with_sequent, put_sequent, next_sequent, put_hypothesis}
use Rattle.line_checking.specs.declared.Links.{Links}
use Rattle.line_checking.specs.HypothesisChains.{links_after, put_links}
use Rattle.line_checking.specs.Members.{start_after}
use Rattle.line_checking.specs.Bindings.{is_line}
use Rattle.line_checking.specs.Rules.{with_child, true_line, and_line, or_line, assume_line}

pub child_due : (t : List ℕ) (r s : Registers) (j n : ℕ) → n ≡ child_of t r.node j
    → s ≡ with_sequent r n r.frame r.hypotheses r.level r.rest → s ≡ with_child t r j
unfolding with_child
child_due t r s j n en es = rw (es, en)

-- lines without a term

module _ (x w : List ℕ) (r : Registers) (i e : ℕ) (z : Bool) (ez : z ≡ is_line (ascii "D\ttrue") x i e) where
  pub true_right : (s : Registers) → z ≡ true → s ≡ next_sequent w r → made w s ≡ true_line x w r i e
  unfolding true_line
  true_right s h es = rw (es, ← ez, h)

  pub true_wrong : (m : Made) → z ≡ false → m ≡ broken w r → m ≡ true_line x w r i e
  unfolding true_line
  true_wrong m h em = rw (← ez, h) em

module _ (t x w : List ℕ) (r : Registers) (q i e : ℕ) (z : Bool) (ez : z ≡ is_line (ascii "D\tand") x i e) where
  pub and_right : (a b : ℕ) (w' : List ℕ) (s : Registers) → z ≡ true → a ≡ child_of t r.node 0 → b ≡ child_of t r.node 1
      → w' ≡ put_sequent w q b r.frame r.hypotheses r.level r.rest
      → s ≡ with_sequent r a r.frame r.hypotheses r.level (q + 1) → made w' s ≡ and_line t x w r q i e
  unfolding and_line
  and_right a b w' s h ea eb ew es = rw (es, ew, ea, eb, ← ez, h)

  pub and_wrong : (m : Made) → z ≡ false → m ≡ broken w r → m ≡ and_line t x w r q i e
  unfolding and_line
  and_wrong m h em = rw (← ez, h) em

module _ (t x w : List ℕ) (r : Registers) (i e : ℕ) (z : Bool) (ez : z ≡ is_line (ascii "D\tleft") x i e) where
  pub or_left : (s : Registers) → z ≡ true → s ≡ with_child t r 0 → made w s ≡ or_line t x w r i e
  unfolding or_line
  or_left s h es = rw (es, ← ez, h)

  module _ (y : Bool) (ey : y ≡ is_line (ascii "D\tright") x i e) where
    pub or_right : (s : Registers) → z ≡ false → y ≡ true → s ≡ with_child t r 1 → made w s ≡ or_line t x w r i e
    unfolding or_line
    or_right s h k es = rw (es, ← ez, h, ← ey, k)

    pub or_wrong : (m : Made) → z ≡ false → y ≡ false → m ≡ broken w r → m ≡ or_line t x w r i e
    unfolding or_line
    or_wrong m h k em = rw (← ez, h, ← ey, k) em

module _ (t : List ℕ) (clauses : ℕ) (x w : List ℕ) (r : Registers) (q i e : ℕ) (z : Bool)
    (ez : z ≡ is_line (ascii "D\tassume") x i e) where
  pub assume_right : (a b d m : ℕ) (L : Links) (v w' : List ℕ) (s : Registers) → z ≡ true → a ≡ child_of t r.node 0
      → b ≡ child_of t r.node 1 → d ≡ start_after t clauses w r.hypotheses → m ≡ members_of t a → L ≡ links_after w r.hypotheses m
      → v ≡ put_hypothesis w q a r.frame r.hypotheses d → w' ≡ put_links v q L
      → s ≡ with_sequent r b r.frame (q + 1) r.level r.rest → made w' s ≡ assume_line t clauses x w r q i e
  unfolding assume_line
  assume_right a b d m L v w' s h ea eb ed em eL ev ew es = rw (es, ew, ev, eL, em, ea, eb, ed, ← ez, h)

  pub assume_wrong : (m : Made) → z ≡ false → m ≡ broken w r → m ≡ assume_line t clauses x w r q i e
  unfolding assume_line
  assume_wrong m h em = rw (← ez, h) em
