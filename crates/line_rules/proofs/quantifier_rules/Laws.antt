-- One law for each way out of a function; the hypotheses are the facts on the code's path.
use Prim.Native.Nat.{ℕ, ◌+◌, ◌≤◌, ◌<◌}
use mathlib.Core.Path.{◌≡◌, sym, ap, ◌∙◌}
use mathlib.Core.Bool.{Bool, true, false, cond}
use mathlib.Core.List.{List}
use lib.ListN.{length}
use borrow.Author.Tests.{le-leb, lt-leb, eq-eqb, ne_eqb}
use Rattle.sheet_format.specs.Bytes.{ascii}
use Rattle.node_table.specs.Layout.{label_of, child_of}
use Rattle.scanning.specs.Scanning.{Scan}
use Rattle.std.specs.Prelude.{Option, Some, None}
use Rattle.scanning.specs.Scanning.{scan_symbol, scan_term}
use Rattle.scanning.specs.Frames.{bind_frame}
use Rattle.line_checking.specs.declared.Registers.{Registers}
use Rattle.line_checking.specs.Sequents.{Made, made, broken, with_sequent}
use Rattle.line_checking.specs.Bindings.{begins_with}
use Rattle.line_checking.specs.Rules.{bind_goal, some_with, some_term, some_line, all_with, all_constant, all_line}
use Rattle.line_rules.proofs.result_lines.Laws.{after_done}

-- lines with a term

module _ (t w : List ℕ) (r : Registers) (q i j k : ℕ) where
  pub goal_bound : (v a : ℕ) (w' : List ℕ) (s : Registers) → v ≡ label_of t r.node → a ≡ child_of t r.node 0
      → w' ≡ bind_frame w q r.frame v i j → s ≡ with_sequent r a q r.hypotheses k r.rest → made w' s ≡ bind_goal t w r q i j k
  unfolding bind_goal
  goal_bound v a w' s ev ea ew es = rw (es, ew, ea, ev)

module _ (b t : List ℕ) (symbols : ℕ) (x w : List ℕ) (r : Registers) (q i e : ℕ) (m : Made) (p : Option ℕ)
    (ep : p ≡ cond (begins_with (ascii "D\tsome\t") x i) (Some (i + 7)) None) where
  made_after : m ≡ elim p as (λ _. Made) [ Some u ↦ some_term b t symbols x w r q u e | None ↦ broken w r ]
      → m ≡ some_line b t symbols x w r q i e
  unfolding some_line
  made_after em = em ∙ after_done _ _ p (λ u. some_term b t symbols x w r q u e) _ ep

  pub some_wrong : p ≡ None → m ≡ broken w r → m ≡ some_line b t symbols x w r q i e
  some_wrong h em = made_after (rw h em)

  module _ (a : ℕ) (h : p ≡ Some a) (o : Scan) (eo : o ≡ scan_term (length x) b t symbols x a) where
    pub term_missing : o ≡ None → m ≡ broken w r → m ≡ some_line b t symbols x w r q i e
    unfolding some_term
    term_missing f em = made_after (rw (h, some_term, ← eo, f) em)

    module _ (j k : ℕ) (f : o ≡ Some (j, k)) where
      term_read : m ≡ some_with t w r q a j k e → m ≡ some_line b t symbols x w r q i e
      unfolding some_term
      term_read em = made_after (rw (h, some_term, ← eo, f) em)

      pub some_right : j ≡ e → k ≤ r.level → m ≡ bind_goal t w r q a e r.level → m ≡ some_line b t symbols x w r q i e
      unfolding some_with
      some_right g l em = term_read (rw (some_with, eq-eqb _ _ g, le-leb _ _ l, g) em)

      pub some_high : j ≡ e → r.level < k → m ≡ broken w r → m ≡ some_line b t symbols x w r q i e
      unfolding some_with
      some_high g l em = term_read (rw (some_with, eq-eqb _ _ g, lt-leb _ _ l) em)

      pub some_long : (j ≡ e → ⊥) → m ≡ broken w r → m ≡ some_line b t symbols x w r q i e
      unfolding some_with
      some_long g em = term_read (rw (some_with, ne_eqb _ _ g) em)

module _ (t x w : List ℕ) (r : Registers) (q i e : ℕ) (m : Made) (z : Bool) (ez : z ≡ begins_with (ascii "D\tall\t!") x i) where
  pub all_wrong : z ≡ false → m ≡ broken w r → m ≡ all_line t x w r q i e
  unfolding all_line
  all_wrong h em = rw (← ez, h) em

  module _ (h : z ≡ true) (o : Scan) (eo : o ≡ scan_symbol x (i + 6 + 1)) where
    pub constant_missing : o ≡ None → m ≡ broken w r → m ≡ all_line t x w r q i e
    unfolding all_line all_constant
    constant_missing f em = rw (all_line, ← ez, h, all_constant, ← eo, f) em

    module _ (j k : ℕ) (f : o ≡ Some (j, k)) where
      constant_read : m ≡ all_with t w r q (i + 6) j k e → m ≡ all_line t x w r q i e
      unfolding all_line all_constant
      constant_read em = rw (all_line, ← ez, h, all_constant, ← eo, f) em

      module _ (a c : ℕ) (ea : a ≡ k) (ec : c ≡ r.level) where
        pub all_right : j ≡ e → a ≡ c + 1 → m ≡ bind_goal t w r q (i + 6) e k → m ≡ all_line t x w r q i e
        unfolding all_with
        all_right g l em =
            constant_read (rw (all_with, eq-eqb _ _ g, eq-eqb _ _ (sym ea ∙ l ∙ ap (λ (u : ℕ). u + 1) ec), g) em)

        pub all_other : j ≡ e → (a ≡ c + 1 → ⊥) → m ≡ broken w r → m ≡ all_line t x w r q i e
        unfolding all_with
        all_other g l em =
            constant_read (rw (all_with, eq-eqb _ _ g, ne_eqb k (r.level + 1) (λ d. l (ea ∙ d ∙ sym (ap (λ (u : ℕ). u + 1) ec)))) em)

      pub all_long : (j ≡ e → ⊥) → m ≡ broken w r → m ≡ all_line t x w r q i e
      unfolding all_with
      all_long g em = constant_read (rw (all_with, ne_eqb _ _ g) em)
