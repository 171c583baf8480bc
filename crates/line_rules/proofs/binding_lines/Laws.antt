-- One law for each way out of a function; the hypotheses are the facts on the code's path.
use Prim.Native.Nat.{ℕ, ◌+◌}
use mathlib.Core.Path.{◌≡◌, ◌∙◌}
use mathlib.Core.Bool.{Bool, true, false}
use mathlib.Core.List.{List}
use lib.Dec.{eqb}
use lib.ListN.{length, get_or}
use borrow.Author.Tests.{eq-eqb, ne_eqb}
use Rattle.sheet_format.specs.Bytes.{ascii}
use Rattle.scanning.specs.Scanning.{Scan}
use Rattle.std.specs.Prelude.{Some, None}
use Rattle.scanning.specs.Scanning.{scan_term}
use Rattle.scanning.specs.Frames.{bind_frame}
use Rattle.line_checking.specs.declared.Registers.{Registers}
use Rattle.line_checking.specs.Sequents.{Made, made, broken, bound}
use Rattle.line_checking.specs.Bindings.{begins_with, bind_with, bind_term, binds_variable, bind_line}

-- B lines

module _ (x : List ℕ) (i v : ℕ) (z : Bool) (ez : z ≡ begins_with (ascii "B\t") x i) where
  module _ (d u : ℕ) (y : Bool) (h : z ≡ true) (ed : d ≡ get_or x (i + 2) 0) (eu : u ≡ v) (ey : y ≡ eqb d (48 + u)) where
    pub variable_named : (b : ℕ) → y ≡ true → b ≡ get_or x (i + 3) 0 → eqb b 9 ≡ binds_variable x i v
    unfolding binds_variable
    variable_named b f eb = rw (← ez, h, ← ed, ← eu, ← ey, f, ← eb)

    pub variable_other : y ≡ false → y ≡ binds_variable x i v
    unfolding binds_variable
    variable_other f = rw (← ez, h, ← ed, ← eu, ← ey, f)

  pub variable_none : (y : Bool) → z ≡ false → y ≡ false → y ≡ binds_variable x i v
  unfolding binds_variable
  variable_none y h f = rw (f, ← ez, h)

module _ (b t : List ℕ) (symbols goal : ℕ) (x w : List ℕ) (r : Registers) (q i e : ℕ) (m : Made) (z : Bool)
    (ez : z ≡ binds_variable x i r.node) where
  pub binds_not : z ≡ false → m ≡ broken w r → m ≡ bind_line b t symbols goal x w r q i e
  unfolding bind_line
  binds_not h em = rw (← ez, h) em

  module _ (h : z ≡ true) (o : Scan) (eo : o ≡ scan_term (length x) b t symbols x (i + 4)) where
    pub term_missing : o ≡ None → m ≡ broken w r → m ≡ bind_line b t symbols goal x w r q i e
    unfolding bind_line bind_term
    term_missing f em = rw (bind_line, ← ez, h, bind_term, ← eo, f) em

    module _ (j k : ℕ) (f : o ≡ Some (j, k)) where
      term_read : m ≡ bind_with t goal w r q (i + 4) j k e → m ≡ bind_line b t symbols goal x w r q i e
      unfolding bind_line bind_term
      term_read em = rw (bind_line, ← ez, h, bind_term, ← eo, f) em

      pub bind_right : (w' : List ℕ) (s : Registers) (v : ℕ) → m ≡ made w' s → j ≡ e → k ≡ 0 → w' ≡ bind_frame w q r.frame r.node (i + 4) j
          → v ≡ r.node → s ≡ bound t goal r (v + 1) q → m ≡ bind_line b t symbols goal x w r q i e
      unfolding bind_with
      bind_right w' s v em g d ew ev es = term_read (em ∙ rw (es, ew, ev) (simp (bind_with, eq-eqb _ _ g, eq-eqb _ _ d)))

      module _ (em : m ≡ broken w r) where
        pub bind_high : j ≡ e → (k ≡ 0 → ⊥) → m ≡ bind_line b t symbols goal x w r q i e
        unfolding bind_with
        bind_high g d = term_read (em ∙ simp (bind_with, eq-eqb _ _ g, ne_eqb _ _ d))

        pub bind_long : (j ≡ e → ⊥) → m ≡ bind_line b t symbols goal x w r q i e
        unfolding bind_with
        bind_long g = term_read (em ∙ simp (bind_with, ne_eqb _ _ g))
