-- One law for each way through a turn of a loop or through a call; the hypotheses are the facts on the code's path.
use Prim.Native.Nat.{ℕ, zero, suc, ◌+◌, ◌-◌, ◌≤◌, ◌<◌}
use native.Mathlib.Numerals.{add-one, sub-one}
use native.Mathlib.Omega.{arith}
use mathlib.Core.Path.{◌≡◌, refl}
use mathlib.Core.List.{List}
use borrow.Author.Tests.{lt-ltb, le-ltb, eq-eqb, ne_eqb}
use Rattle.node_table.specs.Layout.{child_count, label_of, child_of}
use Rattle.machine.specs.Words.{increment, tag_of, name_of, node_of, frame_of, word_of}
use Rattle.printing.specs.Bindings.{deref}
use Rattle.printing.specs.declared.Cursor.{Cursor}
use Rattle.printing.specs.Numbering.{Printer, printer, write_variable, write_constant}
use Rattle.printing.specs.WriteTerms.{emit_to, write_functor, separator, arguments_by, bracketed_by, application_by, word_by, write_term}
use Rattle.printing.specs.WriteTerms.{term_to}

-- The arguments.
module _ (write : Printer → ℕ → Printer) (t : List ℕ) (limit c n f j : ℕ) where
  pub arguments_first : (g : Printer) → arguments_by write t limit c n f j g ≡ arguments_by write t limit (c - 0) n f j g
  arguments_first g =
      let e : c - 0 ≡ c = omega arith in
      rw e

  pub arguments_end : (g : Printer) → c ≤ j → arguments_by write t limit (c - j) n f j g ≡ g
  unfolding arguments_by
  arguments_end g h =
      let e : c - j ≡ 0 = omega arith in
      rw e

  pub arguments_on : (w out out₁ : List ℕ) (q q₁ : Cursor) (y k x : ℕ) (s : Printer) → j < c → y ≡ separator j
      → printer w out₁ q₁ ≡ emit_to limit (printer w out q) y → k ≡ child_of t n j → x ≡ word_of t w k f → s ≡ write (printer w out₁ q₁) x
      → arguments_by write t limit (c - j) n f j (printer w out q) ≡ arguments_by write t limit (c - (j + 1)) n f (j + 1) s
  unfolding arguments_by
  arguments_on w out out₁ q q₁ y k x s h ey ee ek ex es =
      let e : c - j ≡ suc (c - (j + 1)) = omega arith in
      let e₁ : printer w out₁ q₁ ≡ emit_to limit (printer w out q) (separator j) = rw ey at ee in
      rw (es, ex, ek, e, add-one j) (simp (arguments_by, ← e₁))

-- The term of a word.
module _ (sheet t : List ℕ) (turns limit : ℕ) (w out : List ℕ) (p : Cursor) (a : ℕ) where
  pub term_none : (rank : ℕ) → rank ≡ 0 → printer w out p ≡ write_term rank sheet t turns limit (printer w out p) a
  unfolding write_term
  term_none zero e = refl
  term_none (suc rank) e = absurd (omega arith)

  pub term_past : (rank : ℕ) → (rank ≡ 0 → ⊥) → limit < p.at → printer w out p ≡ write_term rank sheet t turns limit (printer w out p) a
  unfolding write_term
  term_past zero n h = refl
  term_past (suc rank) n h = simp (write_term, lt-ltb _ _ h)

  term_word : (rank : ℕ) → (rank ≡ 0 → ⊥) → p.at ≤ limit
      → write_term rank sheet t turns limit (printer w out p) a ≡ word_by (write_term (rank - 1) sheet t turns) sheet t turns limit
      (printer w out p) (deref turns w a)
  unfolding write_term
  term_word zero n h = absurd (n refl)
  term_word (suc rank) n h = rw (sub-one (suc rank)) (simp (write_term, le-ltb _ _ h))

  module _ (rank b k : ℕ) (r : rank ≡ 0 → ⊥) (h : p.at ≤ limit) (eb : b ≡ deref turns w a) (ek : k ≡ tag_of b) where
    pub term_variable : (x : ℕ) (s : Printer) → k ≡ 1 → x ≡ name_of b → s ≡ write_variable limit (printer w out p) x
        → s ≡ write_term rank sheet t turns limit (printer w out p) a
    unfolding word_by
    term_variable x s e ex es = rw (es, ex, term_word rank r h) (simp (word_by, ← eb, ← ek, eq-eqb _ _ e))

    pub term_constant : (x : ℕ) (s : Printer) → (k ≡ 1 → ⊥) → k ≡ 2 → x ≡ name_of b → s ≡ write_constant turns limit (printer w out p) x
        → s ≡ write_term rank sheet t turns limit (printer w out p) a
    unfolding word_by
    term_constant x s e₁ e ex es = rw (es, ex, term_word rank r h) (simp (word_by, ← eb, ← ek, ne_eqb _ _ e₁, eq-eqb _ _ e))

    term_application : (n f : ℕ) → (k ≡ 1 → ⊥) → (k ≡ 2 → ⊥) → n ≡ node_of b → f ≡ frame_of b
        → write_term rank sheet t turns limit (printer w out p) a ≡ application_by (write_term (rank - 1) sheet t turns) sheet t limit
        (printer w out p) n f
    unfolding word_by
    term_application n f e₁ e₂ en ef = rw (term_word rank r h, en, ef) (simp (word_by, ← eb, ← ek, ne_eqb _ _ e₁, ne_eqb _ _ e₂))

    pub term_bare : (n l c : ℕ) (s : Printer) → (k ≡ 1 → ⊥) → (k ≡ 2 → ⊥) → n ≡ node_of b → l ≡ label_of t n
        → s ≡ write_functor sheet t limit (printer w out p) l → c ≡ child_count t n → c ≡ 0
        → s ≡ write_term rank sheet t turns limit (printer w out p) a
    unfolding application_by
    term_bare n l c s e₁ e₂ en el es ec e =
        rw (term_application n (frame_of b) e₁ e₂ en refl, es, el) (simp (application_by, ← ec, eq-eqb _ _ e))

    pub term_applied : (n l c f : ℕ) (s : Printer) → (k ≡ 1 → ⊥) → (k ≡ 2 → ⊥) → n ≡ node_of b → l ≡ label_of t n
        → s ≡ write_functor sheet t limit (printer w out p) l → c ≡ child_count t n → (c ≡ 0 → ⊥) → f ≡ frame_of b
        → write_term rank sheet t turns limit (printer w out p) a
        ≡ emit_to limit (arguments_by (write_term (rank - 1) sheet t turns (limit - 1)) t (limit - 1) c n f 0 s) 41
    unfolding application_by bracketed_by
    term_applied n l c f s e₁ e₂ en el es ec e ef =
        rw (term_application n f e₁ e₂ en ef, es, el) (simp (application_by, bracketed_by, ← ec, ne_eqb _ _ e))

  pub term_ranked : (rank : ℕ) (s : Printer) → rank ≡ increment limit → s ≡ write_term rank sheet t turns limit (printer w out p) a
      → s ≡ term_to sheet t turns limit (printer w out p) a
  unfolding term_to
  term_ranked rank s e es = rw (es, e)
