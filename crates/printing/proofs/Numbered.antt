-- The numbers in memory are those of the text: from token to token, the bytes that are written are the renamed tokens' bytes.
use Prim.Native.Nat.{ℕ, suc, ◌+◌, ◌-◌, ◌*◌, ◌/◌, ◌≤◌, ◌<◌}
use Prim.Native.Char.{code}
use native.Mathlib.Omega.{arith}
use mathlib.Core.Path.{◌≡◌, refl, sym, ap, ap₂, ◌∙◌, subst}
use mathlib.Core.Bool.{Bool, true, false, cond, true≢false}
use mathlib.Core.List.{List, [], ◌∷◌, ◌++◌, append-nil, append_assoc}
use lib.Dec.{eqb, ltb}
use lib.ListN.{length, set}
use borrow.Author.Tests.{ne_eqb, ltb-true, ltb-false}
use Rattle.terms.specs.Lists.{All}
use Rattle.terms.proofs.Lists.{all_weaken}
use Rattle.sequents.specs.Symbols.{Symbol, made, leftover}
use Rattle.sequents.specs.Renamings.{Renaming, rename}
use Rattle.sheet_format.specs.Bytes.{decimal}
use Rattle.sheet_format.specs.Limits.{numbers_per_unit}
use Rattle.machine.specs.Fields as fields
use Rattle.machine.specs.Records.{cell_of, level_of, put_cell}
use Rattle.machine.specs.Words.{truncate, tag_of}
use Rattle.machine.proofs.Words.{increment_small}
use Rattle.answer_texts.specs.Numbering.{same_symbol, is_made, made_only, leftover_only, firsts, index_of, numbering_of}
use Rattle.answer_texts.specs.Spelling.{spell_symbol}
use Rattle.answer_texts.proofs.FirstShowings.{has, made_only_append, leftover_only_append}
use Rattle.answer_texts.proofs.FirstShowings.{same_symbol_refl}
use Rattle.printing.specs.declared.Cursor.{Cursor}
use Rattle.printing.specs.Output.{Written, written, emit, write_bytes, write_symbol}
use Rattle.printing.specs.Numbering.{with_position, with_variables, with_constants, Printer, printer, wrote, number_variable}
use Rattle.printing.specs.Numbering.{clear_at_first, constant_mark, number_constant, write_variable, write_constant, constant_number_field}
use Rattle.printing.specs.WriteTerms.{emit_to}
use Rattle.printing.specs.WriteLines.{bytes_to}
use Rattle.machine.proofs.Records.{There, cell_same, cell_other, field_cell, level_cell, cell_put}
use Rattle.printing.proofs.Bytes.{emit_within, bytes_append, bytes_grow, bytes_over, symbol_bytes}
use Rattle.printing.proofs.Tokens.{Token, byte, sign, show_symbol, step, steps, steps_over, signs, spelled}
use Rattle.printing.proofs.LeftAlone.{there_from, Alike, alike_trans, alike_fewer, alike_put, alike_number}
use Rattle.printing.proofs.Clearing.{first_alike, first_cells, first_mark, mark_after, mark_shown}
use Rattle.printing.proofs.Steps.{Right}
use Rattle.printing.proofs.FirstShowings.{has_more, has_middle, index_next, Book, book_same, book_again, book_new}
use Rattle.memory.proofs.Records.{field_same, field_other, record_other}
use Rattle.memory.specs.Records.{field, put_field}

-- A number's word fits 32 bits.
word_small : (n : ℕ) → n ≤ 1000000 → truncate (4 * suc n) ≡ 4 * suc n
unfolding truncate
word_small n h = omega arith

-- The number in a word is read.
number_in : (a n : ℕ) → a ≡ 4 * suc n → a / 4 - 1 ≡ n
number_in a n e = rw e (omega arith)

-- A variable that has its number, and one that gets it.
variable_old : (limit : ℕ) (g : Printer) (x n : ℕ) → cell_of g.memory x ≡ 4 * suc n
    → write_variable limit g x ≡ bytes_to limit g (spell_symbol (leftover n (level_of g.memory x)))
unfolding write_variable number_variable bytes_to spell_symbol
variable_old limit g x n e =
    rw (ne_eqb (cell_of g.memory x) 0 (λ q. omega arith))
    (ap (wrote g) (ap (λ (m : ℕ). write_symbol g.buffer limit g.cursor.at (code "_") m (level_of g.memory x))
    (number_in (cell_of g.memory x) n e)
    ∙ symbol_bytes g.buffer limit g.cursor.at (code "_") n (level_of g.memory x)))

-- A variable without a number gets the next one, and is written with it.
variable_new : (limit : ℕ) (g : Printer) (x : ℕ) → cell_of g.memory x ≡ 0 → There x g.memory → g.cursor.variables ≤ 1000000
    → write_variable limit g x
    ≡ bytes_to limit (printer (put_cell g.memory x (4 * suc g.cursor.variables)) g.buffer
    (with_variables g.cursor (suc g.cursor.variables))) (spell_symbol (leftover g.cursor.variables (level_of g.memory x)))
unfolding write_variable number_variable bytes_to spell_symbol with_variables
variable_new limit g x e t l =
    rw (e, increment_small g.cursor.variables (omega arith), word_small g.cursor.variables l)
    (ap (wrote (printer (put_cell g.memory x (4 * suc g.cursor.variables)) g.buffer
    (with_variables g.cursor (suc g.cursor.variables))))
    (ap₂ (write_symbol g.buffer limit g.cursor.at (code "_"))
    (number_in (cell_of (put_cell g.memory x (4 * suc g.cursor.variables)) x) g.cursor.variables
    (cell_same g.memory x (4 * suc g.cursor.variables) t))
    (level_cell g.memory x (4 * suc g.cursor.variables) x)
    ∙ symbol_bytes g.buffer limit g.cursor.at (code "_") g.cursor.variables (level_of g.memory x)))

-- A constant likewise, by its mark.
constant_old : (turns limit : ℕ) (g : Printer) (c n : ℕ) → constant_mark g.memory g.cursor.constants c ≡ suc n
    → write_constant turns limit g c ≡ bytes_to limit g (spell_symbol (made n (field g.memory c fields.constant_level)))
unfolding write_constant number_constant bytes_to spell_symbol
constant_old turns limit g c n e =
    let f = mark_shown g.memory g.cursor.constants c n e in
    rw (ne_eqb (constant_mark g.memory g.cursor.constants c) 0 (λ q. omega arith))
    (ap (wrote g) (ap (λ (m : ℕ). write_symbol g.buffer limit g.cursor.at (code "!") m (field g.memory c fields.constant_level))
    (let z : field g.memory c constant_number_field - 1 ≡ n = omega arith in z)
    ∙ symbol_bytes g.buffer limit g.cursor.at (code "!") n (field g.memory c fields.constant_level)))

-- The memory in which one constant more has its number.
abbrev marked : ℕ → Printer → ℕ → List ℕ
marked turns g c =
    put_field (clear_at_first turns g.memory g.cursor.constants) c constant_number_field (suc g.cursor.constants)

-- A constant without a number gets the next one, and is written with it.
constant_new : (turns limit : ℕ) (g : Printer) (c : ℕ) → constant_mark g.memory g.cursor.constants c ≡ 0
    → numbers_per_unit * c + 63 < length g.memory → g.cursor.constants ≤ 1000000
    → write_constant turns limit g c
    ≡ bytes_to limit (printer (marked turns g c) g.buffer (with_constants g.cursor (suc g.cursor.constants)))
    (spell_symbol (made g.cursor.constants (field g.memory c fields.constant_level)))
unfolding write_constant number_constant bytes_to spell_symbol with_constants
constant_new turns limit g c e t l =
    let m = g.cursor.constants in
    let v = clear_at_first turns g.memory m in
    let a = first_alike turns g.memory m in
    rw (e, increment_small m (omega arith))
    (ap (wrote (printer (marked turns g c) g.buffer (with_constants g.cursor (suc m))))
    (ap₂ (write_symbol g.buffer limit g.cursor.at (code "!"))
    (let f = field_same v c constant_number_field (suc m) (let y = a.long in omega arith) in
    let z : field (marked turns g c) c constant_number_field - 1 ≡ m = omega arith in z)
    (field_other v c constant_number_field c fields.constant_level (suc m) (omega arith) (omega arith) (λ q. omega arith)
    ∙ a.fields c 22 (omega arith) (omega arith))
    ∙ symbol_bytes g.buffer limit g.cursor.at (code "!") m (field g.memory c fields.constant_level)))

-- One variable more leaves the made constants as they were.
made_variable : (x k : ℕ) (h : List Symbol) → made_only (h ++ (leftover x k ∷ [])) ≡ made_only h
unfolding made_only is_made
made_variable x k h = made_only_append h (leftover x k ∷ []) ∙ append-nil (made_only h)

-- One variable more comes last among the leftover variables.
leftover_variable : (x k : ℕ) (h : List Symbol) → leftover_only (h ++ (leftover x k ∷ [])) ≡ leftover_only h ++ (leftover x k ∷ [])
unfolding leftover_only is_made
leftover_variable x k h = leftover_only_append h (leftover x k ∷ [])

-- One constant more comes last among the made constants.
made_constant : (c k : ℕ) (h : List Symbol) → made_only (h ++ (made c k ∷ [])) ≡ made_only h ++ (made c k ∷ [])
unfolding made_only is_made
made_constant c k h = made_only_append h (made c k ∷ [])

-- One constant more leaves the leftover variables as they were.
leftover_constant : (c k : ℕ) (h : List Symbol) → leftover_only (h ++ (made c k ∷ [])) ≡ leftover_only h
unfolding leftover_only is_made
leftover_constant c k h = leftover_only_append h (made c k ∷ []) ∙ append-nil (leftover_only h)

-- The number that a renaming gives.
unfoldable pub number_by : Renaming → Symbol → ℕ
number_by r (made c k) = r.of_made c k
number_by r (leftover x k) = r.of_leftover x k

-- A symbol has shown among h, and how many of its kind have.
unfoldable pub seen : Symbol → List Symbol → Bool
seen (made c k) h = has (made c k) (made_only h)
seen (leftover x k) h = has (leftover x k) (leftover_only h)

-- How many of its kind have shown.
unfoldable pub count_of : Symbol → List Symbol → ℕ
count_of (made c k) h = length (firsts (made_only h))
count_of (leftover x k) h = length (firsts (leftover_only h))

-- After the symbols h, each of the symbols to come has its number already, or it is the next one.
unfoldable pub Due : Renaming → List Symbol → List Symbol → Type 0
Due r h [] = Unit {0}
Due r h (y ∷ l) = (seen y h ≡ false → number_by r y ≡ count_of y h) × Due r (h ++ (y ∷ [])) l

-- In a text numbered by first showing, each symbol has its number or is the next one, from the beginning on.
pub due_first : (h l : List Symbol) → Due (numbering_of (h ++ l)) h l
unfolding Due seen count_of number_by numbering_of made_only leftover_only is_made
due_first h [] = tt
due_first h (made c k ∷ l) = (
  λ e. ap (λ (z : List Symbol). index_of (made c k) (firsts z)) (made_only_append h (made c k ∷ l))
      ∙ index_next (made c k) (made_only h) (made_only l) e,
  subst (λ (z : List Symbol). Due (numbering_of z) (h ++ (made c k ∷ [])) l) (append_assoc h (made c k ∷ []) l)
      (due_first (h ++ (made c k ∷ [])) l),
)
due_first h (leftover x k ∷ l) = (
  λ e. ap (λ (z : List Symbol). index_of (leftover x k) (firsts z)) (leftover_only_append h (leftover x k ∷ l))
      ∙ index_next (leftover x k) (leftover_only h) (leftover_only l) e,
  subst (λ (z : List Symbol). Due (numbering_of z) (h ++ (leftover x k ∷ [])) l) (append_assoc h (leftover x k ∷ []) l)
      (due_first (h ++ (leftover x k ∷ [])) l),
)

-- What has shown among some symbols has shown among more.
seen_more : (z : Symbol) (h m : List Symbol) → seen z h ≡ true → seen z (h ++ m) ≡ true
unfolding seen
seen_more (made c k) h m e = ap (has (made c k)) (made_only_append h m) ∙ has_more (made c k) (made_only h) (made_only m) e
seen_more (leftover x k) h m e =
    ap (has (leftover x k)) (leftover_only_append h m) ∙ has_more (leftover x k) (leftover_only h) (leftover_only m) e

-- A symbol that stands in the middle of a list has shown.
seen_middle : (y : Symbol) (h m : List Symbol) → seen y (h ++ (y ∷ m)) ≡ true
unfolding seen made_only leftover_only is_made
seen_middle (made c k) h m = ap (has (made c k)) (made_only_append h (made c k ∷ m)) ∙ has_middle (made c k) (made_only h) (made_only m)
seen_middle (leftover x k) h m =
    ap (has (leftover x k)) (leftover_only_append h (leftover x k ∷ m)) ∙ has_middle (leftover x k) (leftover_only h) (leftover_only m)

-- All symbols of the second of two joined lists have shown in both.
all_seen : (h l : List Symbol) → All (λ y. seen y (h ++ l) ≡ true) l
all_seen h [] = tt
all_seen h (y ∷ l) =
    (seen_middle y h l, subst (λ (z : List Symbol). All (λ x. seen x z ≡ true) l) (append_assoc h (y ∷ []) l) (all_seen (h ++ (y ∷ [])) l))

-- Where all symbols have shown, no new number is due.
due_seen : (r : Renaming) (h l : List Symbol) → All (λ y. seen y h ≡ true) l → Due r h l
unfolding Due
due_seen r h [] a = tt
due_seen r h (y ∷ l) a = (
  λ e. absurd (true≢false (sym a.0 ∙ e)),
  due_seen r (h ++ (y ∷ [])) l (all_weaken (λ z. seen z h ≡ true) (λ z. seen z (h ++ (y ∷ [])) ≡ true) (λ z e. seen_more z h (y ∷ []) e) l
      a.1),
)

-- In a text that is gone through once more, no new number is due.
pub due_again : (r : Renaming) (l : List Symbol) → Due r l l
due_again r l = due_seen r l l (all_seen [] l)

-- Where each kind keeps its numbers.
unfoldable pub cell_number : List ℕ → Symbol → ℕ
cell_number v (made c k) = 0
cell_number v (leftover x k) = cell_of v x

-- The number of a made constant stands in field 63 of its record, once one of the n constants shown has been numbered.
unfoldable pub field_number : List ℕ → ℕ → Symbol → ℕ
field_number v n (made c k) = constant_mark v n c
field_number v n (leftover x k) = 0

module _ (w : List ℕ) (next acts : ℕ) where
  -- `Variable` holds of a leftover variable as the memory has it.
  unfoldable pub Variable : Symbol → Type 0
  Variable (made c k) = ⊥
  Variable (leftover x k) = Right w next acts (leftover x k)

  -- `Constant` holds of a made constant as the memory has it.
  unfoldable pub Constant : Symbol → Type 0
  Constant (made c k) = Right w next acts (made c k)
  Constant (leftover x k) = ⊥

  module _ (r : Renaming) (base : ℕ) where
    -- The symbols h have shown: memory v and cursor p have their numbers.
    pub record Numbered (h : List Symbol) (v : List ℕ) (p : Cursor) : Type 0 where
      pub alike : Alike 62 w v
      pub variables : Book Variable (λ n. 4 * suc n) (number_by r) (leftover_only h) (cell_number v) p.variables
      pub constants : Book Constant suc (number_by r) (made_only h) (field_number v p.constants) p.constants
      pub few_variables : p.variables ≤ base + p.at
      pub few_constants : p.constants ≤ base + p.at

    -- The numbers stay when the position moves on.
    numbered_on : (h : List Symbol) (v : List ℕ) (p : Cursor) (a : ℕ) → p.at ≤ a → Numbered h v p → Numbered h v (with_position p a)
    unfolding with_position
    numbered_on h v p a l n =
        let x = n.few_variables in
        let y = n.few_constants in
        record {
          alike = n.alike;
          variables = n.variables;
          constants = n.constants;
          few_variables = omega arith;
          few_constants = omega arith;
        }

    -- A symbol was shown.
    pub record Shown (limit : ℕ) (y : Symbol) (h : List Symbol) (g g' : Printer) : Type 0 where
      pub bytes : written g'.buffer g'.cursor.at ≡ write_bytes (spell_symbol (rename r y)) g.buffer limit g.cursor.at
      pub numbered : Numbered (h ++ (y ∷ [])) g'.memory g'.cursor

    module _ (room : numbers_per_unit * acts ≤ length w) (few : next ≤ 9 * acts) (limit : ℕ) (low : limit ≤ 65535)
        (small : base ≤ 65536) where
      -- The bytes of a symbol move the position on.
      symbol_moves : (z : Symbol) (out : List ℕ) (at : ℕ) → at ≤ limit → suc at ≤ (write_bytes (spell_symbol z) out limit at).at
      unfolding spell_symbol write_bytes
      symbol_moves (made m k) out at l =
          rw (spell_symbol, write_bytes, emit_within out limit at (code "!") low l)
          (bytes_grow (decimal m ++ (code "@" ∷ decimal k)) (set out at (code "!")) limit (suc at) low)
      symbol_moves (leftover m k) out at l =
          rw (spell_symbol, write_bytes, emit_within out limit at (code "_") low l)
          (bytes_grow (decimal m ++ (code "@" ∷ decimal k)) (set out at (code "_")) limit (suc at) low)

      -- A symbol is shown if its number is made and then its bytes are written.
      shown_by : (y z : Symbol) (h : List Symbol) (g g' : Printer) (v : List ℕ) (p : Cursor) → p.at ≡ g.cursor.at → z ≡ rename r y
          → g.cursor.at ≤ limit
          → ((a : ℕ) → suc g.cursor.at ≤ a → Numbered (h ++ (y ∷ [])) v (with_position p a))
          → g' ≡ bytes_to limit (printer v g.buffer p) (spell_symbol z) → Shown limit y h g g'
      unfolding bytes_to wrote with_position
      shown_by y z h g g' v p e q l n i =
          subst (Shown limit y h g) (sym i) (record {
            bytes = ap₂ (λ (x : Symbol) (a : ℕ). write_bytes (spell_symbol x) g.buffer limit a) q e;
            numbered =
                n (write_bytes (spell_symbol z) g.buffer limit p.at).at
                (subst (λ (a : ℕ). suc g.cursor.at ≤ (write_bytes (spell_symbol z) g.buffer limit a).at) (sym e)
                (symbol_moves z g.buffer g.cursor.at l));
          })

      -- A variable is shown.
      write_variable_lem : (x k : ℕ) (h : List Symbol) (g : Printer) → Right w next acts (leftover x k)
          → (seen (leftover x k) h ≡ false → number_by r (leftover x k) ≡ count_of (leftover x k) h)
          → g.cursor.at ≤ limit → Numbered h g.memory g.cursor → Shown limit (leftover x k) h g (write_variable limit g x)
      unfolding seen count_of number_by rename Right cell_number field_number constant_mark Variable Constant with_position with_variables tag_of
      write_variable_lem x k h g right due l n = go (has (leftover x k) (leftover_only h)) refl
        where
          y : Symbol
          y = leftover x k

          level : level_of g.memory x ≡ k
          level = n.alike.levels x ∙ sym right.2

          there : There x g.memory
          there = there_from acts x g.memory (let a = n.alike.long in omega arith) (let b = right.0 in omega arith)

          cell : cell_of g.memory x ≡ cond (has (leftover x k) (leftover_only h)) (4 * suc (r.of_leftover x k)) 0
          cell = n.variables.marks (leftover x k) right

          other : (z : Symbol) (a : ℕ) → Variable z → same_symbol (leftover x k) z ≡ false
              → cell_number (put_cell g.memory x a) z ≡ cell_number g.memory z
          other (made c j) a m d = refl
          other (leftover x' j) a m d =
              cell_other g.memory x a x'
              (λ q. true≢false (sym (same_symbol_refl (leftover x k))
              ∙ ap (same_symbol (leftover x k)) (ap₂ leftover (sym q) (right.2 ∙ ap (level_of w) (sym q) ∙ sym m.2)) ∙ d))

          field_kept : (z : Symbol) (a : ℕ)
              → field_number (put_cell g.memory x a) g.cursor.constants z ≡ field_number g.memory g.cursor.constants z
          field_kept (made c j) a =
              ap (cond (eqb g.cursor.constants 0) 0) (field_cell g.memory x a c 63 (omega arith) (omega arith))
          field_kept (leftover x' j) a = refl

          go : (b : Bool) → has (leftover x k) (leftover_only h) ≡ b → Shown limit (leftover x k) h g (write_variable limit g x)
          go true e =
              let c : cell_of g.memory x ≡ 4 * suc (r.of_leftover x k) = cell
              ∙ ap (λ (b : Bool). cond b (4 * suc (r.of_leftover x k)) 0) e in
              let i = n.few_variables in
              let j = n.few_constants in
              shown_by y (leftover (r.of_leftover x k) (level_of g.memory x)) h g _ g.memory g.cursor refl
              (ap (leftover (r.of_leftover x k)) level) l
              (λ a q. record {
                alike = n.alike;
                variables =
                    subst (λ (l : List Symbol). Book Variable (λ n. 4 * suc n) (number_by r) l (cell_number g.memory)
                    g.cursor.variables) (sym (leftover_variable x k h))
                    (book_again Variable (λ n. 4 * suc n) (number_by r) (leftover_only h) (cell_number g.memory)
                    g.cursor.variables y e n.variables);
                constants =
                    subst (λ (l : List Symbol). Book Constant suc (number_by r) l (field_number g.memory g.cursor.constants)
                    g.cursor.constants)
                    (sym (made_variable x k h)) n.constants;
                few_variables = omega arith;
                few_constants = omega arith;
              }) (variable_old limit g x (r.of_leftover x k) c)
          go false e =
              let c : cell_of g.memory x ≡ 0 = cell ∙ ap (λ (b : Bool). cond b (4 * suc (r.of_leftover x k)) 0) e in
              let i = n.few_variables in
              let j = n.few_constants in
              let m = g.cursor.variables in
              let d : m ≡ r.of_leftover x k = n.variables.counts ∙ sym (due e) in
              let v = put_cell g.memory x (4 * suc m) in
              shown_by y (leftover m (level_of g.memory x)) h g _ v (with_variables g.cursor (suc m)) refl (ap₂ leftover d level) l
              (λ a q. record {
                alike =
                    alike_trans 62 w g.memory v n.alike
                    (alike_number 62 g.memory x (4 * suc m) (omega arith) there (ap tag_of c) (omega arith));
                variables =
                    subst (λ (l : List Symbol). Book Variable (λ n. 4 * suc n) (number_by r) l (cell_number v) (suc m))
                    (sym (leftover_variable x k h))
                    (book_new Variable (λ n. 4 * suc n) (number_by r) (leftover_only h) (cell_number g.memory) (cell_number v) m y e
                    (cell_same g.memory x (4 * suc m) there ∙ ap (λ (n : ℕ). 4 * suc n) d) (λ z o u. other z (4 * suc m) o u)
                    n.variables);
                constants =
                    subst (λ (l : List Symbol). Book Constant suc (number_by r) l (field_number v g.cursor.constants)
                    g.cursor.constants)
                    (sym (made_variable x k h))
                    (book_same Constant suc (number_by r) (made_only h) (field_number g.memory g.cursor.constants)
                    (field_number v g.cursor.constants) g.cursor.constants
                    (λ z o. field_kept z (4 * suc m)) n.constants);
                few_variables = omega arith;
                few_constants = omega arith;
              }) (variable_new limit g x c there (omega arith))

      -- A constant is shown.
      write_constant_lem : (c k : ℕ) (h : List Symbol) (g : Printer) → Right w next acts (made c k)
          → (seen (made c k) h ≡ false → number_by r (made c k) ≡ count_of (made c k) h)
          → g.cursor.at ≤ limit → Numbered h g.memory g.cursor → Shown limit (made c k) h g (write_constant acts limit g c)
      unfolding seen count_of number_by rename Right cell_number field_number constant_mark Variable Constant with_position with_constants
      write_constant_lem c k h g right due l n = go (has (made c k) (made_only h)) refl
        where
          y : Symbol
          y = made c k

          level : field g.memory c fields.constant_level ≡ k
          level = n.alike.fields c 22 (omega arith) (omega arith) ∙ sym right.1

          mark : constant_mark g.memory g.cursor.constants c ≡ cond (has (made c k) (made_only h)) (suc (r.of_made c k)) 0
          mark = n.constants.marks (made c k) right

          there : numbers_per_unit * c + 63 < length g.memory
          there = let a = n.alike.long in let b = right.0 in omega arith

          count : ℕ
          count = g.cursor.constants

          ready : List ℕ
          ready = clear_at_first acts g.memory count

          kept : Alike 63 g.memory ready
          kept = first_alike acts g.memory count

          other : (z : Symbol) → Constant z → same_symbol (made c k) z ≡ false
              → field_number (marked acts g c) (suc count) z ≡ field_number g.memory count z
          other (leftover x j) m d = refl
          other (made c' j) m d =
              mark_after (marked acts g c) count c'
              ∙ record_other ready c constant_number_field c' constant_number_field (suc count) (omega arith) (omega arith)
              (λ q. true≢false (sym (same_symbol_refl (made c k))
              ∙ ap (same_symbol (made c k)) (ap₂ made (sym q) (right.1 ∙ ap (λ (d : ℕ). field w d fields.constant_level) (sym q)
              ∙ sym m.1)) ∙ d))
              ∙ first_mark acts g.memory count c' (let a = n.alike.long in omega arith) m.0

          cell_kept : (z : Symbol) → cell_number (marked acts g c) z ≡ cell_number g.memory z
          cell_kept (made c' j) = refl
          cell_kept (leftover x j) =
              cell_put ready x c constant_number_field (suc count) (omega arith) (omega arith) ∙ first_cells acts g.memory count x

          go : (b : Bool) → has (made c k) (made_only h) ≡ b → Shown limit (made c k) h g (write_constant acts limit g c)
          go true e =
              let f : constant_mark g.memory g.cursor.constants c ≡ suc (r.of_made c k) = mark
              ∙ ap (λ (b : Bool). cond b (suc (r.of_made c k)) 0) e in
              let i = n.few_variables in
              let j = n.few_constants in
              shown_by y (made (r.of_made c k) (field g.memory c fields.constant_level)) h g _ g.memory g.cursor refl
              (ap (made (r.of_made c k)) level) l
              (λ a q. record {
                alike = n.alike;
                variables =
                    subst (λ (l : List Symbol). Book Variable (λ n. 4 * suc n) (number_by r) l (cell_number g.memory)
                    g.cursor.variables) (sym (leftover_constant c k h)) n.variables;
                constants =
                    subst (λ (l : List Symbol). Book Constant suc (number_by r) l (field_number g.memory g.cursor.constants)
                    g.cursor.constants)
                    (sym (made_constant c k h))
                    (book_again Constant suc (number_by r) (made_only h) (field_number g.memory g.cursor.constants)
                    g.cursor.constants y e n.constants);
                few_variables = omega arith;
                few_constants = omega arith;
              }) (constant_old acts limit g c (r.of_made c k) f)
          go false e =
              let f : constant_mark g.memory g.cursor.constants c ≡ 0 = mark ∙ ap (λ (b : Bool). cond b (suc (r.of_made c k)) 0) e in
              let i = n.few_variables in
              let j = n.few_constants in
              let m = count in
              let d : m ≡ r.of_made c k = n.constants.counts ∙ sym (due e) in
              let v = marked acts g c in
              shown_by y (made m (field g.memory c fields.constant_level)) h g _ v (with_constants g.cursor (suc m)) refl
              (ap₂ made d level) l
              (λ a q. record {
                alike =
                    alike_trans 62 w g.memory v n.alike
                    (alike_trans 62 g.memory ready v (alike_fewer 63 62 g.memory ready (omega arith) kept)
                    (alike_put 62 ready c 63 (suc m) (omega arith) (omega arith) (omega arith)));
                variables =
                    subst (λ (l : List Symbol). Book Variable (λ n. 4 * suc n) (number_by r) l (cell_number v) g.cursor.variables)
                    (sym (leftover_constant c k h))
                    (book_same Variable (λ n. 4 * suc n) (number_by r) (leftover_only h) (cell_number g.memory) (cell_number v)
                    g.cursor.variables (λ z o. cell_kept z) n.variables);
                constants =
                    subst (λ (l : List Symbol). Book Constant suc (number_by r) l (field_number v (suc m)) (suc m))
                    (sym (made_constant c k h))
                    (book_new Constant suc (number_by r) (made_only h) (field_number g.memory m) (field_number v (suc m)) m y e
                    (mark_after v m c ∙ field_same ready c constant_number_field (suc m) (let a = kept.long in omega arith) ∙ ap suc d)
                    other n.constants);
                few_variables = omega arith;
                few_constants = omega arith;
              }) (constant_new acts limit g c f there (omega arith))

      -- A symbol is shown.
      write_numbered : (y : Symbol) (h : List Symbol) (g : Printer) → Right w next acts y
          → (seen y h ≡ false → number_by r y ≡ count_of y h) → g.cursor.at ≤ limit
          → Numbered h g.memory g.cursor → Shown limit y h g (show_symbol acts limit g y)
      unfolding show_symbol
      write_numbered (made c k) h g right due l n = write_constant_lem c k h g right due l n
      write_numbered (leftover x k) h g right due l n = write_variable_lem x k h g right due l n

    -- Tokens were written.
    pub record Wrote (limit : ℕ) (ks : List Token) (h : List Symbol) (g g' : Printer) : Type 0 where
      pub bytes : written g'.buffer g'.cursor.at ≡ write_bytes (spelled r ks) g.buffer limit g.cursor.at
      pub numbered : g'.cursor.at ≤ limit → Numbered (h ++ signs ks) g'.memory g'.cursor

    module _ (room : numbers_per_unit * acts ≤ length w) (few : next ≤ 9 * acts) (limit : ℕ) (low : limit ≤ 65535)
        (small : base ≤ 65536) where
      -- From token to token.
      pub steps_numbered : (ks : List Token) (h : List Symbol) (g : Printer) → All (Right w next acts) (signs ks) → Due r h (signs ks)
          → (g.cursor.at ≤ limit → Numbered h g.memory g.cursor)
          → Wrote limit ks h g (steps acts limit ks g)
      unfolding steps signs spelled write_bytes Due step emit_to wrote with_position
      steps_numbered [] h g right due n =
          record {
            bytes = refl;
            numbered = λ l. subst (λ (l : List Symbol). Numbered l g.memory g.cursor) (sym (append-nil h))
                (n l);
          }
      steps_numbered (byte b ∷ ks) h g right due n =
          let s = emit g.buffer limit g.cursor.at b in
          let grow = bytes_grow (b ∷ []) g.buffer limit g.cursor.at low in
          let i = steps_numbered ks h (emit_to limit g b) right due
          (λ l. numbered_on h g.memory g.cursor s.at grow (n (omega arith))) in
          record { bytes = i.bytes; numbered = i.numbered }
      steps_numbered (sign y ∷ ks) h g right due n =
          go (ltb limit g.cursor.at) refl (λ f. steps_numbered ks (h ++ (y ∷ [])) f right.1 due.1)
        where
          go : (c : Bool) → ltb limit g.cursor.at ≡ c
              → ((f : Printer) → (f.cursor.at ≤ limit → Numbered (h ++ (y ∷ [])) f.memory f.cursor)
              → Wrote limit ks (h ++ (y ∷ [])) f (steps acts limit ks f))
              → Wrote limit (sign y ∷ ks) h g (steps acts limit ks (cond c g (show_symbol acts limit g y)))
          go true e f =
              let over = ltb-true limit g.cursor.at e in
              subst (Wrote limit (sign y ∷ ks) h g) (sym (steps_over acts limit ks g over)) (record {
                bytes = sym (bytes_over (spelled r (sign y ∷ ks)) g.buffer limit g.cursor.at over);
                numbered = λ l. absurd (omega arith);
              })
          go false e f =
              let l = ltb-false limit g.cursor.at e in
              let g' = show_symbol acts limit g y in
              let s = write_numbered room few limit low small y h g right.0 due.0 l (n l) in
              let i = f g' (λ k. s.numbered) in
              record {
                bytes = i.bytes ∙ ap (λ (x : Written). write_bytes (spelled r ks) x.buffer limit x.at) s.bytes
                    ∙ sym (bytes_append (spell_symbol (rename r y)) (spelled r ks) g.buffer limit g.cursor.at);
                numbered =
                    λ k. subst (λ (l : List Symbol). Numbered l (steps acts limit ks g').memory (steps acts limit ks g').cursor)
                    (append_assoc h (y ∷ []) (signs ks)) (i.numbered k);
              }
