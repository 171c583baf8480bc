-- The lines of a sheet in turn: what holds before each, kept by every line that is taken, and the contract of `read_sheet` from it at
-- each way out. Assumes nothing.
use Prim.Native.Nat.{ℕ, zero, suc, ◌+◌, ◌≤◌, ◌<◌}
use native.Mathlib.Numerals.{add-one}
use native.Mathlib.Omega.{arith}
use mathlib.Core.Bool.{Bool, true, false, cond}
use mathlib.Core.Path.{◌≡◌, refl, sym, ap, ◌∙◌, subst}
use mathlib.Core.List.{List, [], ◌∷◌}
use lib.Dec.{ltb, eqb}
use lib.ListN.{length, drop, length-drop, drop_of_length-le}
use borrow.Author.Tests.{ltb-true, ltb-false}
use Rattle.std.specs.Prelude.{Result, Ok, Err}
use Rattle.outcomes.specs.declared.refusals.Reason.{Reason}
use Rattle.outcomes.specs.declared.refusals.Reason.TheVariants.{Malformed, NoGoal}
use Rattle.outcomes.specs.Refusals.{number_of, refused_for}
use Rattle.formulas.specs.Rules.{Order}
use Rattle.sheet_format.proofs.Bytes.{lines_of_other}
use Rattle.sheet_format.specs.Limits.{table_numbers}
use Rattle.sheet_format.specs.Bytes.{lf, SplitLines, extend_line, lines_of, same_name}
use Rattle.sheet_format.specs.SheetLines.{parse_line}
use Rattle.sheet_format.specs.Sheets.{Sheet, refusal, sheet, refused, Table, next, stop, last, at_end, after_goal, read_from, empty_table}
use Rattle.sheet_format.specs.Sheets.{sheet_form, read_sheet}
use Rattle.sheet_format.specs.Sheets.{Read as SheetRead, Taken as SheetTaken, take_line as sheetLine}
use Rattle.node_table.specs.Layout.{order_number}
use Rattle.node_table.specs.Decoding.{goal_at, declarations_from, clauses_from, order_of, decode_sheet}
use Rattle.node_table.specs.WellMade.{IsGoal}
use Rattle.table_builder.specs.declared.node_info.Counts.{Counts}
use Rattle.table_builder.specs.Nodes.{made, counts}
use Rattle.table_decoding.specs.Decoding.{nodes_from, table_of, Decodes, Agrees, Follows}
use Rattle.table_decoding.proofs.Lines.{stands_empty, well_made_lem, all_named, names_stand}
use Rattle.sheet_reader.specs.declared.sheet_lines.Taken.{Taken}
use Rattle.sheet_reader.specs.declared.sheet_lines.Taken.TheVariants.{Next, Last}
use Rattle.sheet_reader.specs.Reader.{Read, read_of, WellRead, NamedRead, NamesRead, nodes_in, node_count, goal_or, goal_named, Counted}
use Rattle.sheet_reader.specs.Reader.{ReadContract, line_end, line_taken, finished}
use Rattle.sheet_reader.proofs.sheet_lines.Lines.{lines_of_lf, line_at, open_at, end_within_lem}
use Rattle.sheet_reader.proofs.sheet_lines.Steps.{between, next_adds, TakenIs, line_follows, EndsAt, line_last}

-- the lines ahead

-- The sheet of that order that the bytes b make of the table, the first of them on that line.
unfoldable pub read_on : Order → List ℕ → ℕ → Table → SheetRead
read_on o b line table = read_from sheet_form o (lines_of b).whole (lines_of b).rest line table

-- The same after a line of which that is made, b the bytes after it.
unfoldable after_line : Order → SheetTaken → List ℕ → ℕ → Table → SheetRead
after_line o (next u) b line table = read_on o b (suc line) u
after_line o (stop n) b line table = refused (refusal n line)
after_line o (last g) b line table =
    after_goal (lines_of b).whole (lines_of b).rest (suc line)
    (record { order = o; symbols = table.symbols; clauses = table.clauses; goal = g })

module _ (o : Order) (s : List ℕ) (at line : ℕ) (table : Table) where
  -- A whole line is taken, and reading goes on after its LF.
  on_line : (end : ℕ) → at ≤ length s → end ≡ line_end s at → (end ≡ length s → ⊥)
      → read_on o (drop at s) line table
      ≡ after_line o (sheetLine same_name table (parse_line (between s at end))) (drop (end + 1) s) line table
  unfolding read_on read_from sheet_form after_line
  on_line end h e n =
      ap (λ (l : SplitLines). read_from sheet_form o l.whole l.rest line table) (line_at s at end h e n)
      ∙ go (sheetLine same_name table (parse_line (between s at end))) refl
    where
      go : (x : SheetTaken) → sheetLine same_name table (parse_line (between s at end)) ≡ x
          → read_from sheet_form o (between s at end ∷ (lines_of (drop (end + 1) s)).whole) (lines_of (drop (end + 1) s)).rest line table
          ≡ after_line o x (drop (end + 1) s) line table
      go (next u) e = rw (e, read_from)
      go (stop n) e = rw (e, read_from)
      go (last g) e = rw (e, read_from)

  -- A line without LF is refused with 6.
  on_open : (end : ℕ) → at < length s → end ≡ line_end s at → end ≡ length s → read_on o (drop at s) line table ≡ refused (refusal 6 line)
  unfolding read_on read_from at_end
  on_open end h e n =
      ap (λ (l : SplitLines). read_from sheet_form o l.whole l.rest line table) (open_at s at end (omega arith) e n)
      ∙ some_left (drop at s) (omega (arith, length-drop at s))
    where
      some_left : (b : List ℕ) → 0 < length b → at_end b line ≡ refused (refusal 6 line)
      some_left [] h = absurd (omega arith)
      some_left (c ∷ cs) h = refl

  -- Where no byte is left, the sheet is refused with 11.
  on_none : length s ≤ at → read_on o (drop at s) line table ≡ refused (refusal 11 line)
  unfolding read_on read_from lines_of at_end
  on_none h = rw (drop_of_length-le s h)

-- after the Q line

-- Any byte after the Q line is one too many.
after_some : (c : ℕ) (cs : List ℕ) (line : ℕ) (x : Sheet)
    → after_goal (lines_of (c ∷ cs)).whole (lines_of (c ∷ cs)).rest line x ≡ refused (refusal 11 line)
unfolding after_goal extend_line
after_some c cs line x = go (eqb c lf) refl
  where
    after : SplitLines → SheetRead
    after l = after_goal l.whole l.rest line x

    on : (ls : List (List ℕ)) (r : List ℕ) → after (extend_line c ls r) ≡ refused (refusal 11 line)
    on [] r = refl
    on (l ∷ ls) r = refl

    go : (b : Bool) → eqb c lf ≡ b → after (lines_of (c ∷ cs)) ≡ refused (refusal 11 line)
    go true e = ap after (lines_of_lf c cs e)
    go false e = ap after (lines_of_other c cs e) ∙ on (lines_of cs).whole (lines_of cs).rest

-- If no byte follows the Q line, the sheet is read.
after_none : (s : List ℕ) (at line : ℕ) (x : Sheet) → length s ≤ at
    → after_goal (lines_of (drop at s)).whole (lines_of (drop at s)).rest line x ≡ sheet x
unfolding after_goal lines_of
after_none s at line x h = rw (drop_of_length-le s h)

-- If bytes follow the Q line from `at` on, the sheet is refused with 11.
after_more : (s : List ℕ) (at line : ℕ) (x : Sheet) → at < length s
    → after_goal (lines_of (drop at s)).whole (lines_of (drop at s)).rest line x ≡ refused (refusal 11 line)
after_more s at line x h = go (drop at s) (omega (arith, length-drop at s))
  where
    go : (b : List ℕ) → 0 < length b → after_goal (lines_of b).whole (lines_of b).rest line x ≡ refused (refusal 11 line)
    go [] h = absurd (omega arith)
    go (c ∷ cs) h = after_some c cs line x

-- The nodes read from the table are as many as are counted.
nodes_length : (t : List ℕ) (c n : ℕ) → length (nodes_from t c n) ≡ c
unfolding nodes_from
nodes_length t zero n = refl
nodes_length t (suc c) n = ap suc (nodes_length t c (suc n))

table_nodes : (bytes t : List ℕ) (k : Counts) → length (table_of bytes t k).nodes ≡ k.nodes
unfolding table_of
table_nodes bytes t k = nodes_length t k.nodes 0

-- What holds before a line, which starts at `at`, where the table was t₀ and is t. The order in force is in the table.
pub record Reading (bytes t₀ t : List ℕ) (k : Counts) (at line : ℕ) : Type 0 where
  pub within : at ≤ length bytes
  pub few : line ≤ at + 1
  pub stands : Decodes bytes t k
  pub ahead : read_sheet bytes ≡ read_on (order_of t) (drop at bytes) line (table_of bytes t k)
  pub nodes : node_count (lines_of bytes).whole ≡ k.nodes + node_count (lines_of (drop at bytes)).whole
  pub goal : goal_named (lines_of bytes).whole ≡ goal_named (lines_of (drop at bytes)).whole
  pub long : length t ≡ length t₀
  pub rest : drop table_numbers t ≡ drop table_numbers t₀

-- What holds of the table t after the order is written, where the lines to be read start at `at`.
pub record Begun (bytes t : List ℕ) (at line : ℕ) : Type 0 where
  pub within : at ≤ length bytes
  pub few : line ≤ at + 1
  pub ahead : read_sheet bytes ≡ read_on (order_of t) (drop at bytes) line empty_table
  pub nodes : node_count (lines_of bytes).whole ≡ node_count (lines_of (drop at bytes)).whole
  pub goal : goal_named (lines_of bytes).whole ≡ goal_named (lines_of (drop at bytes)).whole
  pub long : table_numbers ≤ length t

-- The invariant `Reading` holds then.
pub reading_begins : (bytes t : List ℕ) (at line : ℕ) → Begun bytes t at line → Reading bytes t t (counts 0 0 0) at line
unfolding table_of declarations_from nodes_from clauses_from
reading_begins bytes t at line b =
    let n = b.nodes in
    record {
      within = b.within;
      few = b.few;
      stands = stands_empty bytes t b.long;
      ahead = b.ahead;
      nodes = omega arith;
      goal = b.goal;
      long = refl;
      rest = refl;
    }

-- A line that leaves the number of the order leaves the order.
same_order : (t u : List ℕ) → order_number u ≡ order_number t → order_of u ≡ order_of t
unfolding order_of
same_order t u e = rw (order_of, e)

-- Where a line with LF ends, and how far the numbers of lines have come.
pub record LineEnds (bytes : List ℕ) (at line end : ℕ) : Type 0 where
  pub from : at ≤ end
  pub within : end < length bytes
  pub few : line ≤ at + 1

-- The line that is read ends at an LF within the bytes.
pub reading_line : {bytes t₀ t : List ℕ} {k : Counts} {at line end : ℕ} → Reading bytes t₀ t k at line → end ≡ line_end bytes at
    → (end ≡ length bytes → ⊥)
    → LineEnds bytes at line end
reading_line {bytes} {t₀} {t} {k} {at} {line} {end} h e n =
    let w = end_within_lem bytes at end h.within e in
    record { from = w.0; within = omega arith; few = h.few }

module _ (bytes t₀ t t' : List ℕ) (k : Counts) (at line end : ℕ) (x : Result Taken Reason) (h : Reading bytes t₀ t k at line) (i : at < length bytes)
    (e : end ≡ line_end bytes at)
    (n : end ≡ length bytes → ⊥) (m : made t' x ≡ line_taken bytes t k at end) where
  -- The end of the line lies between its start and the end of the bytes.
  ends : (at ≤ end) × (end ≤ length bytes)
  ends = end_within_lem bytes at end h.within e

  -- The code makes of the line what document 01's definition makes of it.
  follows : Follows (TakenIs bytes k) t (made t' x) (sheetLine same_name (table_of bytes t k) (parse_line (between bytes at end)))
  follows = rw m (line_follows bytes t k h.stands at end ends.0 ends.1)

  -- The sheet is what the definition makes of the line and of the bytes after it.
  ahead_line : read_sheet bytes ≡ after_line (order_of t) (sheetLine same_name (table_of bytes t k) (parse_line (between bytes at end)))
      (drop (end + 1) bytes) line (table_of bytes t k)
  ahead_line = h.ahead ∙ on_line (order_of t) bytes at line (table_of bytes t k) end h.within e n

  -- The nodes and the goal of the lines from here on are those of this line and of the lines after it.
  nodes_line : node_count (lines_of (drop at bytes)).whole ≡ nodes_in (parse_line (between bytes at end)) + node_count
      (lines_of (drop (end + 1) bytes)).whole
  unfolding node_count
  nodes_line = ap (λ (l : SplitLines). node_count l.whole) (line_at bytes at end h.within e n)

  goal_line_lem : goal_named (lines_of (drop at bytes)).whole ≡ goal_or (parse_line (between bytes at end))
      (goal_named (lines_of (drop (end + 1) bytes)).whole)
  unfolding goal_named
  goal_line_lem = ap (λ (l : SplitLines). goal_named l.whole) (line_at bytes at end h.within e n)

  -- If the line is taken, `Reading` holds before the next line.
  pub reading_on : (j : Counts) → x ≡ Ok (Next j) → Reading bytes t₀ t' j (end + 1) (line + 1)
  unfolding Agrees TakenIs after_line
  reading_on j q =
      let a = subst (λ (y : Result Taken Reason). Agrees (TakenIs bytes k t') y (sheetLine same_name (table_of bytes t k) (parse_line (between bytes at end)))) q
      follows.agrees in
      let w = reading_line h e n in
      let d = next_adds (table_of bytes t k) (parse_line (between bytes at end)) (table_of bytes t' j) a.0 in
      let c : j.nodes ≡ k.nodes + nodes_in (parse_line (between bytes at end)) =
      rw (table_nodes bytes t k, table_nodes bytes t' j) at d.nodes in
      let p = h.nodes in
      let y = nodes_line in
      record {
        within = omega arith;
        few = omega arith;
        stands = a.1;
        ahead =
            rw (add-one line, same_order t t' follows.order)
            (ahead_line ∙ ap (λ (y : SheetTaken). after_line (order_of t) y (drop (end + 1) bytes) line (table_of bytes t k)) a.0);
        nodes = omega arith;
        goal = h.goal ∙ goal_line_lem ∙ d.goal _;
        long = follows.long ∙ h.long;
        rest = follows.rest ∙ h.rest;
      }

  -- If the line is refused, the contract holds.
  pub reading_stops : (reason : Reason) (r : Read) → x ≡ Err reason → r ≡ Err (refused_for reason line) → ReadContract bytes t₀ t' r
  unfolding Agrees after_line read_of WellRead NamedRead NamesRead Counted
  reading_stops reason r q z =
      let a = subst (λ (y : Result Taken Reason). Agrees (TakenIs bytes k t') y (sheetLine same_name (table_of bytes t k) (parse_line (between bytes at end)))) q
      follows.agrees in
      rw z (record {
        read = ahead_line ∙ ap (λ (y : SheetTaken). after_line (order_of t) y (drop (end + 1) bytes) line (table_of bytes t k)) a;
        well_made = tt;
        counted = tt;
        long = follows.long ∙ h.long;
        rest = follows.rest ∙ h.rest;
        named = tt;
        names = tt;
      })

  -- If the line is the Q line, the contract holds.
  pub reading_ends : (goal : ℕ) (r : Read) → x ≡ Ok (Last goal) → r ≡ finished bytes k goal (end + 1) (line + 1) → ReadContract bytes t₀ t' r
  unfolding finished Agrees TakenIs after_line read_of WellRead NamedRead NamesRead Counted decode_sheet table_of nodes_in node_count goal_or lines_of
  reading_ends goal r q z = rw (z, here.same) (ended (ltb (end + 1) (length bytes)) refl)
    where
      here : EndsAt bytes t k h.stands at end ends.0 ends.1 t' goal (parse_line (between bytes at end))
      here = line_last bytes t k h.stands at end ends.0 ends.1 t' goal (ap (made t') (sym q) ∙ m)

      agreed : (sheetLine same_name (table_of bytes t k) (parse_line (between bytes at end)) ≡ last (goal_at t goal)) × (goal < k.nodes) × IsGoal t goal
      agreed =
          subst (λ (u : List ℕ). (sheetLine same_name (table_of bytes t k) (parse_line (between bytes at end)) ≡ last (goal_at u goal))
          × (goal < k.nodes) × IsGoal u goal) here.same
          (subst (λ (y : Result Taken Reason). Agrees (TakenIs bytes k t') y (sheetLine same_name (table_of bytes t k) (parse_line (between bytes at end)))) q
          follows.agrees)

      ahead_goal : read_sheet bytes ≡ after_goal (lines_of (drop (end + 1) bytes)).whole (lines_of (drop (end + 1) bytes)).rest (suc line)
          (decode_sheet bytes t k.symbols k.clauses goal)
      ahead_goal = ahead_line ∙ ap (λ (y : SheetTaken). after_line (order_of t) y (drop (end + 1) bytes) line (table_of bytes t k)) agreed.0

      nodes_end : length bytes ≤ end + 1 → k.nodes ≡ node_count (lines_of bytes).whole
      nodes_end l =
          let p = h.nodes in
          let y = nodes_line in
          let z : nodes_in (parse_line (between bytes at end)) ≡ 0 = rw here.named in
          let w : node_count (lines_of (drop (end + 1) bytes)).whole ≡ 0 = rw (drop_of_length-le bytes l) in
          omega arith

      goal_end : goal ≡ goal_named (lines_of bytes).whole
      goal_end = sym (h.goal ∙ goal_line_lem ∙ rw here.named)

      ended : (b : Bool) → ltb (end + 1) (length bytes) ≡ b → ReadContract bytes t₀ t (cond b (Err (refused_for NoGoal (line + 1))) (Ok (k, goal)))
      ended true e = record {
        read = rw (add-one line) (ahead_goal ∙ after_more bytes (end + 1) (suc line) _ (ltb-true (end + 1) (length bytes) e));
        well_made = tt;
        counted = tt;
        long = h.long;
        rest = h.rest;
        named = tt;
        names = tt;
      }
      ended false e = record {
        read = ahead_goal ∙ after_none bytes (end + 1) (suc line) _ (ltb-false (end + 1) (length bytes) e);
        well_made = well_made_lem bytes t k goal h.stands agreed.1 agreed.2;
        counted = (nodes_end (ltb-false (end + 1) (length bytes) e), goal_end);
        long = h.long;
        rest = h.rest;
        named = all_named bytes t k h.stands;
        names = names_stand bytes t k h.stands;
      }

module _ (bytes t₀ t : List ℕ) (k : Counts) (at line : ℕ) (r : Read) (h : Reading bytes t₀ t k at line) where
  -- A refusal that leaves the table as it is satisfies the contract.
  refuses : (reason : Reason) → read_on (order_of t) (drop at bytes) line (table_of bytes t k) ≡ refused (refusal (number_of reason) line)
      → r ≡ Err (refused_for reason line) → ReadContract bytes t₀ t r
  unfolding read_of WellRead NamedRead NamesRead Counted
  refuses reason e z = rw z (record { read = h.ahead ∙ e; well_made = tt; counted = tt; long = h.long; rest = h.rest; named = tt; names = tt })

  -- The contract holds for a line without LF.
  pub reading_open : (end : ℕ) → at < length bytes → end ≡ line_end bytes at → end ≡ length bytes → r ≡ Err (refused_for Malformed line)
      → ReadContract bytes t₀ t r
  reading_open end i e n = refuses Malformed (on_open (order_of t) bytes at line (table_of bytes t k) end i e n)

  -- The contract holds where no line is left.
  pub reading_none : length bytes ≤ at → r ≡ Err (refused_for NoGoal line) → ReadContract bytes t₀ t r
  reading_none i = refuses NoGoal (on_none (order_of t) bytes at line (table_of bytes t k) i)
