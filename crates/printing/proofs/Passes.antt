-- The pass, and the theorems: a text is written after what stands before it, and the answer buffer and the length are what
-- `reported_length` says of the answer text.
use Prim.Native.Nat.{ℕ, ◌+◌, ◌≤◌, ◌<◌}
use Rattle.std.specs.Prelude.{Some, None}
use native.Mathlib.Omega.{arith}
use mathlib.Core.Path.{◌≡◌, refl, sym, ap, ap₂, ◌∙◌, subst}
use mathlib.Core.Bool.{Bool, true, false}
use mathlib.Core.List.{List, [], ◌∷◌, ◌++◌, map, reverse}
use lib.Dec.{ltb}
use lib.ListN.{length, drop, length-append, length-reverse, length-replicate}
use lib.Seq.{take-append_seam}
use borrow.Author.Tests.{ltb-true, ltb-false, lt-ltb, le-ltb, le-leb, lt-leb}
use Rattle.terms.proofs.Lists.{map_map}
use Rattle.formulas.specs.Formulas.{free_g, free_variables}
use Rattle.sequents.specs.Symbols.{Symbol, made, leftover}
use Rattle.sequents.specs.Sequents.{Line, put_line}
use Rattle.sequents.specs.Renamings.{Renaming}
use Rattle.unification.specs.Store.{Leaf, Store}
use Rattle.search.specs.Answers.{final, final_environment, final_lines}
use Rattle.sheet_format.specs.Bytes.{ascii, lf, decimal}
use Rattle.sheet_format.specs.Nodes.{Declaration}
use Rattle.node_table.specs.Layout.{mask_of}
use Rattle.node_table.specs.Decoding.{declarations_from, goal_at, decode_sheet}
use Rattle.node_table.specs.WellMade.{WellMade, Named}
use Rattle.node_table.proofs.Decoding.{nodes_of_lem}
use Rattle.answer_texts.specs.TextLines.{TextLine, binding_line, derivation_line, answer_lines}
use Rattle.answer_texts.specs.Numbering.{made_only, leftover_only, firsts, shown, numbering_of, numbered}
use Rattle.answer_texts.specs.Spelling.{proof_text, no_text, spent_text, text_line, join}
use Rattle.answer_texts.specs.Promises.{search_text}
use Rattle.answer_texts.proofs.FirstShowings.{has}
use Rattle.machine.specs.Records.{Made, proved_mode}
use Rattle.machine.specs.Simulation.{StandsAt}
use Rattle.printing.specs.Output.{Written, written, emit, write_bytes}
use Rattle.printing.specs.Numbering.{constant_mark, Printer, printer}
use Rattle.sheet_format.specs.Limits.{max_text_bytes}
use Rattle.printing.specs.WriteLines.{result_to, bindings_to}
use Rattle.printing.specs.Writer.{Fitted, fitted, fitting, text_limit, cursor_from, proof_pass, prepare, first_link, own_bytes, append_proof}
use Rattle.printing.specs.Writer.{append_result, copied, write_proof, write_short, write_no, write_spent}
use Rattle.printing.specs.Written.{Orderly, reported_length, Appended, AppendsProof, AppendsResult, WritesProof, WritesNo}
use Rattle.printing.specs.Written.{WritesSpent}
use Rattle.printing.specs.PathLinks.{next_line_field}
use Rattle.printing.proofs.Bytes.{bytes_end, bytes_fit, bytes_long, bytes_append, number_bytes, bytes_over}
use Rattle.printing.proofs.Tokens.{byte, steps, text_tokens, tokens, tokens_append, signs, tokens_signs, spelled, tokens_spelled}
use Rattle.printing.proofs.LeftAlone.{Alike}
use Rattle.printing.proofs.Steps.{Right}
use Rattle.printing.proofs.TermSteps.{Basis}
use Rattle.printing.proofs.LineSteps.{Reached, reach_alike, reach_kept, reach_as, reach_then, reach_result, reach_bindings}
use Rattle.printing.proofs.PathSteps.{PathLine, path_lines, line_of, lines_read, lines_few, reverse_map, Prepared, prepared, line_shown}
use Rattle.printing.proofs.PathSteps.{reach_lines}
use Rattle.printing.proofs.Numbered.{cell_number, field_number, Variable, Constant, Numbered, due_first, Wrote, steps_numbered}
use Rattle.memory.specs.Records.{field}

-- Written or not, by the length of the text.
reported_fits : (text out : List ℕ) → length text ≤ text_limit out
    → reported_length text out ≡ fitted (text ++ drop (length text) out) (Some (length text))
unfolding reported_length
reported_fits text out h = rw (le-leb (length text) (text_limit out) h)

-- A text that does not fit is not written.
reported_long : (text out : List ℕ) → text_limit out < length text → reported_length text out ≡ fitted out None
unfolding reported_length
reported_long text out h = rw (lt-leb (length text) (text_limit out) h)

module _ (out : List ℕ) where
  -- The limit is at most 65,535.
  pub limit_low : text_limit out ≤ 65535
  unfolding text_limit
  limit_low = omega arith

  -- The limit is within the buffer.
  pub limit_room : text_limit out ≤ length out
  unfolding text_limit
  limit_room = omega arith

  -- A count above the limit tells that the text does not fit. Whatever the buffer holds, positions are the same.
  counted_long : (text buffer : List ℕ) (n : ℕ) → n ≡ (write_bytes text buffer (text_limit out) 0).at → text_limit out < n
      → text_limit out < length text
  counted_long text buffer n e h = let z = bytes_end text buffer (text_limit out) 0 limit_low (omega arith) in omega arith

  -- A count within the limit tells that the text fits.
  counted_fits : (text buffer : List ℕ) (n : ℕ) → n ≡ (write_bytes text buffer (text_limit out) 0).at → n ≤ text_limit out
      → length text ≤ text_limit out
  counted_fits text buffer n e h = let z = bytes_end text buffer (text_limit out) 0 limit_low (omega arith) in omega arith

  -- Writing a text that fits writes it.
  written_fits : (text : List ℕ) → length text ≤ text_limit out → fitting (write_bytes text out (text_limit out) 0) ≡ reported_length text out
  written_fits text h =
      ap fitting (bytes_fit text [] out (text_limit out) 0 limit_low refl (omega arith) (let r = limit_room in omega arith)
      ∙ ap (written (text ++ drop (length text) out)) (let e : 0 + length text ≡ length text = omega arith in e))
      ∙ sym (reported_fits text out h)

-- Bytes that are written after others follow them if they fit, and end past the limit if they do not.
bytes_appended : (text : List ℕ) (limit : ℕ) → limit ≤ max_text_bytes → (front rest : List ℕ) → length front ≤ limit
    → limit ≤ length (front ++ rest)
    → Appended limit front text rest (write_bytes text (front ++ rest) limit (length front)).buffer
    (write_bytes text (front ++ rest) limit (length front)).at
bytes_appended text limit low front rest h room = record {
  bytes = λ f. ap (λ (x : Written). x.buffer) (fit f);
  position = λ f. ap (λ (x : Written). x.at) (fit f);
  past = λ f. let e = bytes_end text (front ++ rest) limit (length front) low (omega arith) in omega arith;
  long = bytes_long text (front ++ rest) limit (length front);
}
  where
    fit : length front + length text ≤ limit
        → write_bytes text (front ++ rest) limit (length front)
        ≡ written (front ++ (text ++ drop (length text) rest)) (length front + length text)
    fit f = bytes_fit text front rest limit (length front) low refl f (let l = length-append front rest in omega arith)

-- A text at the front of the writer's own bytes is copied if it fits.
pub copied_fits : (text rest out : List ℕ) → length text ≤ text_limit out
    → copied (text_limit out) (text ++ rest) (length text) out ≡ reported_length text out
unfolding copied
copied_fits text rest out h =
    rw (copied, le-ltb (text_limit out) (length text) h)
    (ap (λ (l : List ℕ). fitted (l ++ drop (length text) out) (Some (length text))) (take-append_seam text rest)
    ∙ sym (reported_fits text out h))

-- A position past the limit stands for a text that does not fit: nothing is copied.
pub copied_past : (text own out : List ℕ) (at : ℕ) → text_limit out < length text → text_limit out < at
    → copied (text_limit out) own at out ≡ reported_length text out
unfolding copied
copied_past text own out at h k = rw (copied, lt-ltb (text_limit out) at k) (sym (reported_long text out h))

-- What was appended to no bytes is copied if it fits.
appended_copied : (text rest own out : List ℕ) (at : ℕ) → Appended (text_limit out) [] text rest own at
    → copied (text_limit out) own at out ≡ reported_length text out
appended_copied text rest own out at a = go (ltb (text_limit out) (length text)) refl
  where
    go : (b : Bool) → ltb (text_limit out) (length text) ≡ b → copied (text_limit out) own at out ≡ reported_length text out
    go true e = let h = ltb-true (text_limit out) (length text) e in copied_past text own out at h (a.past (omega arith))
    go false e =
        let h = ltb-false (text_limit out) (length text) e in
        let z : 0 + length text ≡ length text = omega arith in
        ap₂ (λ (o : List ℕ) (n : ℕ). copied (text_limit out) o n out) (a.bytes (omega arith)) (a.position (omega arith) ∙ z)
        ∙ copied_fits text (drop (length text) rest) out h

-- The R line of no or spent is one list of bytes.
result_bytes : (bs : List ℕ) (units : ℕ) (own : List ℕ) (limit at : ℕ)
    → append_result bs units own limit at ≡ write_bytes (bs ++ (decimal units ++ (lf ∷ []))) own limit at
unfolding append_result write_bytes
result_bytes bs units own limit at =
    let s = write_bytes bs own limit at in
    ap (λ (n : Written). emit n.buffer limit n.at lf) (number_bytes units s.buffer limit s.at)
    ∙ sym (bytes_append (decimal units) (lf ∷ []) s.buffer limit s.at)
    ∙ sym (bytes_append bs (decimal units ++ (lf ∷ [])) own limit at)

-- Past the limit it is not written, and the position stays.
pub result_past : (bs : List ℕ) (units : ℕ) (own : List ℕ) (limit at : ℕ) → limit < at → append_result bs units own limit at ≡ written own at
result_past bs units own limit at h =
    result_bytes bs units own limit at ∙ bytes_over (bs ++ (decimal units ++ (lf ∷ []))) own limit at h

-- The R line is written after what stands before it.
pub appends_result : AppendsResult
appends_result bs units limit low front rest h room =
    rw (result_bytes bs units (front ++ rest) limit (length front))
    (bytes_appended (bs ++ (decimal units ++ (lf ∷ []))) limit low front rest h room)

-- The texts of no and spent are written if they fit.
short_reported : (bs : List ℕ) (units : ℕ) (out : List ℕ)
    → write_short bs units out ≡ reported_length (bs ++ (decimal units ++ (lf ∷ []))) out
unfolding write_short
short_reported bs units out = go (ltb (text_limit out) (append_result bs units [] (text_limit out) 0).at) refl
  where
    text : List ℕ
    text = bs ++ (decimal units ++ (lf ∷ []))

    count : (append_result bs units [] (text_limit out) 0).at ≡ (write_bytes text [] (text_limit out) 0).at
    count = ap (λ (s : Written). s.at) (result_bytes bs units [] (text_limit out) 0)

    go : (b : Bool) → ltb (text_limit out) (append_result bs units [] (text_limit out) 0).at ≡ b
        → ◌≡◌ {A = Fitted} (elim b [ true ↦ fitted out None | false ↦ fitting (append_result bs units out (text_limit out) 0) ])
        (reported_length text out)
    go true e =
        sym (reported_long text out (counted_long out text [] (append_result bs units [] (text_limit out) 0).at count
        (ltb-true (text_limit out) (append_result bs units [] (text_limit out) 0).at e)))
    go false e =
        ap fitting (result_bytes bs units out (text_limit out) 0)
        ∙ written_fits out text (counted_fits out text [] (append_result bs units [] (text_limit out) 0).at count
        (ltb-false (text_limit out) (append_result bs units [] (text_limit out) 0).at e))

-- The text of no.
pub writes_no : WritesNo
unfolding write_no no_text text_line join ascii
writes_no units out = short_reported (ascii "R\tno\t") units out

-- The text of spent.
pub writes_spent : WritesSpent
unfolding write_spent spent_text text_line join ascii
writes_spent budget out = short_reported (ascii "R\tspent\t") budget out

module _ (sheet t : List ℕ) (symbols nodes clauses goal : ℕ) (table : WellMade t nodes clauses goal) (named : Named t nodes symbols)
    (m : Made) (s : Store)
    (path : List (Line Leaf)) (stands : StandsAt t m proved_mode s path) (o : Orderly t nodes m s) (units : ℕ) where
  abbrev acts : ℕ
  acts = m.registers.acts

  -- `w` is the memory before the writer.
  abbrev w : List ℕ
  w = m.memory

  -- `ds` has the symbols of the sheet.
  abbrev ds : List Declaration
  ds = declarations_from sheet t symbols 0

  -- What the writer relies on holds.
  pub basis : Basis t symbols nodes w acts s
  basis = record {
    table = nodes_of_lem t nodes clauses goal table;
    size = table.few_nodes;
    named = named;
    few = o.few;
    room = o.room;
    variables = o.variables;
    formed = o.formed;
    fits = o.bindings;
    holds = stands.store.bindings;
    levels = stands.store.levels;
    free = o.unbound;
    words = o.words;
  }

  -- `order` is the path in the order taken.
  abbrev order : List PathLine
  order = reverse (path_lines acts w m.registers.path m.registers.line)

  -- The prepared memory has the links.
  ready : Prepared w s.next acts (prepare m) (first_link m) order
  ready = prepared m s.next o.room o.pointer o.path

  -- `lines` has the lines of the text.
  abbrev lines : List TextLine
  lines = answer_lines units (free_variables (goal_at t goal)) (final_environment s) (final_lines s path)

  -- The lines of the path in the order taken are those of the text.
  order_lines : map (line_shown w s) order ≡ map derivation_line (final_lines s path)
  unfolding final_lines
  order_lines =
      let P = path_lines acts w m.registers.path m.registers.line in
      sym (ap (λ (l : List (Line Leaf)). map derivation_line (map (put_line (final s)) (reverse l))) (sym stands.path
      ∙ lines_read acts w m.registers.path m.registers.line)
      ∙ ap (λ (l : List (Line Leaf)). map derivation_line (map (put_line (final s)) l)) (sym (reverse_map (line_of w) P []))
      ∙ ap (map derivation_line) (map_map (line_of w) (put_line (final s)) (reverse P))
      ∙ map_map (λ x. put_line (final s) (line_of w x)) derivation_line (reverse P))

  -- A pass goes through the tokens of the text.
  reach_pass : (limit : ℕ) (low : limit ≤ 65535) (g : Printer) → Alike 62 w g.memory
      → ((u : ℕ) → field g.memory u next_line_field ≡ field (prepare m) u next_line_field)
      → Reached sheet t symbols nodes w acts s basis limit low (tokens ds lines) g (proof_pass sheet t acts limit goal units (first_link m) g)
  unfolding proof_pass answer_lines tokens text_tokens free_variables
  reach_pass limit low g k f =
      let bs = tokens ds (map (λ v. binding_line v (final_environment s v)) (free_variables (goal_at t goal))) in
      let ls = tokens ds (map (line_shown w s) order) in
      let h = result_to limit g (ascii "R\tproved\t") units in
      let i = bindings_to sheet t acts limit 8 (mask_of t goal) 0 h in
      let x = map byte (ascii "R\tproved\t" ++ (decimal units ++ (lf ∷ []))) in
      let p = reach_result sheet t symbols nodes w acts s basis limit low (ascii "R\tproved\t") units g in
      let a = reach_alike sheet t symbols nodes w acts s basis limit low x g h p k in
      let kh = reach_kept sheet t symbols nodes w acts s basis limit low x g h p k in
      let q = reach_bindings sheet t symbols nodes w acts s basis limit low (goal_at t goal) 8 (mask_of t goal) 0 h (omega arith) o.goals
      (λ j l. (table.goal_node goal table.goal_there table.goal_is).free j l
      ∙ ap (free_g (goal_at t goal)) (let e : j ≡ 0 + j = omega arith in e)) kh
      in
      let b = reach_alike sheet t symbols nodes w acts s basis limit low bs h i q kh in
      let ki = reach_kept sheet t symbols nodes w acts s basis limit low bs h i q kh in
      let r = reach_lines sheet t symbols nodes w acts s basis limit low (prepare m) order acts
      (let y = lines_few acts w m.registers.path m.registers.line in let z =
      length-reverse (path_lines acts w m.registers.path m.registers.line) in omega arith)
      i (first_link m) ready.chain ki (λ u. b.fields u 62 (omega arith) (omega arith) ∙ a.fields u 62 (omega arith) (omega arith) ∙ f u)
      in
      reach_as sheet t symbols nodes w acts s basis limit low (x ++ (bs ++ ls)) (tokens ds lines) g _
      (ap (x ++◌) (ap (λ (l : List TextLine). bs ++ tokens ds l) order_lines
      ∙ sym (tokens_append ds (map (λ v. binding_line v (final_environment s v)) (free_variables (goal_at t goal)))
      (map derivation_line (final_lines s path)))))
      (reach_then sheet t symbols nodes w acts s basis limit low x (bs ++ ls) g h _ p
      (reach_then sheet t symbols nodes w acts s basis limit low bs ls h i _ q r))

  -- The text, and its renaming.
  abbrev renaming : Renaming
  renaming = numbering_of (signs (tokens ds lines))

  -- `text` has the bytes of the text.
  abbrev text : List ℕ
  text = spelled renaming (tokens ds lines)

  -- The bytes written are the text of the search.
  text_is : text ≡ search_text (decode_sheet sheet t symbols clauses goal) s path units
  unfolding search_text proof_text numbered decode_sheet
  text_is =
      ap (λ (l : List Symbol). spelled (numbering_of l) (tokens ds lines)) (tokens_signs ds lines)
      ∙ tokens_spelled ds lines (numbering_of (shown lines))

  -- The writer before the text: the path is linked, and nothing is numbered.
  abbrev begun : List ℕ → ℕ → Printer
  begun own at = printer (prepare m) own (cursor_from at)

  -- A pass begins with no number, at any position.
  first_numbered : (at : ℕ) → Numbered w s.next acts renaming 0 [] (prepare m) (cursor_from at)
  unfolding made_only leftover_only firsts has cell_number field_number constant_mark Variable Constant Right
  first_numbered at = record {
    alike = ready.alike;
    variables = record { marks = λ z r. variable z r; counts = refl };
    constants = record { marks = λ z r. constant z r; counts = refl };
    few_variables = omega arith;
    few_constants = omega arith;
  }
    where
      variable : (z : Symbol) → Variable w s.next acts z → cell_number (prepare m) z ≡ 0
      variable (made c k) r = refl
      variable (leftover x k) r = ready.cells x ∙ r.1

      constant : (z : Symbol) → Constant w s.next acts z → field_number (prepare m) 0 z ≡ 0
      constant (made c k) r = refl
      constant (leftover x k) r = refl

  module _ (limit : ℕ) (low : limit ≤ max_text_bytes) (own : List ℕ) (at : ℕ) where
    -- The pass.
    abbrev writing : Printer
    writing = proof_pass sheet t acts limit goal units (first_link m) (begun own at)

    -- The tokens of the text.
    abbrev spelling : Printer
    spelling = steps acts limit (tokens ds lines) (begun own at)

    -- The pass goes through the tokens.
    writing_reached : Reached sheet t symbols nodes w acts s basis limit low (tokens ds lines) (begun own at) writing
    writing_reached = reach_pass limit low (begun own at) ready.alike (λ u. refl)

    -- The tokens write the text, and number its symbols.
    spelling_wrote : Wrote w s.next acts renaming 0 limit (tokens ds lines) [] (begun own at) spelling
    spelling_wrote =
        steps_numbered w s.next acts renaming 0 o.room o.variables limit low (omega arith) (tokens ds lines) [] (begun own at)
        writing_reached.right (due_first [] (signs (tokens ds lines))) (λ l. first_numbered at)

    -- Where the tokens end is where the text does.
    spelling_end : spelling.cursor.at ≡ (write_bytes text own limit at).at
    spelling_end = ap (λ (x : Written). x.at) spelling_wrote.bytes

    -- A text that ends within the limit is written.
    writing_fits : (write_bytes text own limit at).at ≤ limit
        → written writing.buffer writing.cursor.at ≡ write_bytes text own limit at
    writing_fits h =
        ap (λ (p : Printer). written p.buffer p.cursor.at)
        (writing_reached.reaches.fits (subst (λ (n : ℕ). n ≤ limit) (sym spelling_end) h))
        ∙ spelling_wrote.bytes

    -- If the text ends past the limit, so does the pass.
    writing_past : limit < (write_bytes text own limit at).at → limit < writing.cursor.at
    writing_past h = writing_reached.reaches.over (subst (λ (n : ℕ). limit < n) (sym spelling_end) h)

    -- What is left of the memory.
    pub proof_alike : Alike 62 w (append_proof sheet t goal m units limit own at).memory
    unfolding append_proof
    proof_alike =
        reach_kept sheet t symbols nodes w acts s basis limit low (tokens ds lines) (begun own at) writing writing_reached ready.alike

  -- The text is written after what stands before it.
  proof_appended : (limit : ℕ) → limit ≤ max_text_bytes → (front rest : List ℕ) → length front ≤ limit → limit ≤ length (front ++ rest)
      → Appended limit front text rest (append_proof sheet t goal m units limit (front ++ rest) (length front)).buffer
      (append_proof sheet t goal m units limit (front ++ rest) (length front)).length
  unfolding append_proof
  proof_appended limit low front rest h room = record {
    bytes = λ f. ap (λ (x : Written). x.buffer) (fit f) ∙ a.bytes f;
    position = λ f. ap (λ (x : Written). x.at) (fit f) ∙ a.position f;
    past = λ f. writing_past limit low own at (a.past f);
    long = (writing_reached limit low own at).reaches.long;
  }
    where
      own : List ℕ
      own = front ++ rest

      at : ℕ
      at = length front

      a : Appended limit front text rest (write_bytes text own limit at).buffer (write_bytes text own limit at).at
      a = bytes_appended text limit low front rest h room

      fit : length front + length text ≤ limit
          → written (writing limit low own at).buffer (writing limit low own at).cursor.at ≡ write_bytes text own limit at
      fit f = writing_fits limit low own at (let e = a.position f in omega arith)

  -- What the writer leaves in the answer buffer.
  proof_reported : (out : List ℕ)
      → fitted (write_proof sheet t goal m units out).buffer (write_proof sheet t goal m units out).length ≡ reported_length text out
  unfolding write_proof own_bytes
  proof_reported out =
      let l = length-replicate {A = ℕ} max_text_bytes 0 in
      let r = limit_low out in
      appended_copied text own_bytes _ out _ (proof_appended (text_limit out) r [] own_bytes (omega arith) (omega arith))

-- The text of a proved search is written after what stands before it.
pub appends_proof : AppendsProof
appends_proof sheet t symbols nodes clauses goal table named m s path stands o units limit low front rest h room =
    subst (λ (x : List ℕ). Appended limit front x rest (append_proof sheet t goal m units limit (front ++ rest) (length front)).buffer
    (append_proof sheet t goal m units limit (front ++ rest) (length front)).length)
    (text_is sheet t symbols nodes clauses goal table named m s path stands o units)
    (proof_appended sheet t symbols nodes clauses goal table named m s path stands o units limit low front rest h room)

-- The writer writes the answer text of a proved search.
pub writes_proof : WritesProof
writes_proof sheet t symbols nodes clauses goal table named m s path stands o units out =
    proof_reported sheet t symbols nodes clauses goal table named m s path stands o units out
    ∙ ap (λ (x : List ℕ). reported_length x out) (text_is sheet t symbols nodes clauses goal table named m s path stands o units)
