-- A run that passes refusals 1 to 5 and 13: what the reader, the machine and the writer do together is what document 01 says of the sheet.
use Prim.Native.Nat.{ℕ, zero, suc, min, ◌+◌, ◌-◌, ◌≤◌, ◌<◌}
use native.Mathlib.Omega.{arith}
use mathlib.Core.Path.{◌≡◌, refl, sym, ◌∙◌, ap, ap₂, subst}
use mathlib.Core.Bool.{Bool, true, false, ◌||◌, cond}
use mathlib.Core.List.{List, [], ◌∷◌, ◌++◌}
use lib.Dec.{eqb, leb, ltb}
use lib.ListN.{length, drop, length-append, length-replicate}
use borrow.Author.Tests.{leb-true, leb-false, ltb-true, ltb-false, eqb-true, lt-ltb, le-ltb, eq-eqb, ne_eqb, lt-leb}
use Rattle.outcomes.specs.declared.Refusal.{Refusal}
use Rattle.outcomes.specs.declared.Request.{Request}
use Rattle.outcomes.specs.declared.Outcome.{Outcome}
use Rattle.outcomes.specs.declared.Outcome.TheVariants.{Proved, No, Spent}
use Rattle.outcomes.specs.declared.Run.{Run}
use Rattle.outcomes.specs.Outcomes.{outcome_code, refusal_number, refusal_line, refused_run}
use Rattle.search.specs.Search.{proved, no_proof, ends, spent, start, SearchOutcome, search}
use Rattle.enumeration.specs.Enumeration.{End, enough, exhausted, units_spent, Enumeration, next_proof, enumerate, enumerate_from}
use Rattle.enumeration.specs.Smaller.{one_proof}
use Rattle.enumeration.proofs.Promises.{one_proof as one_proof_lem}
use Rattle.sheet_format.specs.Limits.{max_budget, max_text_bytes}
use Rattle.sheet_format.specs.Buffers.{demanded}
use Rattle.sheet_format.specs.Bytes.{ascii, lf, decimal}
use Rattle.sheet_format.specs.Sheets.{Sheet, rules_of}
use Rattle.node_table.specs.Decoding.{decode_sheet}
use Rattle.node_table.specs.WellMade.{WellMade, Named}
use Rattle.table_builder.specs.declared.node_info.Counts.{Counts}
use Rattle.std.specs.Prelude.{Ok, Err}
use Rattle.sheet_reader.specs.Reader.{Read, read_of, WellRead, NamedRead, ReadContract}
use Rattle.machine.specs.Records.{Made, proved_mode, no_mode}
use Rattle.machine.specs.Machine.{start_memory, start_registers, run_machine}
use Rattle.machine.specs.Simulation.{Reports}
use Rattle.machine.proofs.Tables.{Table}
use Rattle.machine.proofs.Lengths.{keeps_length}
use Rattle.machine.proofs.Simulation.{start_length, told}
use Rattle.machine.proofs.Promises.{machine_reports}
use Rattle.answer_texts.specs.Spelling.{no_text, spent_text, text_line, join}
use Rattle.answer_texts.specs.Promises.{search_text}
use Rattle.answer_texts.specs.Enumerations.{found_text, found_texts, last_line, enumeration_text}
use Rattle.printing.specs.Output.{Written, written}
use Rattle.std.specs.Prelude.{Option, Some, None}
use Rattle.printing.specs.Writer.{Fitted, fitted, text_limit, own_bytes, append_result, copied, write_proof}
use Rattle.printing.specs.Written.{Appended, reported_length}
use Rattle.printing.proofs.Passes.{limit_low, copied_fits, copied_past, result_past, appends_result, writes_no, writes_spent}
use Rattle.printing.proofs.Ordered.{writes_answer}
use Rattle.engine_spec.specs.EngineRun.{Reported, reported_proved, reported_no, reported_spent, Answer, Result, enumeration_of, last_outcome, last_units}
use Rattle.engine_spec.specs.EngineRun.{last_proof_units, answer_to, fit, run_sheet, answer_after}
use Rattle.engine_spec.specs.Promises.{outcome_number, handed_back}
use Rattle.engine_spec.specs.Handed.{asked, handed}
use Rattle.engine.specs.declared.listing.Query.{Query}
use Rattle.engine.specs.Answering.{reported, Reply, reply, report_outcome, Answering}
use Rattle.engine.specs.Listing.{Listed, write_last, tell, report_proofs}
use Rattle.engine.specs.Searching.{report_search}
use Rattle.engine.proofs.ListedProofs.{EndsAs, ListedAs, write_listed}

-- The result, handed back and in the answer buffer.
record Comes (out : List ℕ) (e : Reply) (r : Result) : Type 0 where
  value : handed e.run ≡ handed_back r
  buffer : e.buffer ≡ answer_after r out

-- Refusal 12 arises exactly if the writer finds no room.
over : (n a b : ℕ) → min a b < n → ltb a n || ltb b n ≡ true
over n a b h = go (ltb a n) refl
  where
    go : (c : Bool) → ltb a n ≡ c → c || ltb b n ≡ true
    go true q = refl
    go false q = let l = ltb-false a n q in lt-ltb b n (omega arith)

-- A text that does not fit: refusal 12, whatever was to be told.
long_comes : (o : Outcome) (units proofs : ℕ) (x : Answer) (out : List ℕ) → text_limit out < length x.text
    → Comes out (reply (reported_length x.text out).buffer (reported o units proofs (reported_length x.text out).length)) (fit (length out) x)
unfolding reported_length reported fit handed handed_back answer_after text_limit outcome_code refusal_number refusal_line
long_comes o units proofs x out h =
    let k = over (length x.text) max_text_bytes (length out) h in
    let l = lt-leb (length x.text) (min max_text_bytes (length out)) h in
    record { value = rw (k, l); buffer = rw (k, l) }

told_comes : (o : Outcome) (c : Reported) (units proofs : ℕ) (text out : List ℕ) → outcome_code o ≡ outcome_number c → refusal_number o ≡ 0
    → refusal_line o ≡ 0
    → Comes out (reply (reported_length text out).buffer (reported o units proofs (reported_length text out).length))
    (fit (length out) (record { outcome = c; units = units; proofs = proofs; text = text }))
unfolding reported_length reported fit handed handed_back answer_after text_limit outcome_code refusal_number refusal_line
told_comes o c units proofs text out oc on ol = go (leb (length text) (min max_text_bytes (length out))) refl
  where
    x : Answer
    x = record { outcome = c; units = units; proofs = proofs; text = text }

    short : Bool → Fitted
    short b = cond b (fitted (text ++ drop (length text) out) (Some (length text))) (fitted out None)

    go : (b : Bool) → leb (length text) (min max_text_bytes (length out)) ≡ b
        → Comes out (reply (short b).buffer (reported o units proofs (short b).length)) (fit (length out) x)
    go true q =
        let l = leb-true (length text) (min max_text_bytes (length out)) q in
        let h : length text ≤ max_text_bytes = omega arith in
        let k : length text ≤ length out = omega arith in
        record {
          value = rw (le-ltb max_text_bytes (length text) h, le-ltb (length out) (length text) k, oc, on, ol);
          buffer = rw (le-ltb max_text_bytes (length text) h, le-ltb (length out) (length text) k);
        }
    go false q =
        let l = leb-false (length text) (min max_text_bytes (length out)) q in
        let h = over (length text) max_text_bytes (length out) l in
        record {
          value = rw h;
          buffer = rw h;
        }

-- The answer for one proof, by the outcome of the search.
unfoldable answer_once : Sheet → ℕ → SearchOutcome → Answer
answer_once s budget (ends (proved store path) n) =
    record { outcome = reported_proved; units = n; proofs = 1; text = search_text s store path n }
answer_once s budget (ends no_proof n) = record { outcome = reported_no; units = n; proofs = 0; text = no_text n }
answer_once s budget spent = record { outcome = reported_spent; units = budget; proofs = 0; text = spent_text budget }

append_none : (x : List ℕ) → x ++ [] ≡ x
append_none [] = refl
append_none (a ∷ x) = ap (a ∷◌) (append_none x)

once_is : (s : Sheet) (budget : ℕ) (o : SearchOutcome) → answer_to s budget (one_proof o) ≡ answer_once s budget o
unfolding answer_to answer_once one_proof last_outcome last_units last_proof_units enumeration_text found_texts found_text last_line
once_is s budget (ends (proved store path) n) =
    ap (λ (text : List ℕ). record { outcome = reported_proved; units = n; proofs = 1; text = text })
    (append_none (search_text s store path n ++ []) ∙ append_none (search_text s store path n))
once_is s budget (ends no_proof n) = refl
once_is s budget spent = refl

-- The table stands for a sheet.
module _ (bytes t : List ℕ) (k : Counts) (goal : ℕ) (table : WellMade t k.nodes k.clauses goal)
    (named : Named t k.nodes k.symbols) (budget : ℕ) (few : budget ≤ max_budget) (w out : List ℕ)
    (room : demanded budget ≤ length w) where
  s : Sheet
  s = decode_sheet bytes t k.symbols k.clauses goal

  m : Made
  m = run_machine budget t k.clauses goal w

  -- Where the machine has proved the goal, its acts are the units told.
  proved_told : (n : ℕ) (text : List ℕ) → m.registers.mode ≡ proved_mode → m.registers.acts ≡ n
      → fitted (write_proof bytes t goal m n out).buffer (write_proof bytes t goal m n out).length ≡ reported_length text out
      → Comes out (report_outcome bytes t goal budget m out)
      (fit (length out) (record { outcome = reported_proved; units = n; proofs = 1; text = text }))
  unfolding report_outcome outcome_number outcome_code refusal_number refusal_line
  proved_told n text mode acts e =
      let a = m.registers.acts in
      let e' : fitted (write_proof bytes t goal m a out).buffer (write_proof bytes t goal m a out).length ≡ reported_length text out =
      subst (λ (i : ℕ). fitted (write_proof bytes t goal m i out).buffer
      (write_proof bytes t goal m i out).length ≡ reported_length text out) (sym acts) e in
      subst (λ (i : ℕ). Comes out (report_outcome bytes t goal budget m out)
      (fit (length out) (record { outcome = reported_proved; units = i; proofs = 1; text = text }))) acts
      (rw (eq-eqb m.registers.mode proved_mode mode)
      (subst (λ (x : Fitted). Comes out (reply x.buffer (reported Proved a 1 x.length))
      (fit (length out) (record { outcome = reported_proved; units = a; proofs = 1; text = text }))) (sym e')
      (told_comes Proved reported_proved a 1 text out refl refl refl)))

  -- Each outcome of the search is told and written.
  outcome_told : (o : SearchOutcome) → search budget (rules_of s) s.goal ≡ o → Reports t m o
      → Comes out (report_outcome bytes t goal budget m out) (fit (length out) (answer_once s budget o))
  unfolding Reports report_outcome answer_once demanded decode_sheet s m outcome_number outcome_code refusal_number refusal_line
  outcome_told (ends (proved st path) n) q h =
      proved_told n (search_text s st path n) h.0.mode h.1
      (writes_answer bytes t k.symbols k.nodes k.clauses goal table named budget few w room st path n q out)
  outcome_told (ends no_proof n) q h =
      rw (h.0, h.1, writes_no n out) (told_comes No reported_no n 0 (no_text n) out refl refl refl)
  outcome_told spent q h =
      rw (
        ne_eqb m.registers.mode proved_mode (λ e. omega arith),
        ne_eqb m.registers.mode no_mode (λ e. omega arith),
        writes_spent budget out,
      ) (told_comes Spent reported_spent budget 0 (spent_text budget) out refl refl refl)

  -- One proof: the first verdict is told.
  once_told : Comes out (report_outcome bytes t goal budget m out)
      (fit (length out) (answer_to s budget (enumerate 1 budget (rules_of s) s.goal)))
  unfolding s m demanded
  once_told =
      subst (λ (a : Answer). Comes out (report_outcome bytes t goal budget m out) (fit (length out) a))
      (sym (ap (answer_to s budget) (one_proof_lem (rules_of s) s.goal budget) ∙ once_is s budget (search budget (rules_of s) s.goal)))
      (outcome_told (search budget (rules_of s) s.goal) refl
      (machine_reports bytes t k.symbols k.nodes k.clauses goal s (record { made = table; decoded = refl }) budget few w room))

  -- What is searched for.
  abbrev query : ℕ → Query
  query wanted = record { clauses = k.clauses; goal = goal; budget = budget; proofs = wanted }

  -- The texts of an enumeration and the line after them are copied if all of it fits; outcome and units are those of the last line.
  module _ (wanted : ℕ) (e : Enumeration) (l : Listed) where
    abbrev limit : ℕ
    limit = text_limit out

    abbrev texts : List ℕ
    texts = found_texts s e.found

    -- The position after the line is past the limit if it was before.
    last_past : limit < l.progress.at → limit < (write_last budget l.progress l.buffer limit).at
    unfolding write_last
    last_past h = go (eqb l.progress.left 0) (eqb l.progress.registers.mode no_mode)
      where
        at : ℕ
        at = l.progress.at

        go : (b c : Bool)
            → limit < (cond b (written l.buffer at) (cond c (append_result (ascii "R\tno\t") l.progress.registers.acts l.buffer limit at)
            (append_result (ascii "R\tspent\t") budget l.buffer limit at))).at
        go true c = h
        go false true = rw (result_past (ascii "R\tno\t") l.progress.registers.acts l.buffer limit l.progress.at h) h
        go false false = rw (result_past (ascii "R\tspent\t") budget l.buffer limit l.progress.at h) h

    -- What is told where nothing was copied.
    tell_long : (text : List ℕ) → limit < length text → (x : Answer) → x.text ≡ text
        → Comes out (reply (reported_length text out).buffer (tell (query wanted) l.progress (reported_length text out).length)) (fit (length out) x)
    unfolding tell
    tell_long text h x q =
        subst (λ (v : List ℕ). Comes out (reply (reported_length v out).buffer (tell (query wanted) l.progress (reported_length v out).length))
        (fit (length out) x)) q (go (eqb l.progress.left 0) (eqb l.progress.registers.mode no_mode))
      where
        long : text_limit out < length x.text
        long = subst (λ (v : List ℕ). text_limit out < length v) (sym q) h

        n : Option ℕ
        n = (reported_length x.text out).length

        go : (b c : Bool)
            → Comes out (reply (reported_length x.text out).buffer (cond b (reported Proved l.progress.registers.acts
            (wanted - l.progress.left) n) (cond c (reported No l.progress.registers.acts (wanted - l.progress.left) n)
            (reported Spent budget (wanted - l.progress.left) n)))) (fit (length out) x)
        go true c = long_comes Proved _ _ x out long
        go false true = long_comes No _ _ x out long
        go false false = long_comes Spent _ _ x out long

    -- The line after the last proof, appended to texts that fit.
    last_copied : (line rest : List ℕ) (bs : List ℕ) (u : ℕ) → line ≡ bs ++ (decimal u ++ (lf ∷ [])) → length texts ≤ limit
        → limit ≤ length (texts ++ rest) → l.buffer ≡ texts ++ rest → l.progress.at ≡ length texts
        → (x : Written) → x ≡ append_result bs u l.buffer limit l.progress.at
        → copied limit x.buffer x.at out ≡ reported_length (texts ++ line) out
    last_copied line rest bs u q h r own at x z =
        let y : x ≡ append_result bs u (texts ++ rest) limit (length texts) = z
        ∙ ap₂ (λ (o : List ℕ) (n : ℕ). append_result bs u o limit n) own at in
        let a = subst (λ (v : Written). Appended limit texts (bs ++ (decimal u ++ (lf ∷ []))) rest v.buffer v.at) (sym y)
        (appends_result bs u limit (limit_low out) texts rest h r) in
        go (subst (λ (v : List ℕ). Appended limit texts v rest x.buffer x.at) (sym q) a)
        (ltb limit (length texts + length line)) refl
      where
        n : length (texts ++ line) ≡ length texts + length line
        n = length-append texts line

        go : Appended (text_limit out) (found_texts s e.found) line rest x.buffer x.at → (b : Bool)
            → ltb (text_limit out) (length (found_texts s e.found) + length line) ≡ b
            → copied (text_limit out) x.buffer x.at out ≡ reported_length (found_texts s e.found ++ line) out
        go a true i =
            let long = ltb-true (text_limit out) (length texts + length line) i in
            let j = n in
            copied_past (texts ++ line) x.buffer out x.at (omega arith) (a.past long)
        go a false i =
            let fits = ltb-false (text_limit out) (length texts + length line) i in
            let j = n in
            ap₂ (λ (o : List ℕ) (p : ℕ). copied limit o p out)
            (a.bytes fits ∙ sym (assoc texts line (drop (length line) rest))) (a.position fits ∙ sym n)
            ∙ copied_fits (texts ++ line) (drop (length line) rest) out (omega arith)
          where
            assoc : (x y z : List ℕ) → (x ++ y) ++ z ≡ x ++ (y ++ z)
            assoc [] y z = refl
            assoc (a ∷ x) y z = ap (a ∷◌) (assoc x y z)

    -- What is told of an enumeration whose texts fit, by its end.
    told_ended : (rest : List ℕ) → length texts ≤ limit → limit ≤ length (texts ++ rest) → l.buffer ≡ texts ++ rest
        → l.progress.at ≡ length texts → l.progress.left + length e.found ≡ wanted → (x : End) → EndsAs x e.found l.progress
        → let c = write_last budget l.progress l.buffer limit in
        let d = copied limit c.buffer c.at out in
        Comes out (reply d.buffer (tell (query wanted) l.progress d.length))
        (fit (length out) (answer_to s budget (record { found = e.found; end = x })))
    unfolding EndsAs write_last tell answer_to enumeration_text last_line last_outcome last_units outcome_code outcome_number refusal_number refusal_line
        no_text spent_text text_line join ascii
    told_ended rest h r own at n enough z =
        let d : copied limit l.buffer l.progress.at out ≡ reported_length (texts ++ []) out =
        ap₂ (λ (o : List ℕ) (i : ℕ). copied limit o i out) own at ∙ copied_fits texts rest out h
        ∙ ap (λ (v : List ℕ). reported_length v out) (sym (append_none texts)) in
        let f : wanted - l.progress.left ≡ length e.found = (let y = z.0 in omega arith) in
        rw (eq-eqb l.progress.left 0 z.0, d, f, z.1)
        (told_comes Proved reported_proved (last_proof_units e.found) (length e.found) (texts ++ []) out refl refl refl)
    told_ended rest h r own at n (exhausted u) z =
        let f : wanted - l.progress.left ≡ length e.found = omega arith in
        let y = z.0 in
        let d = last_copied (no_text u) rest (ascii "R\tno\t") u refl h r own at
        (append_result (ascii "R\tno\t") u l.buffer limit l.progress.at) refl in
        rw (ne_eqb l.progress.left 0 (λ i. omega arith), eq-eqb l.progress.registers.mode no_mode z.1, z.2, d, f)
        (told_comes No reported_no u (length e.found) (texts ++ no_text u) out refl refl refl)
    told_ended rest h r own at n units_spent z =
        let f : wanted - l.progress.left ≡ length e.found = omega arith in
        let y = z.0 in
        let g = z.1 in
        let d = last_copied (spent_text budget) rest (ascii "R\tspent\t") budget refl h r own at
        (append_result (ascii "R\tspent\t") budget l.buffer limit l.progress.at) refl in
        rw (ne_eqb l.progress.left 0 (λ i. omega arith), ne_eqb l.progress.registers.mode no_mode (λ i. omega arith), d, f)
        (told_comes Spent reported_spent budget (length e.found) (texts ++ spent_text budget) out refl refl refl)

    -- Whether or not they fit.
    told_listed : ListedAs bytes t k.symbols k.nodes (query wanted) table named few (text_limit out) (limit_low out) wanted max_text_bytes e [] l
        → let c = write_last budget l.progress l.buffer limit in
        let d = copied limit c.buffer c.at out in
        Comes out (reply d.buffer (tell (query wanted) l.progress d.length)) (fit (length out) (answer_to s budget e))
    unfolding s answer_to enumeration_text
    told_listed h = go (ltb limit (length texts)) refl
      where
        line : List ℕ
        line = last_line budget e.end

        c : Written
        c = write_last budget l.progress l.buffer limit

        go : (b : Bool) → ltb (text_limit out) (length (found_texts s e.found)) ≡ b
            → Comes out (reply (copied limit c.buffer c.at out).buffer (tell (query wanted) l.progress
            (copied limit c.buffer c.at out).length)) (fit (length out) (answer_to s budget e))
        go true i =
            let long = ltb-true limit (length texts) i in
            let n = length-append texts line in
            let at = last_past (h.past (omega arith)) in
            rw (copied_past (texts ++ line) c.buffer out c.at (omega arith) at)
            (tell_long (texts ++ line) (omega arith) (answer_to s budget e) refl)
        go false i =
            let fits = ltb-false limit (length texts) i in
            let r = h.bytes (omega arith) in
            let low = limit_low out in
            let size = ap length (sym r.1) ∙ h.long in
            let z : 0 + length texts ≡ length texts = omega arith in
            told_ended r.0 fits (omega arith) r.1 (h.position (omega arith) ∙ z) (h.left (omega arith)) e.end (h.ended (omega arith))

  -- All proofs that are wanted are told.
  proofs_told : (wanted : ℕ) → 1 ≤ wanted
      → Comes out (report_proofs bytes t (query wanted) m out) (fit (length out) (answer_to s budget (enumerate wanted budget (rules_of s) s.goal)))
  unfolding report_proofs s m demanded enumerate enumerate_from decode_sheet own_bytes run_machine
  proofs_told zero h = absurd (omega arith)
  proofs_told (suc wanted) h =
      let T : Table = record { numbers = t; nodes = k.nodes; clauses = k.clauses; goal = goal; made = table } in
      let z = keeps_length budget t k.clauses (start_memory w) (start_registers goal) ∙ start_length w in
      let low = limit_low out in
      told_listed (suc wanted) (enumerate (suc wanted) budget (rules_of s) s.goal) _
      (write_listed bytes t k.symbols k.nodes (query (suc wanted)) table named few (text_limit out) (limit_low out) wanted max_text_bytes m
      (next_proof budget 0 (start (rules_of s) s.goal)) [] own_bytes (length-replicate {A = ℕ} max_text_bytes 0) (omega arith) low
      (omega arith) (told T budget few w room))

-- A sheet that was read: what is told of the search.
pub sheet_answers : (bytes t t' : List ℕ) (x : Read) (k : Counts) (goal : ℕ) (ask : Request) (w out out' : List ℕ) (r : Run)
    → ReadContract bytes t t' x → x ≡ Ok (k, goal) → ask.budget ≤ max_budget → 1 ≤ ask.proofs → demanded ask.budget ≤ length w
    → reply out' r ≡ report_search bytes t' (record { clauses = k.clauses; goal = goal; budget = ask.budget; proofs = ask.proofs })
    (run_machine ask.budget t' k.clauses goal w) out → Answering bytes ask out out' r
unfolding read_of WellRead NamedRead run_sheet s m asked enumeration_of report_search
sheet_answers bytes t t' x k goal ask w out out' r c e few one room d =
    let z = subst (ReadContract bytes t t') e c in
    let s' = decode_sheet bytes t' k.symbols k.clauses goal in
    let g = subst
    (λ (y : Reply). Comes out y
    (fit (length out) (answer_to s' ask.budget (enumerate ask.proofs ask.budget (rules_of s') s'.goal)))) (sym d)
    (go z.well_made z.named (eqb ask.proofs 1) refl) in
    record { value = rw z.read g.value; answer_end = rw z.read g.buffer }
  where
    Told : Reply → ℕ → Type 0
    Told y wanted = Comes out y
        (fit (length out) (answer_to (decode_sheet bytes t' k.symbols k.clauses goal) ask.budget
        (enumerate wanted ask.budget (rules_of (decode_sheet bytes t' k.symbols k.clauses goal))
        (decode_sheet bytes t' k.symbols k.clauses goal).goal)))

    q : Query
    q = record { clauses = k.clauses; goal = goal; budget = ask.budget; proofs = ask.proofs }

    M : Made
    M = run_machine ask.budget t' k.clauses goal w

    go : WellMade t' k.nodes k.clauses goal → Named t' k.nodes k.symbols → (b : Bool) → eqb ask.proofs 1 ≡ b
        → Told (cond b (report_outcome bytes t' goal ask.budget M out) (report_proofs bytes t' q M out)) ask.proofs
    go table named true i =
        subst (λ (n : ℕ). Told (report_outcome bytes t' goal ask.budget M out) n) (sym (eqb-true ask.proofs 1 i))
        (once_told bytes t' k goal table named ask.budget few w out room)
    go table named false i = proofs_told bytes t' k goal table named ask.budget few w out room ask.proofs one

-- Refusals 6 to 11.
pub refusal_answers : (bytes t t' : List ℕ) (x : Read) (f : Refusal) (ask : Request) (out : List ℕ) (r : Run) → ReadContract bytes t t' x
    → x ≡ Err f → r ≡ refused_run f.number f.line → Answering bytes ask out out r
unfolding read_of run_sheet handed handed_back answer_after outcome_code refusal_number refusal_line
refusal_answers bytes t t' x f ask out r c e d =
    let z = subst (ReadContract bytes t t') e c in
    record { value = rw (d, z.read); answer_end = rw z.read }
