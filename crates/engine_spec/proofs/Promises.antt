-- The promises of `specs/Promises.antt` about `engine_run`, kept. T1 is the code's to keep.
use Prim.Native.Nat.{ℕ, ◌≤◌}
use mathlib.Core.Path.{◌≡◌, sym, ◌∙◌, ap, subst}
use mathlib.Core.List.{List}
use lib.ListN.{length}
use Rattle.terms.specs.Lists.{All}
use Rattle.sheet_format.specs.Limits.{max_budget, max_text_bytes}
use Rattle.sheet_format.specs.Sheets.{Sheet, sheet, read_sheet}
use Rattle.sheet_format.proofs.Good.{good}
use Rattle.sheet_format.specs.FormerLines.{WithoutNumberLines}
use Rattle.sheet_format.proofs.FormerNames.{reads_as_before}
use Rattle.sheet_format.proofs.FormerLines.{reads_without_numbers}
use Rattle.answer_texts.specs.Spelled.{SpellsAsDeclared}
use Rattle.answer_texts.specs.FormerTexts.{SpellsBefore}
use Rattle.answer_texts.specs.Enumerations.{found_text, last_line, enumeration_text}
use Rattle.answer_texts.proofs.EnumerationPromises.{each_text_sound, each_text_before}
use Rattle.engine_spec.specs.EngineRun.{Request, Answer, Result, answered, enumeration_of, answer_to, engine_run_by}
use Rattle.engine_spec.specs.EngineRun.{engine_run, table_after, work_after, answer_after}
use Rattle.engine_spec.specs.Promises.{handed_back, ProofsIn, RunsAsBefore, AnswersAsBefore, RunsWithoutNumbers, AnswersWithoutNumbers}
use Rattle.engine_spec.specs.Promises.{RunSound, AllDemand2, AllDemand3}
use Rattle.engine_spec.specs.Promises.{BuffersDoNotMatter, CallersTold, ToldAgain, Retry, ToldMore}
use Rattle.engine_spec.proofs.Answered.{answered_answers}
use Rattle.engine_spec.proofs.Enumerated.{short_proofs_in}
use Rattle.engine_spec.proofs.Demand3.{demand2, demand3}
use Rattle.engine_spec.proofs.Buffers as Buffers
use Rattle.engine_spec.proofs.Callers.{proofs_handed, callers_told_lem, told_again_lem, told_retry, told_more_lem}

-- What holds of each proof found, within the limit of texts, holds of each proof in the text of an answer.
proofs_told : (P : Sheet → List ℕ → Type 0) (bytes : List ℕ) (ask : Request) (t w a : ℕ) (x : Answer)
    → engine_run bytes ask t w a ≡ answered x → ((s : Sheet) → read_sheet bytes ≡ sheet s → ask.budget ≤ max_budget
    → All (λ p. length (found_text s p) ≤ max_text_bytes → P s (found_text s p)) (enumeration_of s ask).found)
    → (s : Sheet) × (read_sheet bytes ≡ sheet s) × ProofsIn (P s) x.proofs x.text
unfolding answer_to enumeration_text
proofs_told P bytes ask t w a x e f =
    let r = answered_answers bytes ask t w a x e in
    let s = r.s in
    let q = enumeration_of s ask in
    let short : length (answer_to s ask.budget q).text ≤ max_text_bytes =
    subst (λ (y : Answer). length y.text ≤ max_text_bytes) r.is r.text_fits in (
      s,
      r.read,
      subst (λ (y : Answer). ProofsIn (P s) y.proofs y.text) (sym r.is)
          (short_proofs_in s (P s) q.found (last_line ask.budget q.end) max_text_bytes short (f s r.read r.passed.most)),
    )

-- T5: each proof in the text spells a derivation of an instance of the goal.
pub run_sound : RunSound
unfolding enumeration_of
run_sound bytes ask t w a x e =
    proofs_told SpellsAsDeclared bytes ask t w a x e (λ s read few. each_text_sound bytes s read ask.proofs ask.budget few)

-- Request W-201: the run on a sheet with small names is as before.
pub runs_as_before : RunsAsBefore
unfolding engine_run engine_run_by
runs_as_before bytes h ask t w a = rw (reads_as_before bytes h)

-- So are what is handed back and the lent buffers.
pub answers_as_before : AnswersAsBefore
answers_as_before bytes h ask table work answer table' work' answer' r c =
    let e = runs_as_before bytes h ask (length table) (length work) (length answer) in (
      c.value ∙ ap handed_back e,
      c.table_end ∙ ap (λ (x : Result). table_after x table) e,
      c.work_end ∙ ap (λ (x : Result). work_after x ask.budget work) e,
      c.answer_end ∙ ap (λ (x : Result). answer_after x answer) e,
    )

-- Request W-204: the run on a sheet without N lines is as before.
pub runs_without_numbers : RunsWithoutNumbers
unfolding engine_run engine_run_by
runs_without_numbers bytes h ask t w a = rw (reads_without_numbers bytes h)

-- No proof in the text holds a number then.
run_before : (bytes : List ℕ) → WithoutNumberLines bytes → (ask : Request) (t w a : ℕ) (x : Answer) → engine_run bytes ask t w a ≡ answered x
    → (s : Sheet) × (read_sheet bytes ≡ sheet s) × ProofsIn (SpellsBefore (λ b c. b ≡ c) s) x.proofs x.text
unfolding enumeration_of
run_before bytes free ask t w a x e =
    proofs_told (SpellsBefore (λ b c. b ≡ c)) bytes ask t w a x e
    (λ s read few. each_text_before bytes s read free ask.proofs ask.budget few)

-- So are what is handed back and the lent buffers.
pub answers_without_numbers : AnswersWithoutNumbers
answers_without_numbers bytes h ask table work answer table' work' answer' r c =
    let e = runs_without_numbers bytes h ask (length table) (length work) (length answer) in (
      c.value ∙ ap handed_back e,
      c.table_end ∙ ap (λ (x : Result). table_after x table) e,
      c.work_end ∙ ap (λ (x : Result). work_after x ask.budget work) e,
      c.answer_end ∙ ap (λ (x : Result). answer_after x answer) e,
      proofs_handed bytes ask table work answer table' work' answer' r c (SpellsBefore (λ b c. b ≡ c))
          (run_before bytes h ask (length table) (length work) (length answer)),
    )

-- T4: the run follows the derivation steps of CS-1992-17, for every sheet.
pub all_demand2 : AllDemand2
all_demand2 bytes s read = let g = good bytes s read in demand2 bytes s read g.clauses_closed g.goal_free

-- T8: demand 3 holds of every sheet.
pub all_demand3 : AllDemand3
all_demand3 bytes s read = let g = good bytes s read in demand3 bytes s read g.clauses_closed g.goal_free

-- T10: what the lent buffers held before changes nothing in the result or the text.
pub buffers_do_not_matter : BuffersDoNotMatter
buffers_do_not_matter = Buffers.buffers_do_not_matter

-- T4, T5 and T8 hold for callers, in the numbers handed back.
pub callers_told : CallersTold
callers_told = callers_told_lem run_sound all_demand2 all_demand3

pub told_again : ToldAgain
told_again = told_again_lem all_demand3

pub retry : Retry
retry = told_retry all_demand3

pub told_more : ToldMore
told_more = told_more_lem all_demand3
