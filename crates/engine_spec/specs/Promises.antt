-- Promises T1, T5, T8 and T10 about the engine's run (demands 1 to 3), and requests W-201, W-202 and W-204 of the run.
use Rattle.std.specs.Prelude.{ℕ, ◌≤◌, ◌<◌, ◌≡◌, cond, List, [], ◌∷◌, ◌++◌, map, reverse, ◌⊎◌, ◌↔◌, eqb, length, take}
use Rattle.std.proofs.Math.Option.{none}
use Rattle.terms.specs.Lists.{All, Mem}
use Rattle.sequents.specs.Symbols.{Symbol}
use Rattle.sequents.specs.Sequents.{Environment}
use Rattle.sequents.specs.Derivations.{lines, InstanceDerivation}
use Rattle.search.specs.Search.{after, Verdict, proved, no_proof, verdict_of, ComesTo}
use Rattle.search.specs.Promises.{WellFormed, FollowsSteps}
use Rattle.enumeration.specs.Enumeration.{Proof, exhausted, Enumeration}
use Rattle.enumeration.specs.GoingOn.{state_after}
use Rattle.enumeration.specs.Scripts.{bare}
use Rattle.enumeration.specs.Promises.{PathsFound, Climbs}
use Rattle.sheet_format.specs.Limits.{table_numbers, max_budget}
use Rattle.sheet_format.specs.Buffers.{demanded}
use Rattle.sheet_format.specs.Sheets.{Sheet, rules_of, Refusal, sheet, read_sheet_by, read_sheet}
use Rattle.sheet_format.specs.FormerNames.{former_form, NamesInSmallLetters}
use Rattle.sheet_format.specs.FormerLines.{form_without_numbers, WithoutNumberLines}
use Rattle.answer_texts.specs.Spelling.{no_text, spent_text}
use Rattle.answer_texts.specs.Spelled.{SpellsAsDeclared}
use Rattle.answer_texts.specs.FormerTexts.{SpellsBefore}
use Rattle.answer_texts.specs.Promises.{search_text, DerivesText}
use Rattle.answer_texts.specs.Enumerations.{enumeration_text}
use Rattle.engine_spec.specs.EngineRun.{Request, Reported, reported_proved, reported_no, reported_spent, Answer, Result, answered}
use Rattle.engine_spec.specs.EngineRun.{turned_back, enumeration_of, answer_to, engine_run_by, engine_run}
use Rattle.engine_spec.specs.EngineRun.{table_after, work_after, answer_after}

-- What the run hands back, in document 01's numbers: 0 proved, 1 no, 2 spent, 3 refused; units, number of proofs and text length, all 0
-- where it is refused; refusal number and line, both 0 where it is not.
pub record HandedBack : Type 0 where
  pub outcome : ℕ
  pub units : ℕ
  pub proofs : ℕ
  pub length : ℕ
  pub number : ℕ
  pub line : ℕ

unfoldable pub outcome_number : Reported → ℕ
outcome_number reported_proved = 0
outcome_number reported_no = 1
outcome_number reported_spent = 2

unfoldable pub handed_back : Result → HandedBack
handed_back (answered a) = record {
  outcome = outcome_number a.outcome;
  units = a.units;
  proofs = a.proofs;
  length = length a.text;
  number = 0;
  line = 0;
}
handed_back (turned_back r) = record { outcome = 3; units = 0; proofs = 0; length = 0; number = r.number; line = r.line }

-- Texts one after another, and a line after the last one.
unfoldable pub join_texts : List (List ℕ) → List ℕ → List ℕ
join_texts [] line = line
join_texts (t ∷ ts) line = t ++ join_texts ts line

-- T1, demand 1: what the run hands back and what each lent buffer then holds. `run` promises this for every input.
pub record RunContract (bytes : List ℕ) (ask : Request) (table work answer table' work' answer' : List ℕ) (r : HandedBack) : Type 0 where
  pub value : r ≡ handed_back (engine_run bytes ask (length table) (length work) (length answer))
  pub table_end : table' ≡ table_after (engine_run bytes ask (length table) (length work) (length answer)) table
  pub work_end : work' ≡ work_after (engine_run bytes ask (length table) (length work) (length answer)) ask.budget work
  pub answer_end : answer' ≡ answer_after (engine_run bytes ask (length table) (length work) (length answer)) answer

-- Request W-202: "The checker takes each proof by itself": the text is that of so many proofs, P holding of each by itself, and of a line
-- after the last one.
pub record ProofsIn (P : List ℕ → Type 0) (number : ℕ) (text : List ℕ) : Type 0 where
  pub proofs : List (List ℕ)
  pub counted : length proofs ≡ number
  pub each : All P proofs
  pub line : List ℕ
  pub joined : text ≡ join_texts proofs line

-- Request W-201: "The engine answers sheets with names all in small letters as before." The run is the same.
abbrev pub RunsAsBefore : Type 0
RunsAsBefore = (bytes : List ℕ) → NamesInSmallLetters bytes → (ask : Request) (t w a : ℕ)
    → engine_run bytes ask t w a ≡ engine_run_by (read_sheet_by former_form) bytes ask t w a

-- So is what a caller is handed back, and what each lent buffer then holds.
abbrev pub AnswersAsBefore : Type 0
AnswersAsBefore =
    (bytes : List ℕ) → NamesInSmallLetters bytes → (ask : Request) (table work answer table' work' answer' : List ℕ) (r : HandedBack)
    → RunContract bytes ask table work answer table' work' answer' r
    → let former = engine_run_by (read_sheet_by former_form) bytes ask (length table) (length work) (length answer) in
    (r ≡ handed_back former) × (table' ≡ table_after former table) × (work' ≡ work_after former ask.budget work)
    × (answer' ≡ answer_after former answer)

-- Request W-204: on a sheet without N lines the run is as before,
abbrev pub RunsWithoutNumbers : Type 0
RunsWithoutNumbers = (bytes : List ℕ) → WithoutNumberLines bytes → (ask : Request) (t w a : ℕ)
    → engine_run bytes ask t w a ≡ engine_run_by (read_sheet_by form_without_numbers) bytes ask t w a

-- and so are what a caller is handed back and what each lent buffer then holds; in no proof of the text does a number stand as a term.
abbrev pub AnswersWithoutNumbers : Type 0
AnswersWithoutNumbers =
    (bytes : List ℕ) → WithoutNumberLines bytes → (ask : Request) (table work answer table' work' answer' : List ℕ) (r : HandedBack)
    → RunContract bytes ask table work answer table' work' answer' r
    → let former = engine_run_by (read_sheet_by form_without_numbers) bytes ask (length table) (length work) (length answer) in
    (r ≡ handed_back former) × (table' ≡ table_after former table) × (work' ≡ work_after former ask.budget work)
    × (answer' ≡ answer_after former answer)
    × ((s : Sheet) → read_sheet bytes ≡ sheet s → r.outcome ≤ 2
    → ProofsIn (SpellsBefore (λ a b. a ≡ b) s) r.proofs (take r.length answer'))

-- T5 of the run: each proof in the text spells a derivation of an instance of the goal, names as declared (request W-201).
abbrev pub RunSound : Type 0
RunSound = (bytes : List ℕ) (ask : Request) (t w a : ℕ) (x : Answer) → engine_run bytes ask t w a ≡ answered x
    → (s : Sheet) × (read_sheet bytes ≡ sheet s) × ProofsIn (SpellsAsDeclared s) x.proofs x.text

-- Request W-202: "for demand 3 a goal with a proof in the text counts as told proved ..., whatever its last R line says".
unfoldable pub told_by : Answer → Reported
told_by x = cond (eqb x.proofs 0) x.outcome reported_proved

-- What a search comes to, as an outcome, and its text after so many units.
unfoldable pub verdict_outcome : Verdict → Reported
verdict_outcome (proved store path) = reported_proved
verdict_outcome no_proof = reported_no

unfoldable pub verdict_text : Sheet → Verdict → ℕ → List ℕ
verdict_text s (proved store path) n = search_text s store path n
verdict_text s no_proof n = no_text n

-- T4 of the run: each proof in the text is a derivation by CS-1992-17, its lines and its answer substitution being the text's; where spent
-- is told, after as many acts as the budget another is due.
pub record Demand2 (bytes : List ℕ) (s : Sheet) : Type 0 where
  pub follows : (ask : Request) (t w a : ℕ) (x : Answer) → engine_run bytes ask t w a ≡ answered x
      → ProofsIn (λ text. (n : ℕ) × DerivesText s n text) x.proofs x.text
  pub spent : (ask : Request) (t w a : ℕ) (x : Answer) → engine_run bytes ask t w a ≡ answered x → told_by x ≡ reported_spent
      → (x.units ≡ ask.budget) × (x.text ≡ spent_text ask.budget) × (verdict_of (after (rules_of s) s.goal ask.budget) ≡ none)

abbrev pub AllDemand2 : Type 0
AllDemand2 = (bytes : List ℕ) (s : Sheet) → read_sheet bytes ≡ sheet s → Demand2 bytes s

-- What the walk comes to after n units is told first: the text begins with its text, and where that is no proof nothing follows.
pub record ToldFirst (s : Sheet) (x : Answer) : Type 0 where
  pub verdict : Verdict
  pub units : ℕ
  pub comes_to : ComesTo (rules_of s) s.goal units verdict
  pub outcome : told_by x ≡ verdict_outcome verdict
  pub rest : List ℕ
  pub text : x.text ≡ verdict_text s verdict units ++ rest
  pub alone : x.proofs ≡ 0 → (x.units ≡ units) × (rest ≡ [])

-- The same request with another budget.
abbrev pub with_budget : Request → ℕ → Request
with_budget ask budget = record { budget = budget; proofs = ask.proofs }

-- The proofs of one text stand first in another: the texts of both, a line after the last one of each.
pub record SameFirst (number : ℕ) (text : List ℕ) (number' : ℕ) (text' : List ℕ) : Type 0 where
  pub proofs : List (List ℕ)
  pub others : List (List ℕ)
  pub counted : length proofs ≡ number
  pub counted' : length (proofs ++ others) ≡ number'
  pub line : List ℕ
  pub line' : List ℕ
  pub joined : text ≡ join_texts proofs line
  pub joined' : text' ≡ join_texts (proofs ++ others) line'

-- T8, demand 3, point e of document 01 observed: "told is what an answer says; a refusal tells no outcome".
pub record Demand3 (bytes : List ℕ) (s : Sheet) : Type 0 where
  -- "whoever holds a sequent derivation of some instance of the goal, its free variables replaced by terms of level 0, is never
  -- told no"
  pub never_no : (e : Environment Symbol) → InstanceDerivation (rules_of s) s.goal e
      → (ask : Request) (t w a : ℕ) (x : Answer) → engine_run bytes ask t w a ≡ answered x → told_by x ≡ reported_no → ⊥
  -- "Whoever is told proved or no is told what the walk of document 01 comes to, with its units and its text"
  pub comes_to : (ask : Request) (t w a : ℕ) (x : Answer) → engine_run bytes ask t w a ≡ answered x → (told_by x ≡ reported_spent → ⊥)
      → ToldFirst s x
  -- "and is told the same under every larger permitted budget with the buffers for it": these are any for which refusals 2, 5
  -- and 12 do not arise. Where the last R line tells proved or no, all of the answer is the same.
  pub same : (ask : Request) (t w a : ℕ) (x : Answer) → engine_run bytes ask t w a ≡ answered x → (x.outcome ≡ reported_spent → ⊥)
      → (larger t' w' a' : ℕ) → ask.budget ≤ larger → larger ≤ max_budget
      → (engine_run bytes (with_budget ask larger) t' w' a' ≡ answered x)
      ⊎ ((r : Refusal) × (engine_run bytes (with_budget ask larger) t' w' a' ≡ turned_back r)
      × ((r.number ≡ 2) ⊎ ((r.number ≡ 5) ⊎ (r.number ≡ 12))))
  -- Such buffers are a table of 8,192 numbers, 64 work numbers for each unit and an answer buffer as long as the text.
  pub retry : (ask : Request) (t w a : ℕ) (x : Answer) → engine_run bytes ask t w a ≡ answered x → (x.outcome ≡ reported_spent → ⊥)
      → (larger t' w' a' : ℕ) → ask.budget ≤ larger → larger ≤ max_budget → table_numbers ≤ t' → demanded larger ≤ w'
      → length x.text ≤ a' → engine_run bytes (with_budget ask larger) t' w' a' ≡ answered x
  -- Request W-202: under every larger number and budget the proofs that were told stand first, each with its units and its text;
  pub more : (ask : Request) (t w a : ℕ) (x : Answer) → engine_run bytes ask t w a ≡ answered x
      → (ask' : Request) (t' w' a' : ℕ) (y : Answer) → engine_run bytes ask' t' w' a' ≡ answered y
      → ask.budget ≤ ask'.budget → ask.proofs ≤ ask'.proofs → SameFirst x.proofs x.text y.proofs y.text
  -- and where no was told, with or without proofs before it, all of the answer is the same.
  pub settled : (ask : Request) (t w a : ℕ) (x : Answer) → engine_run bytes ask t w a ≡ answered x → x.outcome ≡ reported_no
      → (ask' : Request) (t' w' a' : ℕ) (y : Answer) → engine_run bytes ask' t' w' a' ≡ answered y
      → ask.budget ≤ ask'.budget → ask.proofs ≤ ask'.proofs → y ≡ x
  -- "Whoever is told an outcome is told spent exactly if the walk needs more units than the budget."
  pub spends : (ask : Request) (t w a : ℕ) (x : Answer) → engine_run bytes ask t w a ≡ answered x
      → (told_by x ≡ reported_spent) ↔ ((n : ℕ) (v : Verdict) → ComesTo (rules_of s) s.goal n v → ask.budget < n)

abbrev pub AllDemand3 : Type 0
AllDemand3 = (bytes : List ℕ) (s : Sheet) → read_sheet bytes ≡ sheet s → Demand3 bytes s

-- T10: what the lent buffers held before changes nothing in the result or the text.
abbrev pub BuffersDoNotMatter : Type 0
BuffersDoNotMatter =
    (bytes : List ℕ) (ask : Request) (table work answer table' work' answer' : List ℕ) (r : HandedBack)
    (table₂ work₂ answer₂ table₂' work₂' answer₂' : List ℕ) (r₂ : HandedBack)
    → RunContract bytes ask table work answer table' work' answer' r
    → RunContract bytes ask table₂ work₂ answer₂ table₂' work₂' answer₂' r₂
    → length table ≡ length table₂ → length work ≡ length work₂ → length answer ≡ length answer₂
    → (r ≡ r₂) × (take r.length answer' ≡ take r₂.length answer₂')

-- What a caller is told for demand 3, in the numbers handed back: 0 proved, 1 no, 2 spent, 3 nothing (refused).
unfoldable pub told_outcome : HandedBack → ℕ
told_outcome r = cond (eqb r.proofs 0) r.outcome 0

-- What a search comes to, in these numbers.
unfoldable pub reported_verdict : Verdict → ℕ
reported_verdict (proved s ls) = 0
reported_verdict no_proof = 1

-- What the walk comes to is told first, in the numbers handed back and in the text.
pub record VerdictTold (s : Sheet) (r : HandedBack) (text : List ℕ) : Type 0 where
  pub verdict : Verdict
  pub units : ℕ
  pub comes_to : ComesTo (rules_of s) s.goal units verdict
  pub outcome : told_outcome r ≡ reported_verdict verdict
  pub rest : List ℕ
  pub begins : text ≡ verdict_text s verdict units ++ rest
  pub alone : r.proofs ≡ 0 → (r.units ≡ units) × (rest ≡ [])

-- Request W-202 in the numbers handed back: the walk that goes on after each proof, e, is told.
pub record WalkTold (s : Sheet) (ask : Request) (r : HandedBack) (text : List ℕ) (e : Enumeration) : Type 0 where
  -- "The text holds the proofs in walk order, each with its R line and the units so far, then an R line with no or spent if fewer were
  -- found." "The run hands back the outcome and units of the last R line and the number of proofs".
  pub written : text ≡ enumeration_text s ask.budget e
  pub outcome : r.outcome ≡ outcome_number (answer_to s ask.budget e).outcome
  pub units : r.units ≡ (answer_to s ask.budget e).units
  pub proofs : r.proofs ≡ length e.found
  -- Proved is the last line's outcome exactly if the number is reached; no more are found.
  pub reached : (r.outcome ≡ 0) ↔ (r.proofs ≡ ask.proofs)
  pub most : r.proofs ≤ ask.proofs
  -- "the units so far": each proof has more than the one before it, none more than the budget.
  pub climb : Climbs 0 e.found
  pub within : All (λ p. p.units ≤ ask.budget) e.found
  -- "Every successful path of the walk stands there just once until the number is reached or the budget is spent, and no after the last
  -- proof means that no further path succeeds." Where no is told, the fields `all` and `below` speak of every path that succeeds.
  pub paths : PathsFound (rules_of s) s.goal e
  pub ended : r.outcome ≡ 1 → e.end ≡ exhausted r.units
  -- After no every derivation of every instance of the goal has the D lines, without their terms, of a proof in the text.
  pub no_other : r.outcome ≡ 1 → (σ : Environment Symbol) (d : InstanceDerivation (rules_of s) s.goal σ)
      → (p : Proof) × (Mem p e.found × (map bare p.path ≡ reverse (map bare (lines d.derivation))))

-- T5 and T8 in the numbers handed back: what a caller is told by a run that keeps T1.
pub record CallerTold (bytes : List ℕ) (ask : Request) (answer answer' : List ℕ) (r : HandedBack) : Type 0 where
  -- If an outcome is told, the bytes are a sheet.
  pub is_sheet : r.outcome ≤ 2 → (s : Sheet) × (read_sheet bytes ≡ sheet s)
  -- Each proof in the text spells a derivation of an instance of the goal, names as declared.
  pub spells : (s : Sheet) → read_sheet bytes ≡ sheet s → r.outcome ≤ 2
      → ProofsIn (SpellsAsDeclared s) r.proofs (take r.length answer')
  -- If no is told, no instance of the goal has a derivation.
  pub never_no : (s : Sheet) → read_sheet bytes ≡ sheet s → told_outcome r ≡ 1 → (e : Environment Symbol)
      → InstanceDerivation (rules_of s) s.goal e → ⊥
  -- If proved or no is told, it is what the walk comes to, with its units and its text.
  pub comes_to : (s : Sheet) → read_sheet bytes ≡ sheet s → told_outcome r ≤ 1 → VerdictTold s r (take r.length answer')
  -- If spent is told, the budget and its text are told, and after as many acts another is due.
  pub spent : (s : Sheet) → read_sheet bytes ≡ sheet s → told_outcome r ≡ 2
      → (r.units ≡ ask.budget) × (take r.length answer' ≡ spent_text ask.budget)
      × (verdict_of (after (rules_of s) s.goal ask.budget) ≡ none)
  -- Each proof in the text is that of a derivation sequence of CS-1992-17.
  pub follows : (s : Sheet) → read_sheet bytes ≡ sheet s → r.outcome ≤ 2
      → ProofsIn (λ text. (n : ℕ) × DerivesText s n text) r.proofs (take r.length answer')
  -- Whatever is told, every state of the walk to that point is one of T4's, and its matches are T3's.
  pub walked : (s : Sheet) → read_sheet bytes ≡ sheet s → r.outcome ≤ 2 → (n : ℕ) → n ≤ r.units
      → All WellFormed (state_after (rules_of s) s.goal n) × All (FollowsSteps (rules_of s) s.goal) (state_after (rules_of s) s.goal n)
  -- If an outcome is told, it is spent exactly if the walk needs more units than the budget.
  pub spends : (s : Sheet) → read_sheet bytes ≡ sheet s → r.outcome ≤ 2 → (told_outcome r ≡ 2)
      ↔ ((n : ℕ) (v : Verdict) → ComesTo (rules_of s) s.goal n v → ask.budget < n)
  -- Request W-202: the other ways.
  pub ways : (s : Sheet) → read_sheet bytes ≡ sheet s → r.outcome ≤ 2
      → WalkTold s ask r (take r.length answer') (enumeration_of s ask)
  -- The text lies in the answer buffer.
  pub fits : r.length ≤ length answer

-- Every caller of such a run.
abbrev pub CallersTold : Type 0
CallersTold = (bytes : List ℕ) (ask : Request) (table work answer table' work' answer' : List ℕ) (r : HandedBack)
    → RunContract bytes ask table work answer table' work' answer' r → CallerTold bytes ask answer answer' r

-- T8 in the numbers handed back: who was told proved or no and asks again with a larger permitted budget is handed back the same,
-- with the same text, or refusal 2, 5 or 12.
abbrev pub ToldAgain : Type 0
ToldAgain =
    (bytes : List ℕ) (ask : Request) (table work answer table' work' answer' : List ℕ) (r : HandedBack) (larger : ℕ)
    (table₂ work₂ answer₂ table₂' work₂' answer₂' : List ℕ) (r₂ : HandedBack)
    → RunContract bytes ask table work answer table' work' answer' r
    → RunContract bytes (with_budget ask larger) table₂ work₂ answer₂ table₂' work₂' answer₂' r₂
    → r.outcome ≤ 1 → ask.budget ≤ larger → larger ≤ max_budget
    → ((r₂ ≡ r) × (take r₂.length answer₂' ≡ take r.length answer')) ⊎ ((r₂.number ≡ 2) ⊎ ((r₂.number ≡ 5) ⊎ (r₂.number ≡ 12)))

-- T8 in the numbers handed back, with the buffers for it: the very same is handed back, with the same text. A desk that was told
-- proved or no and asks again with more units rests on this.
abbrev pub Retry : Type 0
Retry =
    (bytes : List ℕ) (ask : Request) (table work answer table' work' answer' : List ℕ) (r : HandedBack) (larger : ℕ)
    (table₂ work₂ answer₂ table₂' work₂' answer₂' : List ℕ) (r₂ : HandedBack)
    → RunContract bytes ask table work answer table' work' answer' r
    → RunContract bytes (with_budget ask larger) table₂ work₂ answer₂ table₂' work₂' answer₂' r₂
    → r.outcome ≤ 1 → ask.budget ≤ larger → larger ≤ max_budget
    → table_numbers ≤ length table₂ → demanded larger ≤ length work₂ → r.length ≤ length answer₂
    → (r₂ ≡ r) × (take r₂.length answer₂' ≡ take r.length answer')

-- Request W-202: who asks again for as many proofs or more, with as many units or more, and is told an outcome finds the proofs that were
-- told first, each with its units and its text; so the first proof, which counts as told, stays. Where no was told, all stays.
abbrev pub ToldMore : Type 0
ToldMore =
    (bytes : List ℕ) (ask : Request) (table work answer table' work' answer' : List ℕ) (r : HandedBack)
    (ask₂ : Request) (table₂ work₂ answer₂ table₂' work₂' answer₂' : List ℕ) (r₂ : HandedBack)
    → RunContract bytes ask table work answer table' work' answer' r
    → RunContract bytes ask₂ table₂ work₂ answer₂ table₂' work₂' answer₂' r₂
    → r.outcome ≤ 2 → r₂.outcome ≤ 2 → ask.budget ≤ ask₂.budget → ask.proofs ≤ ask₂.proofs
    → SameFirst r.proofs (take r.length answer') r₂.proofs (take r₂.length answer₂')
    × (r.outcome ≡ 1 → (r₂ ≡ r) × (take r₂.length answer₂' ≡ take r.length answer'))
