-- T5 and T4 at the level of bytes: the text of a proof, and so that of a proved search, spells a derivation of an instance of the goal.
use Prim.Native.Nat.{ℕ, ◌≤◌}
use mathlib.Core.Path.{◌≡◌, sym, ap, subst, fun_ext}
use mathlib.Core.List.{List, []}
use native.Mathlib.Omega.{arith}
use lib.ListN.{length}
use Rattle.terms.specs.Lists.{All}
use Rattle.terms.specs.Numberless.{Numberless}
use Rattle.terms.proofs.Lists.{all_weaken}
use Rattle.formulas.specs.Formulas.{free_variables}
use Rattle.sequents.specs.Symbols.{Symbol}
use Rattle.sequents.specs.Sequents.{Line}
use Rattle.sequents.specs.Derivations.{instance_of}
use Rattle.sequents.proofs.Promises.{trees}
use Rattle.unification.specs.Store.{Leaf, Store}
use Rattle.search.specs.Search.{proved}
use Rattle.search.specs.Answers.{final, final_environment, final_lines}
use Rattle.search.specs.Procedure.{answer_of}
use Rattle.search.specs.Promises.{Sound, Follows}
use Rattle.search.proofs.Formed.{Arities, FormedGoal, FormedClause}
use Rattle.search.proofs.Bounds.{ShownUpTo, proved_bounds, proved_least}
use Rattle.search.proofs.Promises.{units, derivation_steps, soundness}
use Rattle.sheet_format.specs.Limits.{max_budget, max_text_bytes}
use Rattle.sheet_format.specs.Sheets.{Sheet, rules_of}
use Rattle.sheet_format.proofs.Formed.{FormedClause as SheetClause}
use Rattle.sheet_format.proofs.Good.{Good, good}
use Rattle.sheet_format.proofs.Numberless.{numberless_sheet}
use Rattle.answer_texts.specs.TextLines.{TextLine, terms_of, answer_lines}
use Rattle.answer_texts.specs.Numbering.{shown, numbering_of, numbered}
use Rattle.answer_texts.specs.Spelling.{proof_text}
use Rattle.answer_texts.specs.Spelled.{Writable, SpellsAsDeclared}
use Rattle.answer_texts.specs.FormerTexts.{SpellsBefore}
use Rattle.answer_texts.specs.Promises.{search_text, DerivesText, TextSound, TextAsBefore, TextFollows}
use Rattle.answer_texts.proofs.FormerTexts.{symbolic, sheet_symbolic, lines_numberless}
use Rattle.answer_texts.proofs.SoundNumbers.{numbers_le}
use Rattle.answer_texts.proofs.SoundWritable.{declared, sheet_goal, sheet_clause, names_free, answer_writable}

-- What the text of a proof shows.
abbrev pub search_lines : Sheet → Store → List (Line Leaf) → ℕ → List TextLine
search_lines s store path n = answer_lines n (free_variables s.goal) (final_environment store) (final_lines store path)

-- What a sheet holds is well-formed in the search.
pub sheet_formed : (s : Sheet) → Good s
    → All (λ c. FormedClause c (declared s.symbols)) s.clauses × FormedGoal s.goal (declared s.symbols)
sheet_formed s well =
    let ds = s.symbols in (
      all_weaken (λ c. SheetClause c ds) (λ c. FormedClause c (declared ds)) (λ c. sheet_clause c ds) s.clauses well.clauses_formed,
      sheet_goal s.goal ds well.goal_formed,
    )

-- The final store and the D lines of a proof, n acts having been done.
module _ (s : Sheet) (n : ℕ) (store : Store) (path : List (Line Leaf)) where
  -- Its terms are over the symbols that ok allows, with as many arguments; its levels and places are not above n.
  abbrev pub Shows : Arities → Type 0
  Shows ok = ShownUpTo ok n (final_environment store) (final_lines store path)

  -- Its lines can be written, within the limits.
  lines_writable : n ≤ max_budget → Shows (declared s.symbols) → length (search_text s store path n) ≤ max_text_bytes
      → All (Writable s.symbols) (numbered (search_lines s store path n))
  unfolding search_text numbered
  lines_writable few shows short =
      let ds = s.symbols in
      answer_writable ds (numbering_of (shown (search_lines s store path n))) n (omega arith)
      (numbers_le ds (search_lines s store path n) max_text_bytes short) (free_variables s.goal)
      (final_environment store) (final_lines store path) (names_free s.goal) shows

  -- They are those of a derivation of the instance that the final values give.
  pub text_sound_lem : 1 ≤ n → n ≤ max_budget → Sound (rules_of s) s.goal store path → Shows (declared s.symbols)
      → length (search_text s store path n) ≤ max_text_bytes → SpellsAsDeclared s (search_text s store path n)
  unfolding search_text
  text_sound_lem least most sound shows short =
      let tree = (trees (instance_of (rules_of s) s.goal (final_environment store))).lines_tree (final_lines store path) sound.derives in
      record {
        units = n;
        least = least;
        most = most;
        environment = final_environment store;
        proof = record { level0 = λ v f. sound.level0 v; derivation = tree.0 };
        writable =
            subst (λ (ls : List (Line Symbol)). All (Writable s.symbols)
            (numbered (answer_lines n (free_variables s.goal) (final_environment store) ls))) (sym tree.1)
            (lines_writable most shows short);
        spelled = ap (λ ls. proof_text s.symbols (answer_lines n (free_variables s.goal) (final_environment store) ls)) (sym tree.1);
      }

  -- If it shows symbols alone the text is one of those before request W-204.
  pub text_before : 1 ≤ n → n ≤ max_budget → Sound (rules_of s) s.goal store path → Shows (declared s.symbols) → Shows symbolic
      → length (search_text s store path n) ≤ max_text_bytes → SpellsBefore (λ a b. a ≡ b) s (search_text s store path n)
  unfolding text_sound_lem
  text_before least most sound shows symbols short =
      let tree = (trees (instance_of (rules_of s) s.goal (final_environment store))).lines_tree (final_lines store path) sound.derives in
      record {
        spells = text_sound_lem least most sound shows short;
        numberless =
            subst (λ (ls : List (Line Symbol)). All (λ x. All Numberless (terms_of x))
            (answer_lines n (free_variables s.goal) (final_environment store) ls)) (sym tree.1)
            (lines_numberless s n store path symbols);
      }

  -- The derivation sequence that the search has followed is the one that the text spells.
  pub text_follows_lem : (f : Follows (rules_of s) s.goal store [] path) → ((l : Leaf) → answer_of f.sequence l ≡ final store l)
      → DerivesText s n (search_text s store path n)
  unfolding search_text final_environment final_lines
  text_follows_lem f answer =
      let q : answer_of f.sequence ≡ final store = fun_ext answer in
      record { path = path; state = f.state; sequence = f.sequence; finished = f.goals; spelled = rw q }

-- T5: the text of a proved search.
pub text_sound : TextSound
text_sound bytes s read budget n store path few e short =
    let cs = rules_of s in
    let formed = sheet_formed s (good bytes s read) in
    text_sound_lem s n store path (proved_least cs s.goal budget n store path e)
    (let l = (((units cs s.goal).tells budget n (proved store path)).0 e).1 in omega arith)
    (soundness cs s.goal budget n store path e)
    (proved_bounds (declared s.symbols) cs s.goal formed.0 formed.1 budget n store path e) short

-- Request W-204: over a sheet without N lines it is a text of those before.
pub text_as_before : TextAsBefore
text_as_before bytes s read h budget n store path few e short =
    let cs = rules_of s in
    let well = good bytes s read in
    let formed = sheet_formed s well in
    let symbols = sheet_symbolic s well (numberless_sheet bytes s read h) in
    text_before s n store path (proved_least cs s.goal budget n store path e)
    (let l = (((units cs s.goal).tells budget n (proved store path)).0 e).1 in omega arith)
    (soundness cs s.goal budget n store path e)
    (proved_bounds (declared s.symbols) cs s.goal formed.0 formed.1 budget n store path e)
    (proved_bounds symbolic cs s.goal symbols.0 symbols.1 budget n store path e) short

-- T4: the derivation sequence that the search has followed.
pub text_follows : TextFollows
text_follows s budget n store path e =
    let d = (derivation_steps (rules_of s) s.goal).derivation budget n store path e in
    text_follows_lem s n store path d.0 d.1
