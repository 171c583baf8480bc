-- One name under which all that a search computes with unfolds.
use Prim.Native.Nat.{ℕ}
use Rattle.formulas.specs.Rules.{Rules, joined}
use Rattle.terms.specs.Lists.{update, elem}
use Rattle.terms.specs.Terms.{same_functor, substitute}
use Rattle.formulas.specs.Formulas.{Goal, Clause, free_t, free_g, free_b}
use Rattle.formulas.specs.Members.{members, quantify, stands_free}
use Rattle.sequents.specs.Sequents.{entries_of, assign, body_sequent}
use Rattle.sequents.specs.Derivations.{instance_of, sheet_program}
use Rattle.unification.specs.Store.{binding, follow, lower, bind, fresh, fresh_levels, past, fresh_variables}
use Rattle.unification.specs.Matching.{push_terms, push_pairs, comparing, after_node, visit, compare_terms, on_pair, on_node, match_step}
use Rattle.search.specs.Steps.{proceed, settle, try_from, try_member, take_goal, step}
use Rattle.search.specs.Search.{SearchOutcome, advance, verdict_of, start, start_goal, start_store, start_environment, search, search_from}

unfoldable pub compute_search : ℕ → Rules Clause → Goal → SearchOutcome
unfolding search search_from verdict_of advance start start_goal start_store start_environment step take_goal try_member try_from settle proceed
    match_step on_pair on_node compare_terms same_functor visit after_node comparing push_pairs push_terms follow binding
    lower bind fresh fresh_levels past fresh_variables
    instance_of sheet_program joined entries_of assign body_sequent members quantify stands_free free_t free_g free_b elem update substitute
compute_search budget cs g = search budget cs g
