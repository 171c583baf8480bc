-- One name under which all that judging a text computes with unfolds.
use Prim.Native.Nat.{ℕ}
use mathlib.Core.List.{List}
use Rattle.terms.specs.Lists.{update, elem}
use Rattle.terms.specs.Terms.{same_functor, substitute, level_by}
use Rattle.formulas.specs.Formulas.{free_t, free_g, free_b, free_from, free_variables}
use Rattle.formulas.specs.Members.{members, quantify, stands_free}
use Rattle.formulas.specs.Rules.{joined}
use Rattle.sequents.specs.Symbols.{level, symbol_level}
use Rattle.sequents.specs.Sequents.{entries_of, assign, body_sequent}
use Rattle.sequents.specs.Derivations.{instance_of, sheet_program}
use Rattle.sheet_format.specs.Bytes.{ascii, extend_line, lines_of, extend_field, fields, is_digit, is_small, is_capital, is_letter, is_name_byte}
use Rattle.sheet_format.specs.Bytes.{digits_from, at_most, number, same_bytes, folded}
use Rattle.sheet_format.specs.Sheets.{Sheet}
use Rattle.answer_texts.specs.TextLines.{line_terms, terms_of}
use Rattle.answer_texts.specs.Numbering.{symbols_in, symbols_of, same_symbol}
use Rattle.answer_texts.specs.Capitals.{small_from, small_text, small_declaration, small_sheet}
use Rattle.answer_texts.specs.Spelled.{bound_stage, blank}
use Rattle.text_judging.specs.Reading.{span, with_level, read_level, read_symbol, after, cons_parsed, read_more, read_arguments, find_name}
use Rattle.text_judging.specs.Reading.{head_of, find_head, apply_to, read_application, read_term, whole_term, term_field, cons_field, term_fields, plain_line}
use Rattle.text_judging.specs.Reading.{term_line, use_line, clause_fields, by_word, derivation_fields, result_fields, binding_of}
use Rattle.text_judging.specs.Reading.{binding_fields, read_line}
use Rattle.answer_texts.specs.Judgements.{Judgement}
use Rattle.text_judging.specs.Judging.{same_term, show_number, show_symbol, show_symbols, word_number, same_word, is_plain}
use Rattle.text_judging.specs.Judging.{infer_some, infer_constant, infer_all, all_low, infer_entry, entry_at, infer_clause, infer, allow}
use Rattle.text_judging.specs.Judging.{progress, judge_read, judge_line, judge_end, judge_from, judge_exactly, judge}

unfoldable pub compute_judgement : Sheet → List ℕ → Judgement
unfolding judge small_sheet small_declaration small_text small_from folded judge_exactly judge_from judge_end judge_line judge_read progress allow infer infer_clause entry_at infer_entry all_low infer_all infer_constant
    infer_some is_plain same_word
    word_number show_symbols show_symbol show_number same_term same_functor read_line binding_fields binding_of result_fields derivation_fields by_word
    clause_fields use_line term_line
    plain_line term_fields cons_field term_field whole_term read_term read_application apply_to find_head head_of find_name read_arguments read_more cons_parsed after
    read_symbol read_level
    with_level span blank bound_stage same_symbol symbols_of symbols_in terms_of line_terms ascii extend_line lines_of extend_field fields is_digit
    is_small is_capital is_letter is_name_byte digits_from
    at_most number same_bytes instance_of sheet_program joined entries_of assign body_sequent members quantify stands_free free_t free_g free_b
    free_from free_variables elem update
    substitute level level_by symbol_level
compute_judgement s t = judge s t
