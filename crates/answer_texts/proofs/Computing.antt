-- Names under which all that writing a text computes with unfolds.
use Prim.Native.Nat.{ℕ}
use mathlib.Core.List.{List}
use Rattle.terms.specs.Terms.{substitute}
use Rattle.sequents.specs.Sequents.{put_line}
use Rattle.sequents.specs.Renamings.{rename}
use Rattle.sheet_format.specs.Bytes.{ascii}
use Rattle.sheet_format.specs.Bytes.{digits, decimal}
use Rattle.sheet_format.specs.Nodes.{Declaration}
use Rattle.answer_texts.specs.TextLines.{TextLine, answer_lines, line_terms, terms_of, rename_text_line}
use Rattle.answer_texts.specs.Numbering.{symbols_in, symbols_of, shown, same_symbol, is_made, made_only, leftover_only, without, firsts}
use Rattle.answer_texts.specs.Numbering.{index_of, numbering_of, numbered}
use Rattle.answer_texts.specs.Spelling.{name_in, name_of, spell_functor, spell_symbol, spell_term, join, text_line, spell_word, spell_terms, line_fields}
use Rattle.answer_texts.specs.Spelling.{text_fields, spell, proof_text}

unfoldable pub compute_text : List Declaration → List TextLine → List ℕ
unfolding proof_text spell text_fields line_fields spell_terms spell_word text_line join spell_term spell_functor spell_symbol name_of name_in numbered numbering_of
    index_of firsts
    without leftover_only made_only is_made same_symbol shown symbols_of symbols_in rename_text_line terms_of line_terms put_line rename substitute
    answer_lines ascii decimal digits
compute_text ds xs = proof_text ds xs
