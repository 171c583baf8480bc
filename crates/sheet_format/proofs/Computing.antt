-- One name under which all that reading a sheet computes with unfolds.
use Prim.Native.Nat.{ℕ}
use mathlib.Core.List.{List}
use Rattle.terms.specs.Terms.{size}
use Rattle.formulas.specs.Formulas.{free_t, free_g, free_c}
use Rattle.sheet_format.specs.Bytes.{ascii, extend_line, lines_of, extend_field, fields, is_digit, is_small, is_capital, is_letter}
use Rattle.sheet_format.specs.Bytes.{is_name_byte, digits_from, at_most, number, name_bytes, is_name, same_bytes, folded, same_name}
use Rattle.sheet_format.specs.SheetLines.{cons_number, numbers, declared, declaration, no_number, one_number, two_numbers, with_variable}
use Rattle.sheet_format.specs.SheetLines.{application, line_of, of_fields, parse_line}
use Rattle.sheet_format.specs.Nodes.{neither, member_count, term_nodes, sized, term_node, applied, apply_node, map2}
use Rattle.sheet_format.specs.Nodes.{both_clauses, ruled, nodes_at, node_of, is_some}
use Rattle.sheet_format.specs.Nodes.{is_something}
use Rattle.sheet_format.specs.Sheets.{Read, is_declared, take_declaration, add_node, take_node, any_free, add_clause, clause_at, take_clause}
use Rattle.sheet_format.specs.Sheets.{last_goal, goal_at, take_line, at_end, after_goal, read_from, read_lines, read_sheet_by}
use Rattle.sheet_format.specs.Sheets.{sheet_form, read_sheet}

unfoldable pub compute_sheet : List ℕ → Read
unfolding ascii extend_line lines_of extend_field fields is_digit is_small is_capital is_letter is_name_byte digits_from at_most number name_bytes is_name
    same_bytes folded same_name
    cons_number numbers
    declared declaration no_number one_number two_numbers with_variable application line_of of_fields parse_line neither member_count map2
    term_nodes sized
    term_node applied apply_node both_clauses ruled nodes_at node_of is_some is_something
    is_declared
    take_declaration add_node take_node any_free add_clause clause_at take_clause last_goal goal_at take_line at_end after_goal read_from read_lines
    read_sheet_by sheet_form read_sheet
    size free_t free_g free_c
compute_sheet bytes = read_sheet bytes
