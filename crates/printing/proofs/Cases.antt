-- The writer computed, on the memory that the machine leaves of a lent buffer of sevens.
use Rattle.std.specs.Prelude.{Option, None}
use Prim.Native.Nat.{ℕ}
use mathlib.Core.Path.{◌≡◌, refl}
use mathlib.Core.List.{List, [], ◌∷◌, ◌++◌}
use lib.ListN.{replicate}
use Rattle.printing.specs.Writer.{Answered}
use Rattle.machine.specs.Records.{cell_of, level_of, put_cell, put_level, put_entry, put_goal, put_assumption, put_path, put_use, put_choice}
use Rattle.machine.specs.Records.{put_chosen, put_position, put_pairs, put_nodes, made}
use Rattle.machine.specs.RegisterUpdates.{with_acts, with_mode, with_next, with_trail, with_choice, with_goals, with_path, with_goal, with_member}
use Rattle.machine.specs.RegisterUpdates.{with_pairs, with_sides, with_check, with_due, with_nodes}
use Rattle.machine.specs.Words.{truncate, increment, variable_word, constant_word, closure_word, tag_of, name_of, node_of, frame_of, slot_of}
use Rattle.machine.specs.Words.{word_of, binding_of, leaf_of, environment_at, term_of}
use Rattle.printing.specs.Bindings.{deref}
use Rattle.machine.specs.Trail.{lower_to, bind_to, old_level, effect, undo_entry, undo}
use Rattle.machine.specs.Frames.{copy_frame, put_variable, put_fresh, put_variables}
use Rattle.machine.specs.ChoicePoints.{save_choice, resume_goal, resume_member, resume_branch, resume, backtrack, failed}
use Rattle.machine.specs.Goals.{due_goal, proceed, members_left, try_from, take_atom, take_true, take_and, right_branch, take_or, take_implies}
use Rattle.machine.specs.Goals.{take_exists, put_constant, take_forall, take_goal, after_sheet, from_clause, first_member}
use Rattle.machine.specs.AssumptionChains.{assumption_field, jump_for, put_chain, step_towards, find_ancestor, oldest_for, later_of}
use Rattle.machine.specs.Matching.{position_word, pairs_from, nodes_from, argument_word, pairs_after, due_pairs, compare_closures, compare_leaves}
use Rattle.machine.specs.Matching.{compare_words, left_word, right_word, compare_sides, compare_pair, bind_value, pass_node, visit_variable}
use Rattle.machine.specs.Matching.{visit_constant, visit_closure, visit_word, due_word, nodes_after, check_word, check_node}
use Rattle.machine.specs.Backchaining.{clause_of, clause_frame, next_clause, next_member, put_prefix, save_alternative, put_body, put_try, tried}
use Rattle.machine.specs.Backchaining.{after_assumption, try_member, try_found, try_next}
use Rattle.machine.specs.Machine.{due_act, act, run_acts, start_memory, start_registers, run_machine}
use Rattle.node_table.specs.Layout.{kind_of, child_count, label_of, child_of, info_of, pack_info, mask_of, goal_bit, members_of, size_of, bit_of}
use Rattle.node_table.specs.Layout.{name_start, name_word, name_length, is_function_bit, arity_of, clause_node, order_number}
use Rattle.printing.specs.Output.{emit, write_bytes, copy_bytes, write_digits, write_number, write_symbol}
use Rattle.printing.specs.Numbering.{with_position, with_variables, with_constants, wrote, number_variable, number_constant, write_variable}
use Rattle.printing.specs.Numbering.{clear_constants, constant_mark, clear_at_first, write_constant}
use Rattle.printing.specs.WriteTerms.{emit_to, write_name, write_functor, separator, arguments_by, bracketed_by, application_by, word_by}
use Rattle.printing.specs.WriteTerms.{write_term, term_to}
use Rattle.printing.specs.WriteLines.{bytes_to, number_to, result_to, plain_bytes, term_line, bindings_to, prefix_to, clause_to, line_to}
use Rattle.printing.specs.WriteLines.{lines_to}
use Rattle.printing.specs.PathLinks.{link_word, link_path, clear_variables}
use Rattle.printing.specs.Writer.{text_limit, proof_pass, prepare, first_link, own_bytes, append_proof, append_result, copied, write_proof}
use Rattle.printing.specs.Writer.{write_short, write_no, write_spent}
use Rattle.sheet_format.specs.Bytes.{ascii}
use Rattle.memory.specs.Records.{field, put_field}
use Rattle.node_table.specs.Chains.{below_of, chain_names, chain_count}
use Rattle.clause_members.specs.Members.{chain_at, reverse_free, pass_chain, find_member, member, head_of}

-- A run of the machine and the text written, and what `out` holds if the text is appended to it twice, the memory restored between.
unfoldable compute_answer : List ℕ → List ℕ → ℕ → ℕ → ℕ → List ℕ → List ℕ → Answered (Option ℕ) × Answered ℕ
unfolding field put_field cell_of level_of put_cell put_level put_entry put_goal put_assumption put_path put_use put_choice put_chosen put_position
    put_pairs put_nodes with_acts with_mode with_next with_trail with_choice with_goals with_path with_goal with_member with_pairs with_sides
    with_check with_due with_nodes truncate increment variable_word constant_word closure_word tag_of name_of node_of frame_of slot_of word_of
    binding_of deref leaf_of environment_at term_of lower_to bind_to old_level effect undo_entry undo copy_frame put_variable put_fresh
    put_variables below_of chain_names chain_count chain_at reverse_free pass_chain find_member member head_of save_choice resume_goal resume_member
    resume_branch resume backtrack failed due_goal proceed members_left try_from take_atom take_true take_and right_branch take_or take_implies
    take_exists put_constant take_forall take_goal position_word pairs_from nodes_from argument_word pairs_after nodes_after due_pairs
    compare_closures compare_leaves compare_words left_word right_word compare_sides compare_pair bind_value pass_node visit_variable
    visit_constant visit_closure visit_word due_word check_word check_node clause_of clause_frame next_clause next_member put_prefix
    save_alternative put_body put_try tried try_member try_found try_next due_act act run_acts start_memory start_registers run_machine kind_of
    child_count label_of child_of info_of pack_info mask_of goal_bit members_of size_of bit_of name_start name_word name_length is_function_bit arity_of
    clause_node order_number assumption_field jump_for put_chain step_towards find_ancestor oldest_for later_of after_sheet from_clause first_member
    after_assumption emit write_bytes copy_bytes write_digits write_number write_symbol with_position with_variables with_constants wrote
    number_variable number_constant write_variable write_constant emit_to write_name write_functor separator arguments_by bracketed_by
    application_by word_by write_term term_to bytes_to number_to result_to plain_bytes term_line bindings_to prefix_to clause_to line_to lines_to
    link_word link_path clear_constants constant_mark clear_at_first clear_variables text_limit proof_pass prepare first_link own_bytes append_proof
    append_result copied write_proof write_short write_no write_spent ascii
compute_answer sheet t clauses goal budget w out =
    let m = run_machine budget t clauses goal w in
    let a = append_proof sheet t goal m budget (text_limit out) out 0 in
    let r = made (clear_variables m.registers.next a.memory) m.registers in
    (write_proof sheet t goal m budget out, append_proof sheet t goal r budget (text_limit out) a.buffer a.length)

-- "Goal every b some a p(a,b)", with the clause every z p(z,z), has the nodes V 0, V 1, p(0,0), U, p(0,1), E, U.
constants : List ℕ
unfolding ascii
constants = ascii "P\tp\t2\nV\t0\nV\t1\nA\t0\t0\t0\nU\t0\t2\nA\t0\t0\t1\nE\t0\t4\nU\t1\t5\nC\t3\nQ\t6\n"

-- This is the table of the sheet `constants`.
constants_table : List ℕ
constants_table =
    (2 ∷ 513 ∷ 4 ∷ []) ++ (replicate 765 0
    ++ ((0 ∷ 0 ∷ 0 ∷ 0 ∷ 0 ∷ 0 ∷ 65537 ∷ 0 ∷ 1 ∷ 0 ∷ 0 ∷ 0 ∷ 0 ∷ 65538 ∷ 34 ∷ 0 ∷ 0 ∷ 0 ∷ 0 ∷ 0 ∷ 769 ∷ 24 ∷ 0 ∷ 2 ∷ 2 ∷ 0 ∷ 1 ∷ 768 ∷ 34
    ∷ 0 ∷ 0 ∷ 1 ∷ 0 ∷ 0 ∷ 771 ∷ 23 ∷ 0 ∷ 4 ∷ 0 ∷ 0 ∷ 0 ∷ 258 ∷ 24 ∷ 1 ∷ 5 ∷ 5 ∷ 1 ∷ 1 ∷ 256 ∷ [])
    ++ (replicate 7119 0 ++ (3 ∷ []))))

-- The text of `constants` is written, and the ten bytes after it stay.
constants_written : (compute_answer constants constants_table 1 6 8 (replicate 512 7)
    (replicate 60 0)).0.buffer ≡ ascii "R\tproved\t8\nD\tall\t!0@1\nD\tsome\t!0@1\nD\tclause\t1\t!0@1\n" ++ replicate 10 0
unfolding compute_answer constants constants_table ascii
constants_written = refl

-- The text of `constants` does not fit a buffer that is one byte short.
constants_short : (compute_answer constants constants_table 1 6 8 (replicate 512 7) (replicate 49 0)).0.length ≡ None
unfolding compute_answer constants constants_table ascii
constants_short = refl

-- Appended to itself, the text of `constants` is the same again, and ten bytes stay.
constants_twice : (compute_answer constants constants_table 1 6 8 (replicate 512 7)
    (replicate 110 0)).1.buffer
    ≡ ascii "R\tproved\t8\nD\tall\t!0@1\nD\tsome\t!0@1\nD\tclause\t1\t!0@1\n"
    ++ (ascii "R\tproved\t8\nD\tall\t!0@1\nD\tsome\t!0@1\nD\tclause\t1\t!0@1\n" ++ replicate 10 0)
unfolding compute_answer constants constants_table ascii
constants_twice = refl

-- The free goal p(a), with the clause every z p(f(z)), has the nodes V 0, f(0), p(f(0)), U, p(0).
variables : List ℕ
unfolding ascii
variables = ascii "P\tp\t1\nF\tf\t1\nV\t0\nA\t1\t0\nA\t0\t1\nU\t0\t2\nA\t0\t0\nC\t3\nQ\t4\n"

-- This is the table of the sheet `variables`.
variables_table : List ℕ
variables_table =
    (2 ∷ 513 ∷ 2 ∷ 8 ∷ 193 ∷ 3 ∷ []) ++ (replicate 762 0
    ++ ((0 ∷ 0 ∷ 0 ∷ 0 ∷ 0 ∷ 0 ∷ 65537 ∷ 17 ∷ 1 ∷ 0 ∷ 0 ∷ 0 ∷ 0 ∷ 131073 ∷ 18 ∷ 0 ∷ 1 ∷ 0 ∷ 0 ∷ 0 ∷ 769 ∷ 24 ∷ 0 ∷ 2 ∷ 2 ∷ 0 ∷ 1 ∷ 768
    ∷ 18 ∷ 0 ∷ 0 ∷ 0 ∷ 0 ∷ 0 ∷ 769 ∷ [])
    ++ (replicate 7133 0 ++ (3 ∷ []))))

-- The text of `variables` is written.
variables_written : (compute_answer variables variables_table 1 4 5 (replicate 320 7)
    (replicate 39 0)).0.buffer ≡ ascii "R\tproved\t5\nB\t0\tf(_0@0)\nD\tclause\t1\t_0@0\n"
unfolding compute_answer variables variables_table ascii
variables_written = refl

-- So is the text of `variables`, whose numbers stood in the cells of the variables.
variables_twice : (compute_answer variables variables_table 1 4 5 (replicate 320 7)
    (replicate 78 0)).1.buffer
    ≡ ascii "R\tproved\t5\nB\t0\tf(_0@0)\nD\tclause\t1\t_0@0\nR\tproved\t5\nB\t0\tf(_0@0)\nD\tclause\t1\t_0@0\n"
unfolding compute_answer variables variables_table ascii
variables_twice = refl

-- Where the second text does not fit, the position is past the limit.
variables_past : (compute_answer variables variables_table 1 4 5 (replicate 320 7) (replicate 77 0)).1.length ≡ 78
unfolding compute_answer variables variables_table ascii
variables_past = refl
