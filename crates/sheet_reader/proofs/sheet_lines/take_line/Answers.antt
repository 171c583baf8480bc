use Prim.Native.Nat.{ℕ}
use native.Mathlib.Omega.{arith}
use mathlib.Core.List.{List}
use mathlib.Core.Bool.{Bool}
use mathlib.Core.Path.{◌≡◌, subst, ap, ◌∙◌}
use Rattle.std.specs.Prelude.{Err}
use Rattle.std.proofs.lemmas.Result.{err_from_is_err_and}
use Rattle.line_parser.specs.declared.lines.Line.{Line}
use Rattle.line_parser.specs.declared.lines.Line.TheVariants.{Declare}
use Rattle.table_builder.specs.Nodes.{made}
use Rattle.sheet_reader.specs.declared.sheet_lines.Taken.TheVariants.{Next, Last}
use Rattle.sheet_reader.specs.Reader.{FormedDeclaration, FormedLine, take_line}
use Rattle.sheet_reader.proofs.sheet_lines.Steps.{name_stands, name_inserted, taken_ok, taken_err}
use Rattle.sheet_reader.proofs.sheet_lines.take_line.Goals as goal

-- A declaration that is taken is formed.
formed : (sheet : List ℕ) (at end : ℕ) (l : Line) (function : Bool) (n arity : ℕ) → FormedLine sheet at end l → l ≡ Declare function n arity
    → FormedDeclaration sheet at end n arity
unfolding FormedLine
formed sheet at end l function n arity h e = subst (FormedLine sheet at end) e h

pub overflow_add-at : goal.overflow_add-at
overflow_add-at c =
    let r = (formed _ _ _ _ _ _ _ c.requires.1 c.in-Declare.is).rest in
    let w = (formed _ _ _ _ _ _ _ c.requires.1 c.in-Declare.is).within in
    omega arith

pub slice_bounds-read_name-count : goal.slice_bounds-read_name-count
slice_bounds-read_name-count c = (formed _ _ _ _ _ _ _ c.requires.1 c.in-Declare.is).rest

pub slice_bounds-read_name-start : goal.slice_bounds-read_name-start
slice_bounds-read_name-start c = (formed _ _ _ _ _ _ _ c.requires.1 c.in-Declare.is).rest

pub slice_bounds-read_name-end : goal.slice_bounds-read_name-end
slice_bounds-read_name-end c = (formed _ _ _ _ _ _ _ c.requires.1 c.in-Declare.is).within

pub overflow_add-at-in-Declare : goal.overflow_add-at-in-Declare
overflow_add-at-in-Declare c =
    let r = (formed _ _ _ _ _ _ _ c.requires.1 c.in-Declare.is).rest in
    let w = (formed _ _ _ _ _ _ _ c.requires.1 c.in-Declare.is).within in
    omega arith

pub insert_declaration-requires : goal.insert_declaration-requires
insert_declaration-requires c =
    let f = formed _ _ _ _ _ _ _ c.requires.1 c.in-Declare.is in
    (name_stands _ _ _ _ _ _ f c.read_name-name.ensures, omega arith, f.arity)

pub returns-in_err-more-in-Declare : goal.returns-in_err-more-in-Declare
unfolding take_line
returns-in_err-more-in-Declare c =
    let f = formed _ _ _ _ _ _ _ c.requires.1 c.in-Declare.is in
    let p = err_from_is_err_and c.from_residual.result c.from_residual.ensures.1 in
    rw c.in-Declare.is (taken_err _ Next _ _ _ _
    (name_inserted _ _ _ _ _ _ f c.read_name-name.ensures _ _ _ _ c.insert_declaration.ensures)
    c.in_err-more-in-Declare.was (p.1 ∙ ap Err p.2))

pub returns-in_ok-more-in-Declare : goal.returns-in_ok-more-in-Declare
unfolding take_line
returns-in_ok-more-in-Declare c =
    let f = formed _ _ _ _ _ _ _ c.requires.1 c.in-Declare.is in
    rw c.in-Declare.is (taken_ok _ Next _ _ _
    (name_inserted _ _ _ _ _ _ f c.read_name-name.ensures _ _ _ _ c.insert_declaration.ensures) c.in_ok-more-in-Declare.was)

pub take_node-requires : goal.take_node-requires
unfolding FormedLine
take_node-requires c =
    subst (FormedLine _ _ _) c.in-Node.is c.requires.1

pub returns-in_err-take_node-in-Node : goal.returns-in_err-take_node-in-Node
unfolding take_line
returns-in_err-take_node-in-Node c =
    let p = err_from_is_err_and c.from_residual-in_err-take_node-in-Node.result c.from_residual-in_err-take_node-in-Node.ensures.1 in
    rw c.in-Node.is (taken_err _ Next _ _ _ _ c.take_node.ensures c.in_err-take_node-in-Node.was (p.1 ∙ ap Err p.2))

pub returns-in_ok-take_node-in-Node : goal.returns-in_ok-take_node-in-Node
unfolding take_line
returns-in_ok-take_node-in-Node c = rw c.in-Node.is (taken_ok _ Next _ _ _ c.take_node.ensures c.in_ok-take_node-in-Node.was)

pub returns-in_err-insert_clause-in-Clause : goal.returns-in_err-insert_clause-in-Clause
unfolding take_line
returns-in_err-insert_clause-in-Clause c =
    let p = err_from_is_err_and c.from_residual-in_err-insert_clause-in-Clause.result
    c.from_residual-in_err-insert_clause-in-Clause.ensures.1 in
    rw c.in-Clause.is (taken_err _ Next _ _ _ _ c.insert_clause.ensures c.in_err-insert_clause-in-Clause.was (p.1 ∙ ap Err p.2))

pub returns-in_ok-insert_clause-in-Clause : goal.returns-in_ok-insert_clause-in-Clause
unfolding take_line
returns-in_ok-insert_clause-in-Clause c =
    rw c.in-Clause.is (taken_ok _ Next _ _ _ c.insert_clause.ensures c.in_ok-insert_clause-in-Clause.was)

pub returns-in_err-check_goal-in-Goal : goal.returns-in_err-check_goal-in-Goal
unfolding take_line
returns-in_err-check_goal-in-Goal c =
    let p = err_from_is_err_and c.from_residual-in_err-check_goal-in-Goal.result c.from_residual-in_err-check_goal-in-Goal.ensures.1 in
    rw c.in-Goal.is
    (taken_err _ Last _ _ _ _ (ap (made c.args.t.now) c.check_goal.ensures) c.in_err-check_goal-in-Goal.was (p.1 ∙ ap Err p.2))

pub returns-in_ok-check_goal-in-Goal : goal.returns-in_ok-check_goal-in-Goal
unfolding take_line
returns-in_ok-check_goal-in-Goal c =
    rw c.in-Goal.is (taken_ok _ Last _ _ _ (ap (made c.args.t.now) c.check_goal.ensures) c.in_ok-check_goal-in-Goal.was)
