use mathlib.Core.Path.{subst}
use Rattle.sheet_reader.specs.Reader.{FormedNode, take_node}
use Rattle.sheet_reader.proofs.sheet_lines.take_node.Goals as goal

pub insert_variable-requires : goal.insert_variable-requires
unfolding FormedNode
insert_variable-requires c =
    subst FormedNode c.in-Variable.is c.requires

pub insert_numeral-requires : goal.insert_numeral-requires
unfolding FormedNode
insert_numeral-requires c =
    subst FormedNode c.in-Numeral.is c.requires

pub insert_application-requires : goal.insert_application-requires
unfolding FormedNode
insert_application-requires c =
    subst FormedNode c.in-Apply.is c.requires

pub returns-in-Variable : goal.returns-in-Variable
unfolding take_node
returns-in-Variable c =
    rw c.in-Variable.is c.insert_variable.ensures

pub returns-in-Numeral : goal.returns-in-Numeral
unfolding take_node
returns-in-Numeral c =
    rw c.in-Numeral.is c.insert_numeral.ensures

pub returns-in-Apply : goal.returns-in-Apply
unfolding take_node
returns-in-Apply c =
    rw c.in-Apply.is c.insert_application.ensures

pub returns-in-True : goal.returns-in-True
unfolding take_node
returns-in-True c =
    rw c.in-True.is c.insert_true.ensures

pub returns-in-And : goal.returns-in-And
unfolding take_node
returns-in-And c =
    rw c.in-And.is c.insert_and.ensures

pub returns-in-Or : goal.returns-in-Or
unfolding take_node
returns-in-Or c =
    rw c.in-Or.is c.insert_or.ensures

pub returns-in-Implies : goal.returns-in-Implies
unfolding take_node
returns-in-Implies c =
    rw c.in-Implies.is c.insert_implies.ensures

pub returns-in-Exists : goal.returns-in-Exists
unfolding take_node
returns-in-Exists c =
    rw c.in-Exists.is c.insert_exists.ensures

pub returns-in-Forall : goal.returns-in-Forall
unfolding take_node
returns-in-Forall c =
    rw c.in-Forall.is c.insert_forall.ensures
