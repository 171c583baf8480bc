-- The fields of a record of the work buffer. What act u makes goes to record u. They are in the order of how they change:
-- bindings and levels
-- of variables; the trail; what is written once. A pointer is the number of a record plus 1, 0 for none. Nothing is read that
-- was not written:
-- a lent buffer may hold anything.
use Rattle.std.specs.Prelude.{ℕ}

-- 0 .. 8: bindings of nine variables: variable x is number x % 9 of record x / 9; a word (Words), 0 where it is unbound. 9 ..
-- 17: their levels.
abbrev pub cells : ℕ
cells = 9

abbrev pub levels : ℕ
levels = 9

-- Trail entry: word of the variable lowered (0: none), its old level, word of the variable bound (0: none), entry before.
abbrev pub entry_lowered : ℕ
entry_lowered = 18

abbrev pub entry_level : ℕ
entry_level = 19

abbrev pub entry_bound : ℕ
entry_bound = 20

abbrev pub entry_before : ℕ
entry_before = 21

-- Level of the constant that this act makes.
abbrev pub constant_level : ℕ
constant_level = 22

-- 23 .. 30: frame: a word for each of the eight names.
abbrev pub frame : ℕ
frame = 23

-- Goal that waits: node, frame, assumptions, level, next goal.
abbrev pub goal_node : ℕ
goal_node = 31

abbrev pub goal_frame : ℕ
goal_frame = 32

abbrev pub goal_program : ℕ
goal_program = 33

abbrev pub goal_level : ℕ
goal_level = 34

abbrev pub goal_next : ℕ
goal_next = 35

-- Assumption: clause's node, frame, next assumption; depth, jump and oldest (AssumptionChains) have the numbers of `use_place`, `use_count`
-- and `variables`, since an act that assumes a clause uses no member, makes no variable and saves no choice point (W-207).
abbrev pub assumption_node : ℕ
assumption_node = 36

abbrev pub assumption_frame : ℕ
assumption_frame = 37

abbrev pub assumption_next : ℕ
assumption_next = 38

abbrev pub assumption_depth : ℕ
assumption_depth = 41

abbrev pub assumption_jump : ℕ
assumption_jump = 42

abbrev pub assumption_oldest : ℕ
assumption_oldest = 43

-- Path: line before (pointer, then which line it is), place, number of names, number of variables before this act.
abbrev pub path_before : ℕ
path_before = 39

abbrev pub path_line : ℕ
path_line = 40

abbrev pub use_place : ℕ
use_place = 41

abbrev pub use_count : ℕ
use_count = 42

abbrev pub variables : ℕ
variables = 43

-- Choice point: trail, choice point before, goals, path (pointer, line), node, frame, assumptions, level, then assumption,
-- clause, member and
-- place of the member to try; place 0: a goal to take. Its variables: field 43.
abbrev pub choice_trail : ℕ
choice_trail = 44

abbrev pub choice_before : ℕ
choice_before = 45

abbrev pub choice_goals : ℕ
choice_goals = 46

abbrev pub choice_path : ℕ
choice_path = 47

abbrev pub choice_line : ℕ
choice_line = 48

abbrev pub choice_node : ℕ
choice_node = 49

abbrev pub choice_frame : ℕ
choice_frame = 50

abbrev pub choice_program : ℕ
choice_program = 51

abbrev pub choice_level : ℕ
choice_level = 52

abbrev pub choice_hypothesis : ℕ
choice_hypothesis = 53

abbrev pub choice_clause : ℕ
choice_clause = 54

abbrev pub choice_member : ℕ
choice_member = 55

abbrev pub choice_place : ℕ
choice_place = 56

-- Pairs that wait: node and frame of the goal's side, of the clause's side, pairs after them.
abbrev pub goal_side_node : ℕ
goal_side_node = 57

abbrev pub goal_side_frame : ℕ
goal_side_frame = 58

abbrev pub clause_side_node : ℕ
clause_side_node = 59

abbrev pub clause_side_frame : ℕ
clause_side_frame = 60

abbrev pub pairs_after : ℕ
pairs_after = 61

-- Nodes that wait in a range check (no act makes both): node, frame, nodes after them.
abbrev pub waiting_node : ℕ
waiting_node = 57

abbrev pub waiting_frame : ℕ
waiting_frame = 58

abbrev pub waiting_after : ℕ
waiting_after = 59

-- The fields from this one on are the writer's: the search neither reads nor writes them, so that it goes on after a proof was written
-- (request W-202).
abbrev pub writers : ℕ
writers = 62
