-- Changes of the registers, a few at a time.
use Rattle.std.specs.Prelude.{ℕ}
use Rattle.machine.specs.declared.Registers.{Registers}
use Rattle.machine.specs.Records.{check_mode, compare_mode, take_mode}

-- All registers, in the order of the struct.
abbrev pub registers : ℕ → ℕ → ℕ → ℕ → ℕ → ℕ → ℕ → ℕ → ℕ → ℕ → ℕ → ℕ → ℕ → ℕ → ℕ → ℕ → ℕ → ℕ → ℕ → ℕ → Registers
registers acts mode next trail choice goals path line node frame program level hypothesis clause member place left right pairs nodes =
    record {
      acts = acts;
      mode = mode;
      next = next;
      trail = trail;
      choice = choice;
      goals = goals;
      path = path;
      line = line;
      node = node;
      frame = frame;
      program = program;
      level = level;
      hypothesis = hypothesis;
      clause = clause;
      member = member;
      place = place;
      left = left;
      right = right;
      pairs = pairs;
      nodes = nodes;
    }

-- One more act is done.
unfoldable pub with_acts : Registers → ℕ → Registers
with_acts r a =
    registers a r.mode r.next r.trail r.choice r.goals r.path r.line r.node r.frame r.program r.level
    r.hypothesis r.clause r.member r.place r.left r.right r.pairs r.nodes

-- The act that is due, or the verdict.
unfoldable pub with_mode : Registers → ℕ → Registers
with_mode r m =
    registers r.acts m r.next r.trail r.choice r.goals r.path r.line r.node r.frame r.program r.level
    r.hypothesis r.clause r.member r.place r.left r.right r.pairs r.nodes

-- Variables have been made.
unfoldable pub with_next : Registers → ℕ → Registers
with_next r n =
    registers r.acts r.mode n r.trail r.choice r.goals r.path r.line r.node r.frame r.program r.level
    r.hypothesis r.clause r.member r.place r.left r.right r.pairs r.nodes

-- The latest trail entry.
unfoldable pub with_trail : Registers → ℕ → Registers
with_trail r h =
    registers r.acts r.mode r.next h r.choice r.goals r.path r.line r.node r.frame r.program r.level
    r.hypothesis r.clause r.member r.place r.left r.right r.pairs r.nodes

-- The latest choice point.
unfoldable pub with_choice : Registers → ℕ → Registers
with_choice r q =
    registers r.acts r.mode r.next r.trail q r.goals r.path r.line r.node r.frame r.program r.level
    r.hypothesis r.clause r.member r.place r.left r.right r.pairs r.nodes

-- The goals that wait.
unfoldable pub with_goals : Registers → ℕ → Registers
with_goals r q =
    registers r.acts r.mode r.next r.trail r.choice q r.path r.line r.node r.frame r.program r.level
    r.hypothesis r.clause r.member r.place r.left r.right r.pairs r.nodes

-- The latest line of the path.
unfoldable pub with_path : Registers → ℕ → ℕ → Registers
with_path r p l =
    registers r.acts r.mode r.next r.trail r.choice r.goals p l r.node r.frame r.program r.level
    r.hypothesis r.clause r.member r.place r.left r.right r.pairs r.nodes

-- A goal is due.
unfoldable pub with_goal : Registers → ℕ → ℕ → ℕ → ℕ → Registers
with_goal r n f h i =
    registers r.acts take_mode r.next r.trail r.choice r.goals r.path r.line n f h i r.hypothesis r.clause
    r.member r.place r.left r.right r.pairs r.nodes

-- The member to try.
unfoldable pub with_member : Registers → ℕ → ℕ → ℕ → ℕ → Registers
with_member r h c k p =
    registers r.acts r.mode r.next r.trail r.choice r.goals r.path r.line r.node r.frame r.program
    r.level h c k p r.left r.right r.pairs r.nodes

-- A pair is due, with the words that its record has.
unfoldable pub with_pairs : Registers → ℕ → Registers
with_pairs r a =
    registers r.acts compare_mode r.next r.trail r.choice r.goals r.path r.line r.node r.frame r.program
    r.level r.hypothesis r.clause r.member r.place 0 r.right a r.nodes

-- The words of the pair that is due, after a binding has been followed.
unfoldable pub with_sides : Registers → ℕ → ℕ → Registers
with_sides r x y =
    registers r.acts r.mode r.next r.trail r.choice r.goals r.path r.line r.node r.frame r.program
    r.level r.hypothesis r.clause r.member r.place x y r.pairs r.nodes

-- A range check is due, of the value v for the variable x; then the pairs a. Its first node is the whole value.
unfoldable pub with_check : Registers → ℕ → ℕ → ℕ → Registers
with_check r a x v =
    registers r.acts check_mode r.next r.trail r.choice r.goals r.path r.line v r.frame r.program r.level
    r.hypothesis r.clause r.member r.place x v a 0

-- The word of the node of a range check that is due, after a binding has been followed.
unfoldable pub with_due : Registers → ℕ → Registers
with_due r x =
    registers r.acts r.mode r.next r.trail r.choice r.goals r.path r.line x r.frame r.program r.level
    r.hypothesis r.clause r.member r.place r.left r.right r.pairs r.nodes

-- The nodes of a range check that wait, the first of them due.
unfoldable pub with_nodes : Registers → ℕ → Registers
with_nodes r a =
    registers r.acts r.mode r.next r.trail r.choice r.goals r.path r.line 0 r.frame r.program r.level
    r.hypothesis r.clause r.member r.place r.left r.right r.pairs a
