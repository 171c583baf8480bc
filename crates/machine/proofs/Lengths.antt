-- No act changes the buffer's length.
use Prim.Native.Nat.{ℕ, zero, suc, ◌+◌, ◌-◌, ◌/◌, ◌%◌, min}
use mathlib.Core.Bool.{Bool, true, false, cond}
use mathlib.Core.Path.{◌≡◌, refl, ap, ◌∙◌}
use mathlib.Core.List.{List, [], ◌∷◌}
use lib.Dec.{eqb, ltb, leb}
use lib.ListN.{length}
use Rattle.sheet_format.specs.Limits.{variable_names}
use Rattle.node_table.specs.Layout.{kind_of, label_of, implies_kind}
use Rattle.machine.specs.declared.Registers.{Registers}
use Rattle.machine.specs.Fields as fields
use Rattle.machine.specs.Records.{level_of, put_cell, put_level, Made, made, put_entry, put_goal, put_assumption, put_path, put_use, put_pairs}
use Rattle.machine.specs.Records.{put_nodes, proved_mode, compare_mode, try_mode, take_mode}
use Rattle.machine.specs.Words.{increment, tag_of, name_of, node_of, frame_of, slot_of, variable_word, constant_word, constant_tag}
use Rattle.machine.specs.Words.{variable_tag, binding_of}
use Rattle.machine.specs.Trail.{lower_to, bind_to, old_level, effect, undo_entry, undo}
use Rattle.machine.specs.Frames.{copy_frame, put_variable, put_fresh, put_variables}
use Rattle.machine.specs.ChoicePoints.{save_choice, backtrack, failed}
use Rattle.machine.specs.Goals.{members_left, try_from, take_atom, take_true, take_and, take_or, take_implies, take_exists, put_constant}
use Rattle.machine.specs.Goals.{take_forall, take_goal}
use Rattle.machine.specs.Matching.{compare_closures, compare_leaves, compare_words, compare_pair, bind_value, pass_node, visit_variable}
use Rattle.machine.specs.Matching.{visit_constant, visit_closure, visit_word, check_node, compare_sides, pairs_after, nodes_after, check_word}
use Rattle.machine.specs.Backchaining.{next_member, put_prefix, save_alternative, put_body, put_try, try_member, try_found, try_next}
use Rattle.machine.specs.Machine.{due_act, act, run_acts}
use Rattle.machine.specs.Simulation.{KeepsLength}
use Rattle.machine.proofs.Records.{length_cell, length_level}
use Rattle.machine.proofs.LinkedChains.{length_chain}
use Rattle.machine.proofs.SavedChoices.{saved, save_is}
use Rattle.memory.proofs.Records.{length_put, puts, length_puts}
use Rattle.memory.specs.Records.{field, put_field}
use Rattle.clause_members.specs.declared.Found.{Found}
use Rattle.clause_members.specs.Members.{head_of}

-- By cases of a test: of memories, of what an act leaves.
either : (b : Bool) (x y w : List ℕ) → length x ≡ length w → length y ≡ length w → length (cond b x y) ≡ length w
either true x y w p q = p
either false x y w p q = q

-- What an act leaves.
made_either : (b : Bool) (x y : Made) (w : List ℕ) → length x.memory ≡ length w → length y.memory ≡ length w
    → length (cond b x y).memory ≡ length w
made_either true x y w p q = p
made_either false x y w p q = q

-- Groups of fields

-- Writing a trail entry keeps the length.
length_entry : (w : List ℕ) (u z k y h : ℕ) → length (put_entry w u z k y h) ≡ length w
unfolding put_entry puts
length_entry w u z k y h = length_puts (z ∷ k ∷ y ∷ h ∷ []) w u fields.entry_lowered

-- Writing a goal keeps the length.
length_goal : (w : List ℕ) (u a b c d e : ℕ) → length (put_goal w u a b c d e) ≡ length w
unfolding put_goal puts
length_goal w u a b c d e = length_puts (a ∷ b ∷ c ∷ d ∷ e ∷ []) w u fields.goal_node

-- Writing an assumption keeps the length.
length_assumption : (w : List ℕ) (u a b c : ℕ) → length (put_assumption w u a b c) ≡ length w
unfolding put_assumption puts
length_assumption w u a b c = length_puts (a ∷ b ∷ c ∷ []) w u fields.assumption_node

-- Writing a line of the path keeps the length.
length_path : (w : List ℕ) (u a b : ℕ) → length (put_path w u a b) ≡ length w
unfolding put_path puts
length_path w u a b = length_puts (a ∷ b ∷ []) w u fields.path_before

-- Writing a member's use keeps the length.
length_use : (w : List ℕ) (u a b c : ℕ) → length (put_use w u a b c) ≡ length w
unfolding put_use puts
length_use w u a b c = length_puts (a ∷ b ∷ c ∷ []) w u fields.use_place

-- Saving a choice point keeps the length.
length_choice : (w : List ℕ) (u : ℕ) (r : Registers) → length (save_choice w u r) ≡ length w
length_choice w u r = ap length (save_is w u r) ∙ length_puts (saved r) w u fields.variables

-- Writing pairs keeps the length.
length_pairs : (w : List ℕ) (u a b c d e : ℕ) → length (put_pairs w u a b c d e) ≡ length w
unfolding put_pairs puts
length_pairs w u a b c d e = length_puts (a ∷ b ∷ c ∷ d ∷ e ∷ []) w u fields.goal_side_node

-- Writing nodes keeps the length.
length_nodes : (w : List ℕ) (u a b c : ℕ) → length (put_nodes w u a b c) ≡ length w
unfolding put_nodes puts
length_nodes w u a b c = length_puts (a ∷ b ∷ c ∷ []) w u fields.goal_side_node

-- The trail

-- Lowering a level keeps the length.
length_lower_to : (w : List ℕ) (a k : ℕ) → length (lower_to w a k) ≡ length w
unfolding lower_to
length_lower_to w a k = either (eqb a 0) w (put_level w (name_of a) k) w refl (length_level w (name_of a) k)

-- Binding a variable keeps the length.
length_bind_to : (w : List ℕ) (a v : ℕ) → length (bind_to w a v) ≡ length w
unfolding bind_to
length_bind_to w a v = either (eqb a 0) w (put_cell w (name_of a) v) w refl (length_cell w (name_of a) v)

-- Lowering and binding with their trail entry keeps the length.
length_effect : (w : List ℕ) (u z k y v h : ℕ) → length (effect w u z k y v h) ≡ length w
unfolding effect
length_effect w u z k y v h =
    length_entry (bind_to (lower_to w z k) y v) u z (old_level w z) y h ∙ length_bind_to (lower_to w z k) y v ∙ length_lower_to w z k

-- Undoing one entry keeps the length.
length_undo_entry : (w : List ℕ) (q : ℕ) → length (undo_entry w q) ≡ length w
unfolding undo_entry
length_undo_entry w q =
    length_lower_to (bind_to w (field w q fields.entry_bound) 0) (field w q fields.entry_lowered) (field w q fields.entry_level)
    ∙ length_bind_to w (field w q fields.entry_bound) 0

-- Undoing several entries keeps the length.
length_undo : (n : ℕ) (w : List ℕ) (h mark : ℕ) → length (undo n w h mark) ≡ length w
unfolding undo
length_undo zero w h mark = refl
length_undo (suc n) w h mark =
    go (eqb h mark) (length_undo n (undo_entry w (h - 1)) (field w (h - 1) fields.entry_before) mark ∙ length_undo_entry w (h - 1))
  where
    go : (b : Bool) → length (undo n (undo_entry w (h - 1)) (field w (h - 1) fields.entry_before) mark) ≡ length w
        → length {A = ℕ} (elim b [ true ↦ w | false ↦ undo n (undo_entry w (h - 1)) (field w (h - 1) fields.entry_before) mark ]) ≡ length w
    go true i = refl
    go false i = i

-- Taking up an alternative keeps the length.
pub length_failed : (w : List ℕ) (r : Registers) → length (failed w r).memory ≡ length w
unfolding failed backtrack
length_failed w r =
    made_either (eqb r.choice 0) _ (backtrack w r (r.choice - 1)) w refl
    (length_undo r.trail w r.trail (field w (r.choice - 1) fields.choice_trail))

-- Frames

-- Copying a frame keeps the length.
length_copy : (n : ℕ) (w : List ℕ) (u f v : ℕ) → length (copy_frame n w u f v) ≡ length w
unfolding copy_frame
length_copy zero w u f v = refl
length_copy (suc n) w u f v =
    length_copy n (put_field w u (fields.frame + v) (slot_of w f v)) u f (suc v) ∙ length_put w u (fields.frame + v) (slot_of w f v)

-- Making a variable keeps the length.
length_variable : (w : List ℕ) (x i : ℕ) → length (put_variable w x i) ≡ length w
unfolding put_variable
length_variable w x i = length_level (put_cell w x 0) x i ∙ length_cell w x 0

-- Making the variables of a prefix keeps the length.
length_fresh : (n : ℕ) (w : List ℕ) (u vs x i : ℕ) → length (put_fresh n w u vs x i) ≡ length w
unfolding put_fresh
length_fresh zero w u vs x i = refl
length_fresh (suc n) w u vs x i =
    length_fresh n (put_field (put_variable w x i) u (fields.frame + vs % 8) (variable_word x)) u (vs / 8) (increment x) i
    ∙ length_put (put_variable w x i) u (fields.frame + vs % 8) (variable_word x) ∙ length_variable w x i

-- Making the variables of the goal keeps the length.
pub length_variables : (n : ℕ) (w : List ℕ) (x : ℕ) → length (put_variables n w x) ≡ length w
unfolding put_variables
length_variables zero w x = refl
length_variables (suc n) w x = length_variables n (put_variable w x 0) (suc x) ∙ length_variable w x 0

-- Acts

-- Going on with a member keeps the length.
length_try_from : (c : ℕ) (w : List ℕ) (r : Registers) → length (try_from c w r).memory ≡ length w
unfolding try_from
length_try_from c w r = made_either (members_left c r) _ (failed w r) w refl (length_failed w r)

-- Taking a goal keeps the length.
length_take : (t : List ℕ) (c : ℕ) (w : List ℕ) (r : Registers) → length (take_goal t c w r).memory ≡ length w
unfolding take_goal take_atom take_true take_and take_or take_implies take_exists take_forall put_constant
length_take t c w r =
    made_either (eqb k 2) (take_atom t c w r) _ w (length_try_from c w _)
    (made_either (eqb k 4) (take_and t w r) _ w (length_goal path u _ _ _ _ _ ∙ path_kept)
    (made_either (eqb k 5) (take_or t w r) _ w (length_choice path u _ ∙ path_kept)
    (made_either (eqb k 6) (take_implies t w r) _ w
    (length_chain (put_assumption path u _ _ _) u r.program ∙ length_assumption path u _ _ _ ∙ path_kept)
    (made_either (eqb k 7) (take_exists t w r) _ w (length_put (put_path x u r.path r.line) u fields.variables r.next
    ∙ length_path x u r.path r.line ∙ length_fresh 1 copy u (label_of t r.node) r.next r.level ∙ copied)
    (made_either (eqb k 8) (take_forall t w r) (take_true w r) w (length_path y u r.path r.line
    ∙ length_put (put_field copy u fields.constant_level (increment r.level)) u (fields.frame + label_of t r.node) (constant_word u)
    ∙ length_put copy u fields.constant_level (increment r.level) ∙ copied) path_kept)))))
  where
    k : ℕ
    k = kind_of t r.node

    u : ℕ
    u = r.acts

    path : List ℕ
    path = put_path w u r.path r.line

    path_kept : length path ≡ length w
    path_kept = length_path w u r.path r.line

    copy : List ℕ
    copy = copy_frame variable_names w u r.frame 0

    copied : length copy ≡ length w
    copied = length_copy 8 w u r.frame 0

    x : List ℕ
    x = put_fresh 1 copy u (label_of t r.node) r.next r.level

    y : List ℕ
    y = put_field (put_field copy u fields.constant_level (increment r.level)) u (fields.frame + label_of t r.node) (constant_word u)

-- Comparing a pair keeps the length.
length_compare_words : (t w : List ℕ) (r : Registers) (e x y : ℕ) → length (compare_words t w r e x y).memory ≡ length w
unfolding compare_words compare_leaves compare_closures
length_compare_words t w r e x y =
    made_either (eqb (tag_of x) variable_tag) _ _ w (made_either (eqb x y) _ _ w refl refl)
    (made_either (eqb (tag_of y) variable_tag) _ _ w refl
    (made_either (eqb (tag_of x) constant_tag) _ _ w (made_either (eqb x y) _ (failed w r) w refl (length_failed w r))
    (made_either (eqb (tag_of y) constant_tag) (failed w r) _ w (length_failed w r)
    (made_either (eqb (label_of t (node_of x)) (label_of t (node_of y))) _ (failed w r) w
    (length_pairs w r.acts (node_of x) (frame_of x) (node_of y) (frame_of y) e) (length_failed w r)))))

-- Going on after a node keeps the length.
length_pass_node : (w : List ℕ) (r : Registers) (z k e : ℕ) → length (pass_node w r z k e).memory ≡ length w
unfolding pass_node bind_value
length_pass_node w r z k e =
    made_either (eqb e 0) (bind_value w r z k) _ w (length_effect w r.acts z k r.left r.right r.trail)
    (length_effect w r.acts z k 0 0 r.trail)

-- Looking at a node keeps the length.
length_visit_word : (t w : List ℕ) (r : Registers) (e x : ℕ) → length (visit_word t w r e x).memory ≡ length w
unfolding visit_word visit_variable visit_constant visit_closure
length_visit_word t w r e x =
    made_either (eqb (tag_of x) variable_tag) (visit_variable w r e x) _ w
    (made_either (eqb x r.left) (failed w r) _ w (length_failed w r)
    (length_pass_node w r x (min (level_of w (name_of x)) (level_of w (name_of r.left))) e))
    (made_either (eqb (tag_of x) constant_tag) (visit_constant w r e x) (visit_closure t w r e x) w
    (made_either (leb (field w (name_of x) fields.constant_level) (level_of w (name_of r.left))) _ (failed w r) w
    (length_pass_node w r 0 0 e) (length_failed w r))
    (length_pass_node (put_nodes w r.acts (node_of x) (frame_of x) e) r 0 0 _ ∙ length_nodes w r.acts (node_of x) (frame_of x) e))

-- One act on a pair keeps the length, whether it follows a binding or compares; and one act on a node.
length_compare_sides : (t w : List ℕ) (r : Registers) (x y : ℕ) → length (compare_sides t w r x y).memory ≡ length w
unfolding compare_sides
length_compare_sides t w r x y =
    made_either (eqb (binding_of w x) 0) _ _ w
    (made_either (eqb (binding_of w y) 0) (compare_words t w r (pairs_after t w r.pairs) x y) _ w (length_compare_words t w r _ x y)
    refl) refl

length_check_word : (t w : List ℕ) (r : Registers) (x : ℕ) → length (check_word t w r x).memory ≡ length w
unfolding check_word
length_check_word t w r x =
    made_either (eqb (binding_of w x) 0) (visit_word t w r (nodes_after t w r.nodes) x) _ w (length_visit_word t w r _ x) refl

-- Trying a member keeps the length.
length_try_found : (t : List ℕ) (c : ℕ) (w : List ℕ) (r : Registers) (m : Found) → length (try_found t c w r m).memory ≡ length w
unfolding try_found try_member put_try put_body save_alternative put_prefix
length_try_found t c w r m =
    made_either (eqb (label_of t r.node) (label_of t (head_of t m.leaf))) (try_member t c w r m (next_member t c w r))
    (try_from c w (next_member t c w r)) w
    (length_pairs (put_try t c (put_prefix w r m) r m (next_member t c w r)) u _ _ _ _ _
    ∙ either (eqb (kind_of t m.leaf) implies_kind) _ others others (length_goal others u _ _ _ _ _) refl
    ∙ either (members_left c (next_member t c w r)) _ used used (length_choice used u (next_member t c w r)) refl
    ∙ length_use (put_path (put_prefix w r m) u r.path r.line) u r.place m.count r.next
    ∙ length_path (put_prefix w r m) u r.path r.line
    ∙ length_fresh m.count _ u m.names r.next r.level ∙ length_copy 8 w u _ 0)
    (length_try_from c w (next_member t c w r))
  where
    u : ℕ
    u = r.acts

    used : List ℕ
    used = put_use (put_path (put_prefix w r m) u r.path r.line) u r.place m.count r.next

    others : List ℕ
    others = save_alternative c used u (next_member t c w r)

-- Any act keeps the length.
pub length_act : (t : List ℕ) (c : ℕ) (w : List ℕ) (r : Registers) → length (act t c w r).memory ≡ length w
unfolding act due_act try_next compare_pair check_node
length_act t c w r =
    made_either (eqb r.mode take_mode) (take_goal t c w r) _ w (length_take t c w r)
    (made_either (eqb r.mode try_mode) (try_next t c w r) _ w (length_try_found t c w r _)
    (made_either (eqb r.mode compare_mode) (compare_pair t w r) (check_node t w r) w (length_compare_sides t w r _ _)
    (length_check_word t w r _)))

-- Any number of acts keeps the length.
pub keeps_length : KeepsLength
unfolding run_acts
keeps_length zero t c w r = refl
keeps_length (suc n) t c w r =
    go (ltb r.mode proved_mode) (keeps_length n t c (act t c w r).memory (act t c w r).registers ∙ length_act t c w r)
  where
    R : Made
    R = run_acts n t c (act t c w r).memory (act t c w r).registers

    M : Bool → Made
    M b = elim b [ true ↦ R | false ↦ made w r ]

    go : (b : Bool) → length R.memory ≡ length w → length (M b).memory ≡ length w
    go true i = i
    go false i = refl
