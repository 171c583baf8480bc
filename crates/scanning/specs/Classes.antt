-- Classes of terms that are known to be the same, as a forest: the number at an element's position is its parent, 0 for none (union-find).
-- The elements are names and applications of the table on two sides, each with a frame of its own.
--
--   16 .. 31      name v on side s: 2 * v + s + 16
--   2048 .. 4095  application m on side s: 2 * m + s + 2048
use Rattle.std.specs.Prelude.{ℕ, zero, suc, ◌+◌, ◌*◌, ◌/◌, ◌%◌, Bool, cond, List, eqb, ltb, get_or, set, replicate}
use Rattle.sheet_format.specs.Limits.{max_nodes, variable_names}
use Rattle.node_table.specs.Layout.{kind_of, label_of, child_of, variable_kind}

-- elements

-- The first name, the first application, and how many elements there are.
abbrev pub first_name : ℕ
first_name = 16

abbrev pub first_application : ℕ
first_application = 2048

abbrev pub element_count : ℕ
element_count = 4096

-- Name v on side s. The remainders here do nothing where the name and the node are ones of the table.
unfoldable pub name_element : ℕ → ℕ → ℕ
name_element s v = 2 * (v % variable_names) + (s + first_name)

-- The application at node m on side s is element 2 * m + s + 2048.
unfoldable pub node_element : ℕ → ℕ → ℕ
node_element s m = 2 * (m % max_nodes) + (s + first_application)

-- The element of node m on side s.
unfoldable pub element_of : List ℕ → ℕ → ℕ → ℕ
element_of t s m = cond (eqb (kind_of t m) variable_kind) (name_element s (label_of t m)) (node_element s m)

-- A name, or else an application.
unfoldable pub is_name_element : ℕ → Bool
is_name_element i = ltb i first_application

-- The side of an element is its remainder by 2.
unfoldable pub element_side : ℕ → ℕ
element_side i = i % 2

-- Gives the name that an element stands for.
unfoldable pub element_name : ℕ → ℕ
element_name i = i / 2 % variable_names

-- Gives the node that an element stands for.
unfoldable pub element_node : ℕ → ℕ
element_node i = i / 2 % max_nodes

-- The element of the j-th child of application i.
unfoldable pub element_child : List ℕ → ℕ → ℕ → ℕ
element_child t i j = element_of t (element_side i) (child_of t (element_node i) j)

-- The frame of side s, of f and g.
unfoldable pub side_frame : ℕ → ℕ → ℕ → ℕ
side_frame f g s = cond (eqb s 0) f g

-- classes

-- Each element in a class of its own.
unfoldable pub separate : List ℕ
separate = replicate element_count 0

-- A representative, and the forest that the search for it leaves.
pub record Rooted : Type 0 where
  pub classes : List ℕ
  pub root : ℕ

-- Classes and a representative make a record.
abbrev pub rooted : List ℕ → ℕ → Rooted
rooted c i = record { classes = c; root = i }

-- The representative of element i, in at most n steps of two. Each goes to the grandparent, and makes it the parent (path halving).
unfoldable pub root_from : ℕ → List ℕ → ℕ → Rooted
root_from zero c i = rooted c i
root_from (suc n) c i =
    cond (eqb (get_or c i 0) 0) (rooted c i)
    (cond (eqb (get_or c (get_or c i 0) 0) 0) (rooted c (get_or c i 0)) (root_from n (set c i (get_or c (get_or c i 0) 0)) (get_or c (get_or c i 0) 0)))

-- A way through the elements has at most as many steps as there are elements.
abbrev pub root_steps : ℕ
root_steps = 1032

-- An element is kept within them.
unfoldable pub root_of : List ℕ → ℕ → Rooted
root_of c i = root_from root_steps c i
