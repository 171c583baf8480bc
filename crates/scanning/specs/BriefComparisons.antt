-- Comparing two atoms without classes: the arguments and their arguments, and of names those with short terms. Most atoms are compared so; what
-- this leaves undecided is found by classes.
use Rattle.std.specs.Prelude.{ℕ, zero, suc, ◌+◌, ◌-◌, Bool, true, false, cond, List, eqb, ltb, Option, Some, None}
use Rattle.node_table.specs.Layout.{label_of}
use Rattle.scanning.specs.Classes.{node_element, is_name_element, element_node, element_child}
use Rattle.scanning.specs.Instances.{argument_count, start_of, end_of, same_name, same_by_classes}

-- The longest term of a name that is compared: it is compared again wherever the name stands.
abbrev pub brief_bytes : ℕ
brief_bytes = 256

-- The name i and element j. What is found is whether the terms are the same, or none where that is not known.
unfoldable pub brief_name : List ℕ → List ℕ → List ℕ → List ℕ → ℕ → ℕ → ℕ → ℕ → Option Bool
brief_name b t x w f g i j = cond (ltb brief_bytes (end_of w f g i - start_of w f g i)) None (Some (same_name b t x w f g i j))

-- What is found of the first terms, then, if they are the same, of the others.
abbrev pub found_then : Option Bool → Option Bool → Option Bool
found_then (Some z) v = cond z v (Some false)
found_then None v = None

-- So many children of the applications i and j from the k-th on, by the comparison r.
unfoldable pub brief_children : (ℕ → ℕ → Option Bool) → ℕ → List ℕ → ℕ → ℕ → ℕ → Option Bool
brief_children r zero t i j k = Some true
brief_children r (suc n) t i j k =
    found_then (r (element_child t i k) (element_child t j k)) (brief_children r n t i j (k + 1))

-- Two applications: the same symbol or number, and the same children.
unfoldable pub brief_nodes : (ℕ → ℕ → Option Bool) → List ℕ → ℕ → ℕ → Option Bool
brief_nodes r t i j =
    cond (eqb (label_of t (element_node i)) (label_of t (element_node j))) (brief_children r (argument_count t (element_node i)) t i j 0)
    (Some false)

-- Two elements. Applications are compared to the depth that the first argument says.
unfoldable pub brief_elements : ℕ → List ℕ → List ℕ → List ℕ → List ℕ → ℕ → ℕ → ℕ → ℕ → Option Bool
brief_elements zero b t x w f g i j = None
brief_elements (suc n) b t x w f g i j =
    cond (is_name_element i) (brief_name b t x w f g i j)
    (cond (is_name_element j) (brief_name b t x w f g j i) (brief_nodes (brief_elements n b t x w f g) t i j))

-- Two atoms, their arguments, and the arguments of these.
abbrev pub brief_depth : ℕ
brief_depth = 3

-- By classes if it is undecided.
unfoldable pub decided_by : Option Bool → Bool → Bool
decided_by None z = z
decided_by (Some y) z = y

-- The atoms at the nodes k and m, in the frames f and g, are the same.
unfoldable pub same_atoms : List ℕ → List ℕ → List ℕ → List ℕ → ℕ → ℕ → ℕ → ℕ → Bool
same_atoms b t x w f g k m =
    decided_by (brief_elements brief_depth b t x w f g (node_element 0 k) (node_element 1 m)) (same_by_classes b t x w f g k m)
