-- Comparing instances of sheet terms without unfolding them: a node of the table with a frame, whose names are positions in the text. Terms
-- found to be the same are put into one class, so the work grows with the nodes of two atoms and with the texts of their names, however
-- often these stand in the atoms.
use Rattle.std.specs.Prelude.{ℕ, zero, suc, ◌+◌, ◌-◌, ◌%◌, Bool, true, false, cond, List, eqb, leb, ltb, length, get_or, set, Option, Some, None}
use Prim.Native.Char.{code}
use Rattle.sheet_format.specs.Limits.{max_symbols, max_nodes}
use Rattle.node_table.specs.Layout.{kind_of, child_count, label_of, child_of, name_start, variable_kind}
use Rattle.scanning.specs.Ranges.{same_folded, scan_number}
use Rattle.scanning.specs.Scanning.{name_size}
use Rattle.scanning.specs.Frames.{slot_start, slot_end}
use Rattle.scanning.specs.Classes.{node_element, is_name_element, element_side, element_name, element_node, element_child, side_frame}
use Rattle.scanning.specs.Classes.{separate}
use Rattle.scanning.specs.Classes.{root_of}

-- How far a text goes along with the spelling of an instance.
abbrev pub Reach : Type 0
Reach = Option ℕ

-- Two terms of the text, from s to e and from i to j, names in either case. Where they start at one position they are one term.
unfoldable pub same_slots : List ℕ → ℕ → ℕ → ℕ → ℕ → Bool
same_slots x s e i j = cond (eqb s i) true (cond (eqb (e - s) (j - i)) (same_folded (e - s) x s x i) false)

-- going along with a spelling

-- The n bytes of a from s on stand at position i, within the text, names in either case.
unfoldable pub match_range : ℕ → List ℕ → ℕ → List ℕ → ℕ → Reach
match_range n a s x i = cond (leb n (length x - i)) (cond (same_folded n a s x i) (Some (i + n)) None) None

-- So does the name of symbol k.
unfoldable pub match_name : List ℕ → List ℕ → ℕ → List ℕ → ℕ → Reach
match_name b t k x i = match_range (name_size b t k) b (name_start t k) x i

-- So does the number n: it is the number at position i.
unfoldable pub match_number : ℕ → List ℕ → ℕ → Reach
match_number n x i = elim (scan_number x i) [ Some (m, e) ↦ cond (eqb m n) (Some e) None | None ↦ None ]

-- So does what the label l stands for, a symbol or a number (`functor_of` in node_table/specs/Decoding).
unfoldable pub match_functor : List ℕ → List ℕ → ℕ → List ℕ → ℕ → Reach
match_functor b t l x i = cond (ltb l max_symbols) (match_name b t l x i) (match_number (l - max_symbols) x i)

-- So does the term of name v in frame g.
unfoldable pub match_slot : List ℕ → List ℕ → ℕ → ℕ → ℕ → Reach
match_slot x w g v i = match_range (slot_end w g v - slot_start w g v) x (slot_start w g v) x i

-- Above every number of children.
abbrev pub child_limit : ℕ
child_limit = 8

-- How many children node m has, and the j-th of them. The remainders do nothing where the node is one of the table.
unfoldable pub argument_count : List ℕ → ℕ → ℕ
argument_count t m = child_count t m % child_limit

unfoldable pub argument_of : List ℕ → ℕ → ℕ → ℕ
argument_of t m j = child_of t m j % max_nodes

-- So do n children of node m from the j-th on, the first after the byte c, each other one after a comma, and the closing bracket.
unfoldable pub match_more : (ℕ → ℕ → Reach) → ℕ → List ℕ → ℕ → ℕ → List ℕ → ℕ → ℕ → Reach
match_more r zero t m j x c i = cond (eqb (get_or x i 0) (code ")")) (Some (i + 1)) None
match_more r (suc n) t m j x c i =
    cond (eqb (get_or x i 0) c) (elim (r (argument_of t m j) (i + 1)) [ Some e ↦ match_more r n t m (j + 1) x (code ",") e | None ↦ None ])
    None

-- All children of node m stand at position i, in brackets if there are any.
unfoldable pub match_arguments : (ℕ → ℕ → Reach) → List ℕ → ℕ → List ℕ → ℕ → Reach
match_arguments r t m x i = cond (eqb (argument_count t m) 0) (Some i) (match_more r (argument_count t m) t m 0 x (code "(") i)

-- The symbol or the number of node m stands at position i, and after it the node's children.
unfoldable pub match_application : (ℕ → ℕ → Reach) → List ℕ → List ℕ → ℕ → List ℕ → ℕ → Reach
match_application r b t m x i = elim (match_functor b t (label_of t m) x i) [ Some e ↦ match_arguments r t m x e | None ↦ None ]

-- The instance of node m in frame g stands at position i. Children have smaller numbers: the first argument is above the node's.
unfoldable pub match_instance : ℕ → List ℕ → List ℕ → List ℕ → List ℕ → ℕ → ℕ → ℕ → Reach
match_instance zero b t x w g m i = None
match_instance (suc f) b t x w g m i =
    cond (eqb (kind_of t m) variable_kind)
    (match_slot x w g (label_of t m) i)
    (match_application (match_instance f b t x w g) b t m x i)

-- The term of the text from s to e is the instance of node m in frame g.
unfoldable pub ends_at : Reach → ℕ → Bool
ends_at (Some i) e = eqb i e
ends_at None e = false

-- The instance of node m in frame g stands at position s and ends at e.
unfoldable pub is_instance : List ℕ → List ℕ → List ℕ → List ℕ → ℕ → ℕ → ℕ → ℕ → Bool
is_instance b t x w s e g m = ends_at (match_instance max_nodes b t x w g m s) e

-- two instances

-- What a comparison leaves: the classes, and whether the terms are the same.
pub record Compared : Type 0 where
  pub classes : List ℕ
  pub same : Bool

-- Classes and the result of a comparison make a record.
abbrev pub compared : List ℕ → Bool → Compared
compared c z = record { classes = c; same = z }

-- Element i joins the class of element j if their terms are the same.
unfoldable pub joined : Compared → ℕ → ℕ → Compared
joined o i j = cond o.same (compared (set o.classes i j) true) (compared o.classes false)

-- Where the term of name i starts, in its side's frame.
unfoldable pub start_of : List ℕ → ℕ → ℕ → ℕ → ℕ
start_of w f g i = slot_start w (side_frame f g (element_side i)) (element_name i)

-- Gives the position where the term of name i ends, in its side's frame.
unfoldable pub end_of : List ℕ → ℕ → ℕ → ℕ → ℕ
end_of w f g i = slot_end w (side_frame f g (element_side i)) (element_name i)

-- The term of name i is that of element j, a name or an application.
unfoldable pub same_name : List ℕ → List ℕ → List ℕ → List ℕ → ℕ → ℕ → ℕ → ℕ → Bool
same_name b t x w f g i j =
    cond (is_name_element j) (same_slots x (start_of w f g i) (end_of w f g i) (start_of w f g j) (end_of w f g j))
    (is_instance b t x w (start_of w f g i) (end_of w f g i) (side_frame f g (element_side j)) (element_node j))

-- A name joins the class of an element with the same term.
unfoldable pub join_name : List ℕ → List ℕ → List ℕ → List ℕ → ℕ → ℕ → List ℕ → ℕ → ℕ → Compared
join_name b t x w f g c i j = joined (compared c (same_name b t x w f g i j)) i j

-- Compares n children of the applications i and j from the k-th on, by the comparison r.
unfoldable pub same_children : (List ℕ → ℕ → ℕ → Compared) → ℕ → List ℕ → ℕ → ℕ → ℕ → List ℕ → Compared
same_children r zero t i j k c = compared c true
same_children r (suc n) t i j k c =
    let o = r c (element_child t i k) (element_child t j k) in
    cond o.same (same_children r n t i j (k + 1) o.classes) o

-- Two applications: the same symbol or number, and the same children.
unfoldable pub same_nodes : (List ℕ → ℕ → ℕ → Compared) → List ℕ → ℕ → ℕ → List ℕ → Compared
same_nodes r t i j c =
    cond (eqb (label_of t (element_node i)) (label_of t (element_node j)))
    (joined (same_children r (argument_count t (element_node i)) t i j 0 c) i j) (compared c false)

-- Two representatives. Of an application the children are at hand, so a name joins it.
unfoldable pub same_roots : (List ℕ → ℕ → ℕ → Compared) → List ℕ → List ℕ → List ℕ → List ℕ → ℕ → ℕ → ℕ → ℕ → List ℕ → Compared
same_roots r b t x w f g i j c =
    cond (eqb i j) (compared c true)
    (cond (is_name_element i) (join_name b t x w f g c i j) (cond (is_name_element j) (join_name b t x w f g c j i) (same_nodes r t i j c)))

-- Two elements. Comparisons are nested less deep than the first argument says.
unfoldable pub same_elements : ℕ → List ℕ → List ℕ → List ℕ → List ℕ → ℕ → ℕ → List ℕ → ℕ → ℕ → Compared
same_elements zero b t x w f g c i j = compared c false
same_elements (suc n) b t x w f g c i j =
    let p = root_of c i in
    let q = root_of p.classes j in
    same_roots (same_elements n b t x w f g) b t x w f g p.root q.root q.classes

-- How deep comparisons of elements are nested at most. Between the atoms and the last of them are comparisons of applications, whose
-- terms grow smaller from one to the next, so none of the 2,048 applications is met twice.
abbrev pub comparison_depth : ℕ
comparison_depth = 2050

-- The atoms at the nodes k and m, in the frames f and g, are the same, found by classes.
unfoldable pub same_by_classes : List ℕ → List ℕ → List ℕ → List ℕ → ℕ → ℕ → ℕ → ℕ → Bool
same_by_classes b t x w f g k m = (same_elements comparison_depth b t x w f g separate (node_element 0 k) (node_element 1 m)).same
