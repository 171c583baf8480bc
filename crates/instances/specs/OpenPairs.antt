-- Comparing two elements without going down to their children: what a turn of the loop finds.
use Rattle.std.specs.Prelude.{ℕ, ◌+◌, ◌-◌, ◌*◌, ◌%◌, ◌<◌, Bool, true, false, cond, List, eqb, get_or}
use Rattle.node_table.specs.Layout.{label_of}
use Rattle.scanning.specs.Classes.{element_count, is_name_element, element_node, root_of}
use Rattle.scanning.specs.Instances.{child_limit, argument_count, Compared, join_name, joined, same_children, same_elements}
use Rattle.scanning.specs.Instances.{comparison_depth}
use Rattle.instances.specs.declared.Comparison.{Comparison}
use Rattle.instances.specs.declared.Comparison.TheVariants.{Settled, Opens}

-- Two applications whose children are compared, the first ones next, as one number.
unfoldable pub level_of : ℕ → ℕ → ℕ
level_of i j = child_limit * (element_count * (i % element_count) + j % element_count)

-- What a look at two elements leaves: the classes, and what is known of their terms.
pub record Looked : Type 0 where
  pub classes : List ℕ
  pub comparison : Comparison

-- Classes and a comparison make a record.
abbrev pub looked : List ℕ → Comparison → Looked
looked c o = record { classes = c; comparison = o }

-- A comparison of texts settles it.
unfoldable pub decided : Compared → Looked
decided o = looked o.classes (Settled o.same)

-- Two representatives.
unfoldable pub compare_roots : List ℕ → List ℕ → List ℕ → List ℕ → ℕ → ℕ → ℕ → ℕ → List ℕ → Looked
compare_roots b t x w f g i j c =
    cond (eqb i j) (looked c (Settled true))
    (cond (is_name_element i) (decided (join_name b t x w f g c i j))
    (cond (is_name_element j) (decided (join_name b t x w f g c j i))
    (looked c (cond (eqb (label_of t (element_node i)) (label_of t (element_node j))) (Opens (level_of i j)) (Settled false)))))

-- Two elements.
unfoldable pub compare_elements : List ℕ → List ℕ → List ℕ → List ℕ → ℕ → ℕ → List ℕ → ℕ → ℕ → Looked
compare_elements b t x w f g c i j =
    let p = root_of c i in
    let q = root_of p.classes j in
    compare_roots b t x w f g p.root q.root q.classes

-- How deep comparisons are nested at most.
unfoldable pub depth_limit : ℕ
depth_limit = comparison_depth

-- The children of the applications i and j of one symbol are the same.
unfoldable pub same_applications : List ℕ → List ℕ → List ℕ → List ℕ → ℕ → ℕ → List ℕ → ℕ → ℕ → Bool
same_applications b t x w f g c i j =
    (joined (same_children (same_elements (depth_limit - 1) b t x w f g) (argument_count t (element_node i)) t i j 0 c) i j).same

-- Every parent in the forest is an element.
unfoldable pub Elements : List ℕ → Type 0
Elements c = (i : ℕ) → i < element_count → get_or c i 0 < element_count
