-- Splitting bytes into lines and lines into fields undoes joining them, and joining undoes splitting.
use Prim.Native.Nat.{ℕ}
use mathlib.Core.Path.{◌≡◌, refl, sym, ◌∙◌, ap, ap₂, subst}
use mathlib.Core.Bool.{Bool, true, false}
use mathlib.Core.List.{List, [], ◌∷◌, ◌++◌, append_assoc, append-nil, cons≢nil}
use lib.Dec.{eqb}
use borrow.Author.Tests.{eqb-true}
use Rattle.terms.specs.Lists.{All}
use Rattle.terms.proofs.Lists.{all_append}
use Rattle.sheet_format.specs.Bytes.{tab, lf, SplitLines, extend_line, lines_of, extend_field, fields}
use Rattle.sheet_format.proofs.Bytes.{Without, lines, lines_of_other}
use Rattle.answer_texts.specs.Spelling.{join}
use Rattle.answer_texts.specs.Spelled.{unlines}

-- lines

-- An LF ends a line.
pub lines_of_lf : (cs : List ℕ) → lines_of (lf ∷ cs) ≡ lines ([] ∷ (lines_of cs).whole) (lines_of cs).rest
unfolding lines_of
lines_of_lf cs = refl

-- Each whole line with its LF, then the rest, are the bytes; no line has an LF in it.
pub record Split (b : List ℕ) (l : SplitLines) : Type 0 where
  pub joined : unlines l.whole ++ l.rest ≡ b
  pub whole : All (Without lf) l.whole
  pub rest : Without lf l.rest

-- A split with a byte that is no LF in front is a split again.
on_line_split : (c : ℕ) (cs : List ℕ) (ls : List (List ℕ)) (r : List ℕ) → eqb c lf ≡ false → Split cs (lines ls r)
    → Split (c ∷ cs) (extend_line c ls r)
unfolding extend_line unlines
on_line_split c cs [] r h s = record { joined = ap (c ∷◌) s.joined; whole = tt; rest = (h, s.rest) }
on_line_split c cs (l ∷ ls) r h s = record { joined = ap (c ∷◌) s.joined; whole = ((h, s.whole.0), s.whole.1); rest = s.rest }

-- What `lines_of` gives.
pub lines_of_split : (b : List ℕ) → Split b (lines_of b)
unfolding lines_of unlines
lines_of_split [] = record { joined = refl; whole = tt; rest = tt }
lines_of_split (c ∷ cs) = go (eqb c lf) refl (lines_of_split cs)
  where
    go : (b : Bool) → eqb c lf ≡ b → Split cs (lines_of cs) → Split (c ∷ cs) (lines_of (c ∷ cs))
    go true e s = rw (eqb-true c lf e) (record { joined = ap (lf ∷◌) s.joined; whole = (tt, s.whole); rest = s.rest })
    go false e s = subst (Split (c ∷ cs)) (sym (lines_of_other c cs e)) (on_line_split c cs (lines_of cs).whole (lines_of cs).rest e s)

-- Bytes without LF are a rest alone.
lines_of_rest : (r : List ℕ) → Without lf r → lines_of r ≡ lines [] r
unfolding lines_of extend_line
lines_of_rest [] h = refl
lines_of_rest (c ∷ cs) h = lines_of_other c cs h.0 ∙ ap (λ (l : SplitLines). extend_line c l.whole l.rest) (lines_of_rest cs h.1)

-- A line and its LF in front are one more whole line.
lines_of_line : (l b : List ℕ) → Without lf l → lines_of (l ++ (lf ∷ b)) ≡ lines (l ∷ (lines_of b).whole) (lines_of b).rest
unfolding extend_line
lines_of_line [] b h = lines_of_lf b
lines_of_line (c ∷ cs) b h =
    lines_of_other c (cs ++ (lf ∷ b)) h.0 ∙ ap (λ (l : SplitLines). extend_line c l.whole l.rest) (lines_of_line cs b h.1)

-- Lines without LF, each followed by LF, and a rest without LF are split again.
pub lines_of_unlines : (ls : List (List ℕ)) (r : List ℕ) → All (Without lf) ls → Without lf r → lines_of (unlines ls ++ r) ≡ lines ls r
unfolding unlines
lines_of_unlines [] r h k = lines_of_rest r k
lines_of_unlines (l ∷ ls) r h k =
    ap lines_of (append_assoc l (lf ∷ unlines ls) r) ∙ lines_of_line l (unlines ls ++ r) h.0
    ∙ ap (λ (x : SplitLines). lines (l ∷ x.whole) x.rest) (lines_of_unlines ls r h.1 k)

-- Whole lines with nothing after the last LF are split again.
pub lines_of_whole : (ls : List (List ℕ)) → All (Without lf) ls → lines_of (unlines ls) ≡ lines ls []
lines_of_whole ls h = ap lines_of (sym (append-nil (unlines ls))) ∙ lines_of_unlines ls [] h tt

-- Whole lines are determined by their bytes.
pub unlines_injective : (ls ms : List (List ℕ)) → All (Without lf) ls → All (Without lf) ms → unlines ls ≡ unlines ms → ls ≡ ms
unlines_injective ls ms h k e = ap (λ (l : SplitLines). l.whole) (sym (lines_of_whole ls h) ∙ ap lines_of e ∙ lines_of_whole ms k)

-- fields

-- A tab ends a field.
pub fields_tab : (cs : List ℕ) → fields (tab ∷ cs) ≡ [] ∷ fields cs
unfolding fields
fields_tab cs = refl

-- A byte that is no tab goes in front of the first field.
pub fields_other : (c : ℕ) (cs : List ℕ) → eqb c tab ≡ false → fields (c ∷ cs) ≡ extend_field c (fields cs)
unfolding fields
fields_other c cs h = rw (h, fields)

-- There is a field after a byte was put in front.
on_field_nonempty : (c : ℕ) (fs : List (List ℕ)) → extend_field c fs ≡ [] → ⊥
unfolding extend_field
on_field_nonempty c [] e = cons≢nil e
on_field_nonempty c (f ∷ fs) e = cons≢nil e

-- Any bytes have at least one field.
pub fields_nonempty : (b : List ℕ) → fields b ≡ [] → ⊥
unfolding fields
fields_nonempty [] e = cons≢nil e
fields_nonempty (c ∷ cs) e = go (eqb c tab) refl
  where
    go : (b : Bool) → eqb c tab ≡ b → ⊥
    go true q = cons≢nil (sym (fields_tab cs) ∙ ap (λ (d : ℕ). fields (d ∷ cs)) (sym (eqb-true c tab q)) ∙ e)
    go false q = on_field_nonempty c (fields cs) (sym (fields_other c cs q) ∙ e)

-- An empty field in front of others is a tab in front of their bytes.
join_tab : (fs : List (List ℕ)) → (fs ≡ [] → ⊥) → join ([] ∷ fs) ≡ tab ∷ join fs
unfolding join
join_tab [] h = absurd (h refl)
join_tab (f ∷ fs) h = refl

-- A byte in front of the first field is in front of them all.
join_on_field : (c : ℕ) (fs : List (List ℕ)) → join (extend_field c fs) ≡ c ∷ join fs
unfolding join extend_field
join_on_field c [] = refl
join_on_field c (f ∷ []) = refl
join_on_field c (f ∷ g ∷ fs) = refl

-- The fields, joined by tabs, are the bytes.
pub join_fields : (b : List ℕ) → join (fields b) ≡ b
unfolding fields join
join_fields [] = refl
join_fields (c ∷ cs) = go (eqb c tab) refl (join_fields cs)
  where
    go : (b : Bool) → eqb c tab ≡ b → join (fields cs) ≡ cs → join (fields (c ∷ cs)) ≡ c ∷ cs
    go true q ih =
        let e = eqb-true c tab q in
        ap (λ (d : ℕ). join (fields (d ∷ cs))) e ∙ join_tab (fields cs) (fields_nonempty cs) ∙ ap₂ ◌∷◌ (sym e) ih
    go false q ih = ap join (fields_other c cs q) ∙ join_on_field c (fields cs) ∙ ap (c ∷◌) ih

-- Bytes without tab are one field alone.
fields_one : (f : List ℕ) → Without tab f → fields f ≡ f ∷ []
unfolding fields extend_field
fields_one [] h = refl
fields_one (c ∷ cs) h = fields_other c cs h.0 ∙ ap (extend_field c) (fields_one cs h.1)

-- A field and a tab in front are one more field.
fields_more : (f b : List ℕ) → Without tab f → fields (f ++ (tab ∷ b)) ≡ f ∷ fields b
unfolding extend_field
fields_more [] b h = fields_tab b
fields_more (c ∷ cs) b h = fields_other c (cs ++ (tab ∷ b)) h.0 ∙ ap (extend_field c) (fields_more cs b h.1)

-- Fields without tabs, at least one, joined by tabs, are split again.
fields_join_cons : (f : List ℕ) (fs : List (List ℕ)) → All (Without tab) (f ∷ fs) → fields (join (f ∷ fs)) ≡ f ∷ fs
unfolding join
fields_join_cons f [] h = fields_one f h.0
fields_join_cons f (g ∷ fs) h = fields_more f (join (g ∷ fs)) h.0 ∙ ap (f ∷◌) (fields_join_cons g fs h.1)

-- Fields without tabs, in a list that is not empty, are split again when joined by tabs.
pub fields_join : (fs : List (List ℕ)) → (fs ≡ [] → ⊥) → All (Without tab) fs → fields (join fs) ≡ fs
fields_join [] h k = absurd (h refl)
fields_join (f ∷ fs) h k = fields_join_cons f fs k

-- Fields without LF have no LF when they are joined.
pub join_without : (fs : List (List ℕ)) → All (Without lf) fs → Without lf (join fs)
unfolding join
join_without [] h = tt
join_without (f ∷ []) h = h.0
join_without (f ∷ g ∷ fs) h = all_append (λ d. eqb d lf ≡ false) f (tab ∷ join (g ∷ fs)) h.0 (refl, join_without (g ∷ fs) h.1)
