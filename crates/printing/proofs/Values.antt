-- What the words of the machine's memory stand for at the end of a proved search: a word looked through, its final value, and the
-- symbols of it.
use Prim.Native.Nat.{ℕ, zero, suc, ◌+◌, ◌≤◌, ◌<◌}
use native.Mathlib.Omega.{arith}
use mathlib.Core.Path.{◌≡◌, refl, sym, ap, ◌∙◌, subst}
use mathlib.Core.Bool.{Bool, true, false, cond}
use mathlib.Core.List.{List, [], ◌∷◌}
use mathlib.Core.Logic.{◌⊎◌, inl, inr}
use mathlib.Core.Option.{Option, none, some}
use lib.Dec.{eqb, ltb}
use lib.ListN.{length}
use borrow.Author.Tests.{eqb-true, eqb-false, ne_eqb, ltb-true, ltb-false, lt-ltb}
use Rattle.terms.specs.Lists.{All}
use Rattle.terms.specs.Terms.{sheet_symbol, Term, leaf, app, Terms, nil, cons, substitute, substitutes, Leaves, LeavesAll, Appears}
use Rattle.terms.proofs.Lists.{all_append}
use Rattle.terms.proofs.Terms.{leaves_substitute, leaves_any, leaves_appear, appears_leaves}
use Rattle.sequents.specs.Symbols.{Symbol, made, leftover, Ground}
use Rattle.unification.specs.Store.{binding, Leaf, var, con, Binding, Store, look, bound_to, solution, at}
use Rattle.unification.specs.Promises.{Below, BelowBinding, Unbound, Formed}
use Rattle.unification.proofs.Look.{unbound_beyond}
use Rattle.unification.proofs.Solution.{look_twice, bound_to_unbound, appears_unbound}
use Rattle.unification.proofs.Valuation.{look_value}
use Rattle.unification.proofs.General.{general_equations}
use Rattle.search.specs.Answers.{symbol_under, final}
use Rattle.search.proofs.Values.{symbols}
use Rattle.search.proofs.Answers.{leftovers, final_values, final_valued}
use Rattle.sheet_format.specs.Limits.{max_budget, max_nodes, variable_names}
use Rattle.node_table.specs.Layout.{kind_of, label_of, child_of, child_count, application_kind, variable_kind}
use Rattle.node_table.specs.Decoding.{functor_of, term_at, children_by, arguments_at}
use Rattle.node_table.specs.WellMade.{IsTerm}
use Rattle.node_table.proofs.Decoding.{Nodes, term_variable, term_application}
use Rattle.answer_texts.specs.Numbering.{symbols_in, symbols_in_all}
use Rattle.machine.specs.Fields as fields
use Rattle.machine.specs.Records.{cell_of, level_of}
use Rattle.machine.specs.Words.{closure_word, tag_of, name_of, node_of, frame_of, slot_of, word_of, leaf_of, environment_at, term_of, constant_tag}
use Rattle.machine.specs.Words.{variable_tag}
use Rattle.printing.specs.Bindings.{deref}
use Rattle.machine.specs.Reading.{variable_of}
use Rattle.unification.proofs.Follow.{binding_some, stop}
use Rattle.unification.proofs.Looking.{hops, hops_le, look_app, look_con, hop}
use Rattle.printing.specs.Written.{LeafWord, variable, constant, Closure, TermWord, of_leaf, of_closure}
use Rattle.printing.proofs.Words.{closure_tag_lem, closure_node, closure_frame}
use Rattle.printing.proofs.Finals.{unbound_alone, final_leaves}
use Rattle.printing.proofs.Steps.{Right}
use Rattle.memory.specs.Records.{field}
use Rattle.machine.proofs.Words.{zero_tag}
use Rattle.printing.proofs.Bindings.{deref_other, deref_free, Turn, stays, follows, deref_look}

-- What holds of all leaves holds of all symbols that show.
mutual
  unfolding Leaves symbols_in

  -- What holds of all leaves of a term holds of all symbols that show in it.
  pub leaves_show : (t : Ground) (P : Symbol → Type 0) → Leaves t P → All P (symbols_in t)
  leaves_show (leaf s) P h = (h, tt)
  leaves_show (app f ts) P h = leaves_show_all ts P h

  -- What holds of all leaves of arguments holds of all symbols that show in them.
  leaves_show_all : (ts : Terms Symbol) (P : Symbol → Type 0) → LeavesAll ts P → All P (symbols_in_all ts)
  leaves_show_all nil P h = tt
  leaves_show_all (cons t ts) P h = all_append P (symbols_in t) (symbols_in_all ts) (leaves_show t P h.0) (leaves_show_all ts P h.1)

-- The final value of a term of the search.
abbrev pub value : Store → Term Leaf → Ground
value s u = substitute u (final s)

-- Looking through changes no final value.
pub value_look : (s : Store) (u : Term Leaf) → Formed s → value s (look s.bindings u) ≡ value s u
value_look s u f =
    subst (λ (v : Leaf → Ground). substitute (look s.bindings u) v ≡ substitute u v) (final_valued s)
    (look_value symbols (final_values s) s.bindings u (general_equations symbols s.bindings (leftovers s) f.bound))

-- That of an unbound variable is a symbol.
pub value_unbound : (s : Store) (x : ℕ) → Formed s → Unbound s.bindings x → final s (var x) ≡ leaf (leftover x (s.level x))
unfolding final at solution substitute symbol_under
value_unbound s x f u = ap (λ (t : Term Leaf). substitute t (symbol_under s.level)) (bound_to_unbound s.bindings x f.bound u)

-- What a variable is bound to has only variables below the next number.
bound_below : (bs : List Binding) (n x : ℕ) → All (BelowBinding n) bs → x < n → Leaves (bound_to bs x) (Below n)
unfolding bound_to Leaves Below
bound_below [] n x h l = l
bound_below (b ∷ bs) n x h l = go (eqb x b.name) (bound_below bs n x h.1 l)
  where
    go : (c : Bool) → Leaves (bound_to bs x) (Below n) → Leaves (cond c b.value (bound_to bs x)) (Below n)
    go true k = h.0.1
    go false k = k

module _ (t : List ℕ) (nodes : ℕ) (table : Nodes t nodes) (size : nodes ≤ max_nodes) (w : List ℕ) (acts : ℕ) (few : acts ≤ max_budget)
    (s : Store) where
  -- A word that reads as a term.
  abbrev Word : ℕ → Type 0
  Word a = TermWord t w nodes acts a

  -- A word that reads as a term of variables that were made.
  abbrev pub Good : ℕ → Type 0
  Good a = Word a × Leaves (term_of t w a) (Below s.next)

  -- A constant that was made.
  unfoldable pub Known : Leaf → Type 0
  Known (var x) = Unit {0}
  Known (con c k) = (c < acts) × (k ≡ field w c fields.constant_level)

  -- The word of a variable reads as the variable.
  pub variable_term : (a : ℕ) → tag_of a ≡ variable_tag → term_of t w a ≡ leaf (var (name_of a))
  unfolding term_of leaf_of
  variable_term a e = rw e

  -- The word of a constant reads as the constant, with the level in its record.
  pub constant_term : (a : ℕ) → tag_of a ≡ constant_tag → term_of t w a ≡ leaf (con (name_of a) (field w (name_of a) fields.constant_level))
  unfolding term_of leaf_of
  constant_term a e = rw e

  -- The word of a leaf reads as its leaf.
  leaf_term : (a : ℕ) → LeafWord acts a → term_of t w a ≡ leaf (leaf_of w a)
  unfolding term_of leaf_of
  leaf_term a (variable e) = rw e
  leaf_term a (constant e l) = rw e

  -- The constant of a leaf's word was made.
  leaf_known : (a : ℕ) → LeafWord acts a → Known (leaf_of w a)
  unfolding leaf_of Known
  leaf_known a (variable e) = rw e tt
  leaf_known a (constant e l) = rw e (l, refl)

  -- A name stands for the leaf in its slot.
  slot_term : (f v : ℕ) → v < variable_names → environment_at w f v ≡ leaf (leaf_of w (slot_of w f v))
  unfolding environment_at
  slot_term f v h = rw (lt-ltb v 8 h)

  -- The word of a closure reads as an application.
  pub closure_term : (a : ℕ) → Closure t w nodes acts a
      → term_of t w a ≡ app (functor_of (label_of t (node_of a))) (substitutes (arguments_at t (node_of a)) (environment_at w (frame_of a)))
  unfolding term_of substitute
  closure_term a c =
      rw c.tag (ap (λ (u : Term ℕ). substitute u (environment_at w (frame_of a)))
      (term_application t nodes table (node_of a) c.there c.term c.application))

  -- The word of a node of a term.
  node_word : (n f : ℕ) → n < nodes → IsTerm t n → f ≤ acts → ((v : ℕ) → v < variable_names → LeafWord acts (slot_of w f v))
      → Word (word_of t w n f) × (term_of t w (word_of t w n f) ≡ substitute (term_at t n) (environment_at w f))
  unfolding word_of term_of substitute
  node_word n f h i l slots = go (eqb (kind_of t n) variable_kind) refl
    where
      go : (b : Bool) → eqb (kind_of t n) variable_kind ≡ b
          → Word (cond b (slot_of w f (label_of t n)) (closure_word n f))
          × (term_of t w (cond b (slot_of w f (label_of t n)) (closure_word n f)) ≡ substitute (term_at t n) (environment_at w f))
      go true e =
          let k = eqb-true (kind_of t n) 0 e in
          let v = (table.term n h i).variable k in (
            of_leaf (slots (label_of t n) v),
            leaf_term (slot_of w f (label_of t n)) (slots (label_of t n) v)
                ∙ sym (ap (λ (u : Term ℕ). substitute u (environment_at w f)) (term_variable t nodes table n h i k)
                ∙ slot_term f (label_of t n) v),
          )
      go false e =
          let k : kind_of t n ≡ application_kind = let z = eqb-false (kind_of t n) 0 e in let o = (table.term n h i).kind in omega arith in
          let g = closure_tag_lem n f (omega arith) (omega arith) in
          let p = closure_node n f (omega arith) (omega arith) in
          let q = closure_frame n f (omega arith) (omega arith) in (
            of_closure (record {
              tag = g;
              there = subst (λ (z : ℕ). z < nodes) (sym p) h;
              term = subst (λ (z : ℕ). IsTerm t z) (sym p) i;
              application = subst (λ (z : ℕ). kind_of t z ≡ application_kind) (sym p) k;
              frame = subst (λ (z : ℕ). z ≤ acts) (sym q) l;
              slots = λ v j. subst (λ (z : ℕ). LeafWord acts (slot_of w z v)) (sym q) (slots v j);
            }),
            rw (g, p, q),
          )

  -- A child's leaves are among its node's.
  child_leaves : (n : ℕ) (θ : ℕ → Term Leaf) (P : Leaf → Type 0) (c i j : ℕ) → i ≤ j → j < i + c
      → LeavesAll (substitutes (children_by (term_at t) t n c i) θ) P → Leaves (substitute (term_at t (child_of t n j)) θ) P
  unfolding children_by substitute Leaves
  child_leaves n θ P zero i j h k l = absurd (omega arith)
  child_leaves n θ P (suc c) i j h k l = go (eqb i j) refl (λ p. child_leaves n θ P c (suc i) j p (omega arith) l.1)
    where
      go : (b : Bool) → eqb i j ≡ b → (suc i ≤ j → Leaves (substitute (term_at t (child_of t n j)) θ) P)
          → Leaves (substitute (term_at t (child_of t n j)) θ) P
      go true e f = subst (λ (x : ℕ). Leaves (substitute (term_at t (child_of t n x)) θ) P) (eqb-true i j e) l.0
      go false e f = let d = eqb-false i j e in f (omega arith)

  -- The word of an argument of a closure.
  pub argument_word_lem : (a : ℕ) (c : Closure t w nodes acts a) → Leaves (term_of t w a) (Below s.next) → (j : ℕ)
      → j < child_count t (node_of a)
      → Good (word_of t w (child_of t (node_of a) j) (frame_of a))
      × (term_of t w (word_of t w (child_of t (node_of a) j) (frame_of a)) ≡ substitute (term_at t (child_of t (node_of a) j))
      (environment_at w (frame_of a)))
  unfolding Leaves arguments_at
  argument_word_lem a c b j h =
      let r = ((table.term (node_of a) c.there c.term).application c.application).terms j h in
      let k = r.0 in
      let n = c.there in
      let x = node_word (child_of t (node_of a) j) (frame_of a) (omega arith) r.1 c.frame c.slots in
      let all : LeavesAll (substitutes (children_by (term_at t) t (node_of a) (child_count t (node_of a)) 0) (environment_at w (frame_of a)))
      (Below s.next) =
      subst (λ (u : Term Leaf). Leaves u (Below s.next)) (closure_term a c) b in
      let l = child_leaves (node_of a) (environment_at w (frame_of a)) (Below s.next) (child_count t (node_of a)) 0 j (omega arith)
      (omega arith) all in
      ((x.0, subst (λ (u : Term Leaf). Leaves u (Below s.next)) (sym x.1) l), x.1)

  -- Its constants were made.
  environment_known : (f : ℕ) → ((v : ℕ) → v < variable_names → LeafWord acts (slot_of w f v)) → (v : ℕ) → Leaves (environment_at w f v) Known
  unfolding environment_at Leaves
  environment_known f h v = go (ltb v 8) refl
    where
      go : (b : Bool) → ltb v 8 ≡ b → Leaves (cond b (leaf (leaf_of w (slot_of w f v))) (app (sheet_symbol 0) nil)) Known
      go true e = leaf_known (slot_of w f v) (h v (ltb-true v 8 e))
      go false e = tt

  -- The constants in the term of a word were made.
  pub word_known : (a : ℕ) → Word a → Leaves (term_of t w a) Known
  unfolding Leaves term_of
  word_known a (of_leaf l) = subst (λ (u : Term Leaf). Leaves u Known) (sym (leaf_term a l)) (leaf_known a l)
  word_known a (of_closure c) =
      rw c.tag
      (leaves_substitute (term_at t (node_of a)) (environment_at w (frame_of a)) (λ v. Unit {0}) Known
      (λ v u. environment_known (frame_of a) c.slots v)
      (leaves_any (term_at t (node_of a)) (λ v. Unit {0}) (λ v. tt)))

  module _ (formed : Formed s) (fits : length s.bindings ≤ acts) (holds : (x : ℕ) → x < s.next
      → variable_of t w x ≡ bound_to s.bindings x)
      (levels : (x : ℕ) → x < s.next → level_of w x ≡ s.level x) (free : (x : ℕ) → x < s.next → Unbound s.bindings x → cell_of w x ≡ 0)
      (words : (x : ℕ) → x < s.next → (cell_of w x ≡ 0) ⊎ Word (cell_of w x)) where
    -- A word that reads as a term is not of tag 0.
    word_tag : (a : ℕ) → Word a → tag_of a ≡ 0 → ⊥
    word_tag a (of_leaf (variable e)) z = omega arith
    word_tag a (of_leaf (constant e l)) z = omega arith
    word_tag a (of_closure c) z = let e = c.tag in omega arith

    -- A bound variable reads as its cell's word.
    bound_word : (x : ℕ) → Word (cell_of w x) → variable_of t w x ≡ term_of t w (cell_of w x)
    unfolding variable_of tag_of
    bound_word x g =
        ap (λ (b : Bool). cond b (leaf (var x)) (term_of t w (cell_of w x)))
        (ne_eqb (cell_of w x) 0 (λ z. word_tag (cell_of w x) g (ap tag_of z)))

    -- An unbound variable reads as itself.
    free_word : (x : ℕ) → cell_of w x ≡ 0 → variable_of t w x ≡ leaf (var x)
    unfolding variable_of
    free_word x z = rw z

    -- The word in the cell of a variable that was made is good.
    bound_good : (x : ℕ) → x < s.next → Word (cell_of w x) → Good (cell_of w x)
    bound_good x l g = (
      g,
      subst (λ (u : Term Leaf). Leaves u (Below s.next)) (sym (holds x l) ∙ bound_word x g)
          (bound_below s.bindings s.next x formed.below l),
    )

    -- The variable in a word of variables that were made is below the next number.
    variable_below : (a : ℕ) → tag_of a ≡ variable_tag → Leaves (term_of t w a) (Below s.next) → name_of a < s.next
    unfolding Leaves Below
    variable_below a e b = subst (λ (u : Term Leaf). Leaves u (Below s.next)) (variable_term a e) b

    -- A variable with no word is looked through already.
    free_look : (x : ℕ) → x < s.next → cell_of w x ≡ 0 → look s.bindings (leaf (var x)) ≡ leaf (var x)
    free_look x l z = go (binding s.bindings x) refl
      where
        go : (o : Option (Term Leaf)) → binding s.bindings x ≡ o → look s.bindings (leaf (var x)) ≡ leaf (var x)
        go none e = stop s.bindings x e
        go (some u) e =
            let q : u ≡ leaf (var x) = sym (binding_some s.bindings x u e) ∙ sym (holds x l) ∙ free_word x z in
            absurd (let h = (hop s.bindings x u formed.bound e).1 in let k = ap (hops s.bindings) q in omega arith)

    -- A variable with a word is looked through as that word's term, with one turn more.
    bound_look : (x : ℕ) → x < s.next → Word (cell_of w x)
        → (look s.bindings (leaf (var x)) ≡ look s.bindings (term_of t w (cell_of w x)))
        × (hops s.bindings (leaf (var x)) ≡ suc (hops s.bindings (term_of t w (cell_of w x))))
    bound_look x l h = go (binding s.bindings x) refl
      where
        go : (o : Option (Term Leaf)) → binding s.bindings x ≡ o
            → (look s.bindings (leaf (var x)) ≡ look s.bindings (term_of t w (cell_of w x)))
            × (hops s.bindings (leaf (var x)) ≡ suc (hops s.bindings (term_of t w (cell_of w x))))
        go none e = absurd (word_tag (cell_of w x) h (ap tag_of (free x l (stop s.bindings x e)) ∙ zero_tag))
        go (some u) e =
            let q : u ≡ term_of t w (cell_of w x) = sym (binding_some s.bindings x u e) ∙ sym (holds x l) ∙ bound_word x h in
            subst (λ (v : Term Leaf). (look s.bindings (leaf (var x)) ≡ look s.bindings v)
            × (hops s.bindings (leaf (var x)) ≡ suc (hops s.bindings v))) q (hop s.bindings x u formed.bound e)

    -- A word of no variable is looked through already.
    other_look : (a : ℕ) → Word a → (tag_of a ≡ variable_tag → ⊥) → look s.bindings (term_of t w a) ≡ term_of t w a
    other_look a (of_leaf (variable e)) d = absurd (d e)
    other_look a (of_leaf (constant e l)) d =
        rw (constant_term a e) (look_con s.bindings (name_of a) (field w (name_of a) fields.constant_level)).0
    other_look a (of_closure c) d = rw (closure_term a c) (look_app s.bindings _ _).0

    -- A good word and its term.
    abbrev Reads : ℕ → Term Leaf → Type 0
    Reads a u = Good a × (term_of t w a ≡ u)

    -- One turn of `deref` from a variable is one step of `look`.
    turn : (a : ℕ) → Good a → Turn w s.bindings Reads a (term_of t w a)
    turn a g = go g.0
      where
        at : tag_of a ≡ variable_tag → name_of a < s.next → (cell_of w (name_of a) ≡ 0) ⊎ Word (cell_of w (name_of a))
            → Turn w s.bindings Reads a (leaf (var (name_of a)))
        at e l (inl z) =
            stays (λ n. deref_free n w a (tag_of a) (name_of a) (cell_of w (name_of a)) (tag_of (cell_of w (name_of a))) refl e refl refl refl
            (ap tag_of z ∙ zero_tag))
            (free_look (name_of a) l z)
        at e l (inr k) =
            let q = bound_look (name_of a) l k in
            follows (term_of t w (cell_of w (name_of a))) e (word_tag (cell_of w (name_of a)) k) q.0 q.1 (bound_good (name_of a) l k, refl)

        go : Word a → Turn w s.bindings Reads a (term_of t w a)
        go (of_leaf (variable e)) = let l = variable_below a e g.1 in rw (variable_term a e) (at e l (words (name_of a) l))
        go (of_leaf (constant e l)) =
            stays (λ n. deref_other n w a (tag_of a) refl (λ q. omega arith)) (other_look a (of_leaf (constant e l)) (λ q. omega arith))
        go (of_closure c) =
            stays (λ n. deref_other n w a (tag_of a) refl (λ q. let e = c.tag in omega arith))
            (other_look a (of_closure c) (λ q. let e = c.tag in omega arith))

    -- A word looked through reads as its term looked through.
    pub sought : (a : ℕ) → Good a → Good (deref acts w a) × (term_of t w (deref acts w a) ≡ look s.bindings (term_of t w a))
    sought a g =
        deref_look w s.bindings Reads (λ b u r. subst (Turn w s.bindings Reads b) r.1 (turn b r.0)) acts a (term_of t w a)
        (g, refl)
        (let l = hops_le s.bindings (term_of t w a) in omega arith)

    -- A word looked through has the same final value.
    sought_value : (a : ℕ) → Good a → value s (term_of t w a) ≡ value s (term_of t w (deref acts w a))
    sought_value a g = sym (ap (value s) (sought a g).1 ∙ value_look s (term_of t w a) formed)

    -- A word looked through that is a variable is unbound, and its value is a leftover variable.
    pub variable_value : (a : ℕ) → Good a → tag_of (deref acts w a) ≡ variable_tag
        → value s (term_of t w a) ≡ leaf (leftover (name_of (deref acts w a)) (s.level (name_of (deref acts w a))))
    unfolding substitute
    variable_value a g e =
        let x = name_of (deref acts w a) in
        let h : look s.bindings (term_of t w a) ≡ leaf (var x) = sym (sought a g).1 ∙ variable_term (deref acts w a) e in
        let u : Unbound s.bindings x = ap (look s.bindings) (sym h) ∙ look_twice s.bindings (term_of t w a) formed.bound ∙ h in
        sought_value a g ∙ ap (value s) (variable_term (deref acts w a) e) ∙ value_unbound s x formed u

    -- A word looked through that is a constant has that made constant as its value.
    pub constant_value : (a : ℕ) → Good a → tag_of (deref acts w a) ≡ constant_tag
        → value s (term_of t w a) ≡ leaf (made (name_of (deref acts w a)) (field w (name_of (deref acts w a)) fields.constant_level))
    unfolding substitute final at symbol_under
    constant_value a g e = sought_value a g ∙ ap (value s) (constant_term (deref acts w a) e)

    -- A word looked through that is a closure has an application as its value.
    pub closure_value : (a : ℕ) → Good a → (c : Closure t w nodes acts (deref acts w a))
        → value s (term_of t w a) ≡ app (functor_of (label_of t (node_of (deref acts w a))))
        (substitutes (substitutes (arguments_at t (node_of (deref acts w a))) (environment_at w (frame_of (deref acts w a)))) (final s))
    unfolding substitute
    closure_value a g c = sought_value a g ∙ ap (value s) (closure_term (deref acts w a) c)

    -- The symbols of final values are as the memory has them.
    cell_known : (x : ℕ) → (cell_of w x ≡ 0) ⊎ Word (cell_of w x) → Leaves (variable_of t w x) Known
    unfolding variable_of Leaves Known
    cell_known x (inl z) = rw z tt
    cell_known x (inr g) = subst (λ (u : Term Leaf). Leaves u Known) (sym (bound_word x g)) (word_known (cell_of w x) g)

    -- The constants in all that is bound were made.
    bound_known : (x : ℕ) → Leaves (bound_to s.bindings x) Known
    unfolding Leaves Known
    bound_known x = go (ltb x s.next) refl
      where
        go : (b : Bool) → ltb x s.next ≡ b → Leaves (bound_to s.bindings x) Known
        go true e = let l = ltb-true x s.next e in subst (λ (u : Term Leaf). Leaves u Known) (holds x l) (cell_known x (words x l))
        go false e =
            subst (λ (u : Term Leaf). Leaves u Known)
            (sym (unbound_alone s.bindings x formed.bound
            (unbound_beyond s.bindings s.next x (ltb-false x s.next e) formed.below))) tt

    -- All symbols of a word's value are as the memory has them.
    pub value_right : (a : ℕ) → Good a → Leaves (value s (term_of t w a)) (Right w s.next acts)
    unfolding Leaves final at solution symbol_under Right Known substitute Below
    value_right a g =
        leaves_substitute (term_of t w a) (final s) (Appears (term_of t w a)) (Right w s.next acts)
        (λ c i. each c (appears_leaves (term_of t w a) (Below s.next) c g.1 i)
        (appears_leaves (term_of t w a) Known c (word_known a g.0) i))
        (leaves_appear (term_of t w a) (Appears (term_of t w a)) (λ c i. i))
      where
        of : (x : ℕ) → x < s.next → (c : Leaf) → Appears (solution s x) c → Leaves (symbol_under s.level c) (Right w s.next acts)
        of x l (var z) i =
            let o = formed.ordered x z l i in
            (o.0, free z o.0 (appears_unbound s.bindings x z formed.bound i), sym (levels z o.0))
        of x l (con c k) i =
            appears_leaves (solution s x) Known (con c k) (final_leaves Known (λ y. tt) s.bindings formed.bound bound_known x) i

        each : (c : Leaf) → Below s.next c → Known c → Leaves (final s c) (Right w s.next acts)
        each (var x) l k =
            leaves_substitute (solution s x) (symbol_under s.level) (Appears (solution s x)) (Right w s.next acts) (of x l)
            (leaves_appear (solution s x) (Appears (solution s x)) (λ c i. i))
        each (con c j) l k = k
