-- The judgement of one D line: it is right exactly if it is a step, and computes what it leaves to derive.
use Prim.Native.Nat.{ℕ, zero, suc, ◌+◌, ◌≤◌}
use mathlib.Core.Path.{◌≡◌, refl, sym, ◌∙◌, ap, ap₂, subst}
use mathlib.Core.Bool.{Bool, true, false, ◌&&◌, cond, true≢false}
use mathlib.Core.List.{List, [], ◌∷◌}
use mathlib.Core.Option.{Option, none, some, map}
use mathlib.Core.Logic.{inl, inr}
use native.Mathlib.Omega.{arith}
use lib.Dec.{eqb, leb}
use lib.ListN.{length, get_elem?}
use borrow.Author.Tests.{eqb-true, eq-eqb, leb-true, le-leb}
use Rattle.terms.specs.Lists.{All, Mem, here, there, place, update}
use Rattle.terms.specs.Terms.{same_functor, leaf, app, Terms, nil, cons, substitutes}
use Rattle.terms.proofs.Terms.{functor_same, same_functor_lem}
use Rattle.formulas.specs.Formulas.{Goal, atom, truth, and, or, implies, exists, forall}
use Rattle.formulas.specs.Rules.{assume}
use Rattle.formulas.proofs.Free.{and_parts}
use Rattle.sequents.specs.Symbols.{Symbol, made, leftover, Ground, level}
use Rattle.sequents.specs.Sequents.{Environment, Program, hypothesis, Entry, entries, Sequent, sequent, assign, body_sequent, Word, Dtrue}
use Rattle.sequents.specs.Sequents.{Dand, Dleft, Dright, Dassume, Line, plain, Dsome, Dall, Dclause}
use Rattle.sequents.specs.Derivations.{Instantiates}
use Rattle.sequents.specs.Lines.{Uses, Infers}
use Rattle.answer_texts.proofs.FirstShowings.{and_both, same_symbol_true, same_symbol_refl}
use Rattle.text_judging.specs.Judging.{same_term, same_terms, word_number, same_word, is_plain, infer_some, infer_constant, infer_all, all_low}
use Rattle.text_judging.specs.Judging.{infer_entry, entry_at, infer_clause, infer}

-- tests

-- If there is a value behind a test, the test is true and the value is the one it guards.
pub guarded : {A : Type 0} (b : Bool) (a c : A) → cond b (some a) none ≡ some c → (b ≡ true) × (a ≡ c)
guarded true a c h = (refl, cc)
guarded false a c h = absurd (let z : ◌≡◌ {A = ℕ} 0 1 = cc in omega arith)

-- `none` is never `some a`.
pub nothing : {A : Type 0} {X : Type 0} (a : A) → none ≡ some a → X
nothing a h = absurd (let z : ◌≡◌ {A = ℕ} 0 1 = cc in omega arith)

-- A value of a mapped option is the image of a value of the option.
pub mapped : {A B : Type 0} (f : A → B) (o : Option A) (b : B) → map f o ≡ some b → (a : A) × (o ≡ some a) × (f a ≡ b)
mapped f none b h = nothing b h
mapped f (some a) b h = (a, refl, cc)

-- Terms that pass `same_term` are equal.
mutual
  unfolding same_term

  pub same_term_true : (t u : Ground) → same_term t u ≡ true → t ≡ u
  same_term_true (leaf a) (leaf b) h = ap leaf (same_symbol_true a b h)
  same_term_true (leaf a) (app g us) h = absurd (true≢false (sym h))
  same_term_true (app f ts) (leaf b) h = absurd (true≢false (sym h))
  same_term_true (app f ts) (app g us) h =
      let r = and_parts (same_functor f g) (same_terms ts us) h in ap₂ app (functor_same f g r.0) (same_terms_true ts us r.1)

  pub same_terms_true : (ts us : Terms Symbol) → same_terms ts us ≡ true → ts ≡ us
  same_terms_true nil nil h = refl
  same_terms_true nil (cons u us) h = absurd (true≢false (sym h))
  same_terms_true (cons t ts) nil h = absurd (true≢false (sym h))
  same_terms_true (cons t ts) (cons u us) h =
      let r = and_parts (same_term t u) (same_terms ts us) h in ap₂ cons (same_term_true t u r.0) (same_terms_true ts us r.1)

-- A term passes `same_term` with itself.
mutual
  unfolding same_term

  pub same_term_refl : (t : Ground) → same_term t t ≡ true
  same_term_refl (leaf a) = same_symbol_refl a
  same_term_refl (app f ts) = and_both (same_functor f f) (same_terms ts ts) (same_functor_lem f f refl) (same_terms_refl ts)

  pub same_terms_refl : (ts : Terms Symbol) → same_terms ts ts ≡ true
  same_terms_refl nil = refl
  same_terms_refl (cons t ts) = and_both (same_term t t) (same_terms ts ts) (same_term_refl t) (same_terms_refl ts)

-- The word of a number.
word_of : ℕ → Word
word_of zero = Dtrue
word_of (suc zero) = Dand
word_of (suc (suc zero)) = Dleft
word_of (suc (suc (suc zero))) = Dright
word_of (suc (suc (suc (suc n)))) = Dassume

-- A word is the word of its number, so that numbers tell words apart.
word_of_number : (w : Word) → word_of (word_number w) ≡ w
unfolding word_of word_number
word_of_number Dtrue = refl
word_of_number Dand = refl
word_of_number Dleft = refl
word_of_number Dright = refl
word_of_number Dassume = refl

-- A line that passes `is_plain` with a word is the line of that word.
is_plain_true : (w : Word) (x : Line Symbol) → is_plain w x ≡ true → x ≡ plain w
unfolding is_plain same_word
is_plain_true w (plain v) h = ap plain (sym (word_of_number v) ∙ ap word_of (eqb-true (word_number v) (word_number w) h) ∙ word_of_number w)
is_plain_true w (Dsome t) h = absurd (true≢false (sym h))
is_plain_true w (Dall t) h = absurd (true≢false (sym h))
is_plain_true w (Dclause k ts) h = absurd (true≢false (sym h))

-- Where `all_low` is true, no term is above the level.
all_low_true : (i : ℕ) (ts : List Ground) → all_low i ts ≡ true → All (λ t. level t ≤ i) ts
unfolding all_low
all_low_true i [] h = tt
all_low_true i (t ∷ ts) h = let r = and_parts (leb (level t) i) (all_low i ts) h in (leb-true (level t) i r.0, all_low_true i ts r.1)

-- Where no term is above the level, `all_low` is true.
low_all_low : (i : ℕ) (ts : List Ground) → All (λ t. level t ≤ i) ts → all_low i ts ≡ true
unfolding all_low
low_all_low i [] h = refl
low_all_low i (t ∷ ts) h = and_both (leb (level t) i) (all_low i ts) (le-leb (level t) i h.0) (low_all_low i ts h.1)

-- places

-- The element a stands in the list, k positions after the first.
record At {A : Type 0} (l : List A) (a : A) (k : ℕ) : Type 0 where
  mem : Mem a l
  places : (j : ℕ) → place j mem ≡ j + k

-- An element that is looked up at k stands there.
get_elem_mem : {A : Type 0} (l : List A) (k : ℕ) (a : A) → get_elem? l k ≡ some a → At l a k
unfolding place
get_elem_mem [] k a h = nothing a h
get_elem_mem {A} (b ∷ l) zero a h =
    let q : b ≡ a = cc in
    subst (λ (x : A). At (b ∷ l) x zero) q (record { mem = here; places = λ j. omega arith })
get_elem_mem (b ∷ l) (suc k) a h =
    let r = get_elem_mem l k a h in record { mem = there r.mem; places = λ j. r.places (suc j) ∙ omega arith }

-- An element of a list is looked up at its position.
mem_get_elem : {A : Type 0} {a : A} {l : List A} (h : Mem a l) → (k : ℕ) × (get_elem? l k ≡ some a) × ((j : ℕ) → place j h ≡ j + k)
unfolding place
mem_get_elem here = (0, refl, λ j. omega arith)
mem_get_elem (there h) = let r = mem_get_elem h in (suc r.0, r.1, λ j. r.2 (suc j) ∙ omega arith)

-- An entry that is looked up at place k stands at place k, counted from 1.
pub entry_at_mem : (k : ℕ) (l : List (Entry Symbol)) (m : Entry Symbol) → entry_at k l ≡ some m → (h : Mem m l) × (k ≡ place 1 h)
unfolding entry_at
entry_at_mem zero l m h = nothing m h
entry_at_mem (suc k) l m h = let r = get_elem_mem l k m h in (r.mem, let q = r.places 1 in omega arith)

-- An entry of the list is looked up at its place, counted from 1.
pub mem_entry_at : (l : List (Entry Symbol)) (m : Entry Symbol) (h : Mem m l) → entry_at (place 1 h) l ≡ some m
unfolding entry_at
mem_entry_at l m h =
    let r = mem_get_elem h in ap (λ (k : ℕ). entry_at k l) (let q = r.2 1 in let p : place 1 h ≡ suc r.0 = omega arith in p) ∙ r.1

-- a line that passes is a step, if K holds of what it leaves

-- A clause line that passes with the entry it names uses that entry.
entry_sound : (o : Option (Entry Symbol)) (k : ℕ) (ts : List Ground) (p : ℕ) (us : Terms Symbol) (P : Program Symbol) (i : ℕ)
    (new : List (Sequent Symbol)) (K : List (Sequent Symbol) → Type 0)
    → ((m : Entry Symbol) → o ≡ some m → (h : Mem m (entries P)) × (k ≡ place 1 h)) → infer_entry o ts p us P i ≡ some new → K new
    → Uses (Dclause k ts) (entries P) 1 p us P i K
unfolding infer_entry
entry_sound none k ts p us P i new K f h c = nothing new h
entry_sound (some m) k ts p us P i new K f h c =
    let e = assign m.member.prefix ts m.environment in
    let many = eqb (length ts) (length m.member.prefix) in
    let low = all_low i ts in
    let head = eqb p m.member.predicate in
    let same = same_terms us (substitutes m.member.arguments e) in
    let r = guarded (many && low && head && same) (body_sequent m.member.body e P i) new h in
    let a = and_parts (many && low && head) same r.0 in
    let b = and_parts (many && low) head a.0 in
    let d = and_parts many low b.0 in
    let g = f m refl in
    record {
      used = m;
      at = g.0;
      terms = ts;
      line = ap (λ (j : ℕ). Dclause j ts) g.1;
      instantiates = record { many = eqb-true (length ts) (length m.member.prefix) d.0; low = all_low_true i ts d.1 };
      predicate = eqb-true p m.member.predicate b.1;
      arguments = same_terms_true us (substitutes m.member.arguments e) a.1;
      premises = subst K (sym r.1) c;
    }

-- A line that passes for an atom uses an entry of the program.
clause_sound : (x : Line Symbol) (p : ℕ) (us : Terms Symbol) (P : Program Symbol) (i : ℕ) (new : List (Sequent Symbol))
    (K : List (Sequent Symbol) → Type 0)
    → infer_clause x p us P i ≡ some new → K new → Uses x (entries P) 1 p us P i K
unfolding infer_clause
clause_sound (plain w) p us P i new K h c = nothing new h
clause_sound (Dsome t) p us P i new K h c = nothing new h
clause_sound (Dall t) p us P i new K h c = nothing new h
clause_sound (Dclause k ts) p us P i new K h c = entry_sound (entry_at k (entries P)) k ts p us P i new K (entry_at_mem k (entries P)) h c

-- A line that passes for an existential goal names a witness of level at most i.
some_sound : (x : Line Symbol) (i : ℕ) (f : Ground → List (Sequent Symbol)) (new : List (Sequent Symbol)) (K : List (Sequent Symbol)
    → Type 0)
    → infer_some x i f ≡ some new → K new → (t : Ground) × (x ≡ Dsome t) × (level t ≤ i) × K (f t)
unfolding infer_some
some_sound (plain w) i f new K h c = nothing new h
some_sound (Dsome t) i f new K h c =
    let r = guarded (leb (level t) i) (f t) new h in (t, refl, leb-true (level t) i r.0, subst K (sym r.1) c)
some_sound (Dall t) i f new K h c = nothing new h
some_sound (Dclause k ts) i f new K h c = nothing new h

-- A constant that passes for a universal goal is a made constant of level i + 1.
constant_sound : (t : Ground) (i : ℕ) (f : Ground → List (Sequent Symbol)) (new : List (Sequent Symbol)) (K : List (Sequent Symbol)
    → Type 0)
    → infer_constant t i f ≡ some new → K new → (n : ℕ) × (Dall t ≡ Dall (leaf (made n (suc i)))) × K (f (leaf (made n (suc i))))
unfolding infer_constant
constant_sound (leaf (made n k)) i f new K h c =
    let r = guarded (eqb k (suc i)) (f (leaf (made n k))) new h in
    let q = eqb-true k (suc i) r.0 in
    (n, ap (λ (j : ℕ). Dall (leaf (made n j))) q, subst (λ (j : ℕ). K (f (leaf (made n j)))) q (subst K (sym r.1) c))
constant_sound (leaf (leftover n k)) i f new K h c = nothing new h
constant_sound (app g us) i f new K h c = nothing new h

-- A line that passes for a universal goal names a made constant of level i + 1.
all_sound_lem : (x : Line Symbol) (i : ℕ) (f : Ground → List (Sequent Symbol)) (new : List (Sequent Symbol)) (K : List (Sequent Symbol)
    → Type 0)
    → infer_all x i f ≡ some new → K new → (n : ℕ) × (x ≡ Dall (leaf (made n (suc i)))) × K (f (leaf (made n (suc i))))
unfolding infer_all
all_sound_lem (plain w) i f new K h c = nothing new h
all_sound_lem (Dsome t) i f new K h c = nothing new h
all_sound_lem (Dall t) i f new K h c = constant_sound t i f new K h c
all_sound_lem (Dclause k ts) i f new K h c = nothing new h

-- A line that passes for a goal that takes a word is the line of that word.
plain_sound : (w : Word) (x : Line Symbol) (premises new : List (Sequent Symbol)) (K : List (Sequent Symbol) → Type 0)
    → cond (is_plain w x) (some premises) none ≡ some new → K new → (x ≡ plain w) × K premises
plain_sound w x premises new K h c = let r = guarded (is_plain w x) premises new h in (is_plain_true w x r.0, subst K (sym r.1) c)

-- A line that passes for a goal is a step, if K holds of what it leaves to derive.
pub infer_sound : (x : Line Symbol) (g : Goal) (e : Environment Symbol) (P : Program Symbol) (i : ℕ) (new : List (Sequent Symbol))
    (K : List (Sequent Symbol) → Type 0)
    → infer x g e P i ≡ some new → K new → Infers x g e P i K
unfolding infer Infers
infer_sound x (atom p us) e P i new K h c = clause_sound x p (substitutes us e) P i new K h c
infer_sound x truth e P i new K h c = plain_sound Dtrue x [] new K h c
infer_sound x (and a b) e P i new K h c = plain_sound Dand x (sequent a e P i ∷ sequent b e P i ∷ []) new K h c
infer_sound x (or a b) e P i new K h c = go (is_plain Dleft x) refl h
  where
    go : (l : Bool) → is_plain Dleft x ≡ l
        → cond l (some (sequent a e P i ∷ [])) (cond (is_plain Dright x) (some (sequent b e P i ∷ [])) none) ≡ some new
        → Infers x (or a b) e P i K
    go true q k = inl (is_plain_true Dleft x q, subst K (sym (cc)) c)
    go false q k = inr (plain_sound Dright x (sequent b e P i ∷ []) new K k c)
infer_sound x (implies d g) e P i new K h c = plain_sound Dassume x (sequent g e (assume (hypothesis d e) P) i ∷ []) new K h c
infer_sound x (exists v g) e P i new K h c = some_sound x i (λ t. sequent g (update e v t) P i ∷ []) new K h c
infer_sound x (forall v g) e P i new K h c = all_sound_lem x i (λ t. sequent g (update e v t) P (suc i) ∷ []) new K h c

-- and a step passes, leaving what K holds of

-- A clause line that fits the entry it names passes and leaves the body of the entry.
entry_complete : (m : Entry Symbol) (ts : List Ground) (p : ℕ) (us : Terms Symbol) (P : Program Symbol) (i : ℕ)
    → Instantiates m.member.prefix ts i → p ≡ m.member.predicate
    → us ≡ substitutes m.member.arguments (assign m.member.prefix ts m.environment)
    → infer_entry (some m) ts p us P i ≡ some (body_sequent m.member.body (assign m.member.prefix ts m.environment) P i)
unfolding infer_entry
entry_complete m ts p us P i n h a =
    rw (
      eq-eqb (length ts) (length m.member.prefix) n.many,
      low_all_low i ts n.low,
      eq-eqb p m.member.predicate h,
      ← a,
      same_terms_refl us,
    )

-- A step for a goal passes, and K holds of what it leaves to derive.
pub infer_complete : (x : Line Symbol) (g : Goal) (e : Environment Symbol) (P : Program Symbol) (i : ℕ) (K : List (Sequent Symbol) → Type 0)
    → Infers x g e P i K → (new : List (Sequent Symbol)) × (infer x g e P i ≡ some new) × K new
unfolding infer Infers is_plain same_word word_number infer_some infer_all infer_constant infer_clause
infer_complete x (atom p us) e P i K u =
    let m = u.used in
    let e' = assign m.member.prefix u.terms m.environment in (
      body_sequent m.member.body e' P i,
      ap (λ (y : Line Symbol). infer_clause y p (substitutes us e) P i) u.line
          ∙ ap (λ (o : Option (Entry Symbol)). infer_entry o u.terms p (substitutes us e) P i) (mem_entry_at (entries P) m u.at)
          ∙ entry_complete m u.terms p (substitutes us e) P i u.instantiates u.predicate u.arguments,
      u.premises,
    )
infer_complete x truth e P i K u = ([], ap (λ (y : Line Symbol). infer y truth e P i) u.0, u.1)
infer_complete x (and a b) e P i K u =
    (sequent a e P i ∷ sequent b e P i ∷ [], ap (λ (y : Line Symbol). infer y (and a b) e P i) u.0, u.1)
infer_complete x (or a b) e P i K (inl u) = (sequent a e P i ∷ [], ap (λ (y : Line Symbol). infer y (or a b) e P i) u.0, u.1)
infer_complete x (or a b) e P i K (inr u) = (sequent b e P i ∷ [], ap (λ (y : Line Symbol). infer y (or a b) e P i) u.0, u.1)
infer_complete x (implies c g) e P i K u =
    (sequent g e (assume (hypothesis c e) P) i ∷ [], ap (λ (y : Line Symbol). infer y (implies c g) e P i) u.0, u.1)
infer_complete x (exists v g) e P i K u = (
  sequent g (update e v u.0) P i ∷ [],
  ap (λ (y : Line Symbol). infer y (exists v g) e P i) u.1
      ∙ ap (λ (b : Bool). cond b (some (sequent g (update e v u.0) P i ∷ [])) none) (le-leb (level u.0) i u.2),
  u.3,
)
infer_complete x (forall v g) e P i K u =
    let c = leaf (made u.0 (suc i)) in (
      sequent g (update e v c) P (suc i) ∷ [],
      ap (λ (y : Line Symbol). infer y (forall v g) e P i) u.1
          ∙ ap (λ (b : Bool). cond b (some (sequent g (update e v c) P (suc i) ∷ [])) none) (eq-eqb (suc i) (suc i) refl),
      u.2,
    )
