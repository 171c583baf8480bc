-- Lines that are right one after the other, from the opening to no sequent left, are the lines of a derivation of an instance.
use Prim.Native.Nat.{ℕ, zero, suc, ◌+◌, ◌≤◌, ◌<◌}
use mathlib.Core.Path.{◌≡◌, refl, sym, ◌∙◌, ap, ap₂, subst}
use mathlib.Core.Bool.{Bool, true, false, ◌&&◌, cond, true≢false}
use mathlib.Core.List.{List, [], ◌∷◌, ◌++◌, map}
use mathlib.Core.Option
use mathlib.Core.Option.{none, some}
use native.Mathlib.Omega.{arith}
use lib.Dec.{eqb, leb}
use borrow.Author.Tests.{eqb-true, eqb-false, eq-eqb, leb-true, le-leb}
use Rattle.terms.specs.Lists.{All, Mem, here, there, update}
use Rattle.terms.proofs.Lists.{all_mem, all_weaken, map_append, map_map, update_same, update_other}
use Rattle.formulas.specs.Formulas.{Goal, Clause, free_g, free_from, free_variables}
use Rattle.formulas.specs.Rules.{Rules, rules}
use Rattle.formulas.proofs.Free.{and_parts}
use Rattle.sequents.specs.Symbols.{Symbol, Ground, level}
use Rattle.sequents.specs.Sequents.{Environment, Hypothesis, hypothesis, Sequent, Line, put_environment, put_hypothesis}
use Rattle.sequents.specs.Derivations.{Derivation, Derivable, lines, sheet_program, instance_of, InstanceDerivation}
use Rattle.sequents.specs.Lines.{Leads, Derives}
use Rattle.sequents.specs.Renamings.{Renaming, renamed, rename_line}
use Rattle.sequents.specs.Promises.{Closed}
use Rattle.sequents.proofs.Renamings.{rename_level}
use Rattle.sequents.proofs.Promises.{trees, renamable, locality}
use Rattle.sequents.proofs.Lines.{infers_weaken}
use Rattle.sheet_format.specs.Limits.{variable_names, max_budget}
use Rattle.sheet_format.specs.Sheets.{Sheet, rules_of}
use Rattle.answer_texts.specs.TextLines.{TextLine, result_line, binding_line, derivation_line, answer_lines, rename_text_line}
use Rattle.answer_texts.specs.Spelled.{Stage, opening, bindings, sequents, bound_stage, blank, Allowed, Proceeds}
use Rattle.text_judging.specs.Judging.{infer, allow}
use Rattle.answer_texts.proofs.FirstShowings.{and_both}
use Rattle.text_judging.proofs.Infer.{guarded, nothing, mapped, infer_sound, infer_complete}

-- one line

-- A line that passes is right, if K holds of the stage after it.
pub allow_sound : (s : Sheet) (x : TextLine) (a b : Stage) (K : Stage → Type 0) → allow s x a ≡ some b → K b → Allowed s x a K
unfolding allow Allowed
allow_sound s (result_line n) opening b K h k =
    let r = guarded (leb 1 n && leb n max_budget) (bound_stage s (free_variables s.goal) blank) b h in
    let q = and_parts (leb 1 n) (leb n max_budget) r.0 in
    (leb-true 1 n q.0, leb-true n max_budget q.1, subst K (sym r.1) k)
allow_sound s (result_line n) (bindings vs e) b K h k = nothing b h
allow_sound s (result_line n) (sequents gs) b K h k = nothing b h
allow_sound s (binding_line v t) opening b K h k = nothing b h
allow_sound s (binding_line v t) (bindings [] e) b K h k = nothing b h
allow_sound s (binding_line v t) (bindings (w ∷ ws) e) b K h k =
    let r = guarded (eqb v w && leb (level t) 0) (bound_stage s ws (update e w t)) b h in
    let q = and_parts (eqb v w) (leb (level t) 0) r.0 in
    (eqb-true v w q.0, leb-true (level t) 0 q.1, subst K (sym r.1) k)
allow_sound s (binding_line v t) (sequents gs) b K h k = nothing b h
allow_sound s (derivation_line x) opening b K h k = nothing b h
allow_sound s (derivation_line x) (bindings vs e) b K h k = nothing b h
allow_sound s (derivation_line x) (sequents []) b K h k = nothing b h
allow_sound s (derivation_line x) (sequents (g ∷ gs)) b K h k =
    let r = mapped (λ new. sequents (new ++ gs)) (infer x g.goal g.environment g.program g.level) b h in
    infer_sound x g.goal g.environment g.program g.level r.0 (λ new. K (sequents (new ++ gs))) r.1
    (subst K (sym r.2) k)

-- A line that is right passes, and K holds of the stage after it.
pub allow_complete : (s : Sheet) (x : TextLine) (a : Stage) (K : Stage → Type 0) → Allowed s x a K → (b : Stage) × (allow s x a ≡ some b)
    × K b
unfolding allow Allowed
allow_complete s (result_line n) opening K h = (
  bound_stage s (free_variables s.goal) blank,
  ap (λ (c : Bool). cond c (some (bound_stage s (free_variables s.goal) blank)) none)
      (and_both (leb 1 n) (leb n max_budget) (le-leb 1 n h.0) (le-leb n max_budget h.1)),
  h.2,
)
allow_complete s (result_line n) (bindings vs e) K h = absurd h
allow_complete s (result_line n) (sequents gs) K h = absurd h
allow_complete s (binding_line v t) opening K h = absurd h
allow_complete s (binding_line v t) (bindings [] e) K h = absurd h
allow_complete s (binding_line v t) (bindings (w ∷ ws) e) K h = (
  bound_stage s ws (update e w t),
  ap (λ (c : Bool). cond c (some (bound_stage s ws (update e w t))) none)
      (and_both (eqb v w) (leb (level t) 0) (eq-eqb v w h.0) (le-leb (level t) 0 h.1)),
  h.2,
)
allow_complete s (binding_line v t) (sequents gs) K h = absurd h
allow_complete s (derivation_line x) opening K h = absurd h
allow_complete s (derivation_line x) (bindings vs e) K h = absurd h
allow_complete s (derivation_line x) (sequents []) K h = absurd h
allow_complete s (derivation_line x) (sequents (g ∷ gs)) K h =
    let r = infer_complete x g.goal g.environment g.program g.level (λ new. K (sequents (new ++ gs))) h in
    (sequents (r.0 ++ gs), ap (Option.map (λ new. sequents (new ++ gs))) r.1, r.2)

-- D lines

-- D lines that lead from sequents to sequents proceed.
leads_proceeds : (s : Sheet) (ls : List (Line Symbol)) (gs rest : List (Sequent Symbol)) → Leads ls gs rest
    → Proceeds s (map derivation_line ls) (sequents gs) (sequents rest)
unfolding Leads Proceeds Allowed
leads_proceeds s [] gs rest h = ap sequents h
leads_proceeds s (x ∷ ls) [] rest h = absurd h
leads_proceeds s (x ∷ ls) (g ∷ gs) rest h =
    infers_weaken x g.goal g.environment g.program g.level (λ new. Leads ls (new ++ gs) rest)
    (λ new. Proceeds s (map derivation_line ls) (sequents (new ++ gs)) (sequents rest)) (λ new k. leads_proceeds s ls (new ++ gs) rest k) h

-- Where sequents are left, only D lines that derive them proceed to the end.
proceeds_derives : (s : Sheet) (xs : List TextLine) (gs : List (Sequent Symbol)) → Proceeds s xs (sequents gs) (sequents [])
    → (ls : List (Line Symbol)) × (xs ≡ map derivation_line ls) × Derives ls gs
unfolding Leads Proceeds Allowed
proceeds_derives s [] gs h = ([], refl, cc)
proceeds_derives s (result_line n ∷ xs) gs h = absurd h
proceeds_derives s (binding_line v t ∷ xs) gs h = absurd h
proceeds_derives s (derivation_line x ∷ xs) [] h = absurd h
proceeds_derives s (derivation_line x ∷ xs) (g ∷ gs) h =
    let r = infer_complete x g.goal g.environment g.program g.level
    (λ new. Proceeds s xs (sequents (new ++ gs)) (sequents [])) h in
    let q = proceeds_derives s xs (r.0 ++ gs) r.2 in (
      x ∷ q.0,
      ap (derivation_line x ∷◌) q.1,
      infer_sound x g.goal g.environment g.program g.level r.0
          (λ new. Leads q.0 (new ++ gs) []) r.1 q.2,
    )

-- B lines

-- The environment f with the terms that e has for the names.
unfoldable bound : List ℕ → Environment Symbol → Environment Symbol → Environment Symbol
bound [] e f = f
bound (v ∷ vs) e f = bound vs e (update f v (e v))

-- B lines for all names, with terms of level 0, proceed if the lines after them do.
bindings_proceed : (s : Sheet) (vs : List ℕ) (e f : Environment Symbol) (xs : List TextLine) (b : Stage) → All (λ v. level (e v) ≤ 0) vs
    → Proceeds s xs (bound_stage s [] (bound vs e f)) b → Proceeds s (map (λ v. binding_line v (e v)) vs ++ xs) (bound_stage s vs f) b
unfolding Proceeds Allowed bound_stage bound
bindings_proceed s [] e f xs b l h = h
bindings_proceed s (v ∷ vs) e f xs b l h = (refl, l.0, bindings_proceed s vs e (update f v (e v)) xs b l.1 h)

-- Names that ascend, from k on.
unfoldable Ascending : ℕ → List ℕ → Type 0
Ascending k [] = Unit {0}
Ascending k (v ∷ vs) = (k ≤ v) × Ascending (suc v) vs

-- B lines, one for each name, then D lines for the instance that they name; names below k keep what f says.
record Bound (s : Sheet) (vs : List ℕ) (k : ℕ) (f : Environment Symbol) (xs : List TextLine) : Type 0 where
  environment : Environment Symbol
  derivation : List (Line Symbol)
  text_lines : xs ≡ map (λ v. binding_line v (environment v)) vs ++ map derivation_line derivation
  low : All (λ v. level (environment v) ≤ 0) vs
  below : (w : ℕ) → w < k → environment w ≡ f w
  derives : Derives derivation (instance_of (rules_of s) s.goal environment ∷ [])

-- Where B lines are due, only these and then D lines proceed to the end.
proceeds_bindings : (s : Sheet) (vs : List ℕ) (k : ℕ) (f : Environment Symbol) (xs : List TextLine) → Ascending k vs
    → Proceeds s xs (bound_stage s vs f) (sequents []) → Bound s vs k f xs
unfolding Proceeds Allowed bound_stage Ascending
proceeds_bindings s [] k f xs a h =
    let r = proceeds_derives s xs (instance_of (rules_of s) s.goal f ∷ []) h in
    record { environment = f; derivation = r.0; text_lines = r.1; low = tt; below = λ w l. refl; derives = r.2 }
proceeds_bindings s (v ∷ vs) k f [] a h = absurd (let z : ◌≡◌ {A = ℕ} 0 1 = cc in omega arith)
proceeds_bindings s (v ∷ vs) k f (result_line n ∷ xs) a h = absurd h
proceeds_bindings s (v ∷ vs) k f (binding_line w t ∷ xs) a h =
    let r = proceeds_bindings s vs (suc v) (update f v t) xs a.1 h.2 in
    let q : r.environment v ≡ t = r.below v (omega arith) ∙ update_same f v t in
    record {
      environment = r.environment;
      derivation = r.derivation;
      text_lines = ap₂ ◌∷◌ (ap₂ binding_line h.0 (sym q)) r.text_lines;
      low = (subst (λ (u : Ground). level u ≤ 0) (sym q) h.1, r.low);
      below = λ u l. r.below u (let g = a.0 in omega arith) ∙ update_other f v t u (λ p. let g = a.0 in omega arith);
      derives = r.derives;
    }
proceeds_bindings s (v ∷ vs) k f (derivation_line x ∷ xs) a h = absurd h

-- the goal's free names

-- Names that ascend from k + 1 on ascend from k on.
ascending_down : (k : ℕ) (vs : List ℕ) → Ascending (suc k) vs → Ascending k vs
unfolding Ascending
ascending_down k [] h = tt
ascending_down k (v ∷ vs) h = (let l = h.0 in omega arith, h.1)

-- The free names of a goal ascend.
free_ascending : (n v : ℕ) (g : Goal) → Ascending v (free_from n v g)
unfolding Ascending free_from
free_ascending zero v g = tt
free_ascending (suc n) v g = go (free_g g v) (free_ascending n (suc v) g)
  where
    go : (b : Bool) → Ascending (suc v) (free_from n (suc v) g)
        → Ascending v (elim b as (λ c. List ℕ) [ true ↦ v ∷ free_from n (suc v) g | false ↦ free_from n (suc v) g ])
    go true h = (omega arith, h)
    go false h = ascending_down v (free_from n (suc v) g) h

-- The free names that are listed stand free in the goal.
free_all : (n v : ℕ) (g : Goal) → All (λ w. free_g g w ≡ true) (free_from n v g)
unfolding free_from
free_all zero v g = tt
free_all (suc n) v g = go (free_g g v) refl (free_all n (suc v) g)
  where
    go : (b : Bool) → free_g g v ≡ b → All (λ w. free_g g w ≡ true) (free_from n (suc v) g)
        → All (λ w. free_g g w ≡ true) (elim b as (λ c. List ℕ) [ true ↦ v ∷ free_from n (suc v) g | false ↦ free_from n (suc v) g ])
    go true q h = (q, h)
    go false q h = h

-- Each name in the range that stands free in the goal is listed.
free_mem : (n v : ℕ) (g : Goal) (w : ℕ) → free_g g w ≡ true → v ≤ w → w < v + n → Mem w (free_from n v g)
unfolding free_from
free_mem zero v g w f l m = absurd (omega arith)
free_mem (suc n) v g w f l m = go (free_g g v) refl (eqb w v) refl (λ k. free_mem n (suc v) g w f k (omega arith))
  where
    go : (b : Bool) → free_g g v ≡ b → (c : Bool) → eqb w v ≡ c → (suc v ≤ w → Mem w (free_from n (suc v) g))
        → Mem w (elim b as (λ c. List ℕ) [ true ↦ v ∷ free_from n (suc v) g | false ↦ free_from n (suc v) g ])
    go true q true p h = subst (λ (x : ℕ). Mem x (v ∷ free_from n (suc v) g)) (sym (eqb-true w v p)) here
    go true q false p h = there (h (let d = eqb-false w v p in omega arith))
    go false q true p h = absurd (true≢false (sym f ∙ ap (free_g g) (eqb-true w v p) ∙ q))
    go false q false p h = h (let d = eqb-false w v p in omega arith)

-- A name that f and e agree on keeps its term.
bound_kept : (vs : List ℕ) (e f : Environment Symbol) (w : ℕ) → f w ≡ e w → bound vs e f w ≡ e w
unfolding bound update
bound_kept [] e f w h = h
bound_kept (v ∷ vs) e f w h = bound_kept vs e (update f v (e v)) w (go (eqb w v) refl)
  where
    go : (b : Bool) → eqb w v ≡ b → cond b (e v) (f w) ≡ e w
    go true q = ap e (sym (eqb-true w v q))
    go false q = h

-- A name that has a B line has the term that e gives it.
bound_agree : (vs : List ℕ) (e f : Environment Symbol) (w : ℕ) → Mem w vs → bound vs e f w ≡ e w
unfolding bound
bound_agree vs e f w (here {l = ws}) = bound_kept ws e (update f w (e w)) w (update_same f w (e w))
bound_agree vs e f w (there {b = v} {l = ws} h) = bound_agree ws e (update f v (e v)) w h

-- renamed lines

-- The renamed lines of an answer are those of the renamed environment and the renamed D lines.
answer_rename : (r : Renaming) (n : ℕ) (vs : List ℕ) (e : Environment Symbol) (ls : List (Line Symbol))
    → map (rename_text_line r) (answer_lines n vs e ls) ≡ answer_lines n vs (put_environment (renamed r) e) (map (rename_line r) ls)
unfolding answer_lines rename_text_line
answer_rename r n vs e ls =
    ap (result_line n ∷◌) (map_append (rename_text_line r) (map (λ v. binding_line v (e v)) vs) (map derivation_line ls)
    ∙ ap₂ ◌++◌ (map_map (λ v. binding_line v (e v)) (rename_text_line r) vs) (map_map derivation_line (rename_text_line r) ls
    ∙ sym (map_map (rename_line r) derivation_line ls)))

-- The renamed lines of a derivation of an instance are those of a derivation of the renamed instance.
instance_rename : (cs : Rules Clause) (g : Goal) (r : Renaming) (e : Environment Symbol) (d : Derivable (instance_of cs g e))
    → (d' : Derivable (instance_of cs g (put_environment (renamed r) e))) × (lines d' ≡ map (rename_line r) (lines d))
unfolding instance_of sheet_program
instance_rename cs g r e d =
    subst (λ (P : List (Hypothesis Symbol)). (d' : Derivation (rules cs.order P) g (put_environment (renamed r) e) 0)
    × (lines d' ≡ map (rename_line r) (lines d)))
    (map_map (λ c. hypothesis c e) (put_hypothesis (renamed r)) cs.clauses) ((renamable r).tree (sheet_program cs e) g e 0 d)

-- whole texts

-- The lines of a derivation of an instance.
pub record InstanceLines (s : Sheet) (xs : List TextLine) : Type 0 where
  pub units : ℕ
  pub least : 1 ≤ units
  pub most : units ≤ max_budget
  pub environment : Environment Symbol
  pub proof : InstanceDerivation (rules_of s) s.goal environment
  pub text_lines : xs ≡ answer_lines units (free_variables s.goal) environment (lines proof.derivation)

module _ (s : Sheet) (closed : All Closed s.clauses) (small : (v : ℕ) → free_g s.goal v ≡ true → v < variable_names) where
  -- Each name that stands free in the goal has a B line.
  free_due : (v : ℕ) → free_g s.goal v ≡ true → Mem v (free_variables s.goal)
  unfolding free_variables
  free_due v f = free_mem 8 0 s.goal v f (omega arith) (let l = small v f in omega arith)

  -- Lines that proceed until no sequent is left are the lines of a derivation of an instance.
  pub proceeds_instance : (xs : List TextLine) → Proceeds s xs opening (sequents []) → InstanceLines s xs
  unfolding Proceeds Allowed free_variables answer_lines
  proceeds_instance [] h = absurd (let z : ◌≡◌ {A = ℕ} 0 1 = cc in omega arith)
  proceeds_instance (result_line n ∷ xs) h =
      let vs = free_variables s.goal in
      let b = proceeds_bindings s vs 0 blank xs (free_ascending 8 0 s.goal) h.2 in
      let d = (trees (instance_of (rules_of s) s.goal b.environment)).lines_tree b.derivation b.derives in
      record {
        units = n;
        least = h.0;
        most = h.1;
        environment = b.environment;
        proof = record { level0 = λ v f. all_mem (λ w. level (b.environment w) ≤ 0) vs v b.low (free_due v f); derivation = d.0 };
        text_lines = ap (result_line n ∷◌) (b.text_lines
            ∙ ap (λ (ls : List (Line Symbol)). map (λ v. binding_line v (b.environment v)) vs ++ map derivation_line ls) (sym d.1));
      }
  proceeds_instance (binding_line v t ∷ xs) h = absurd h
  proceeds_instance (derivation_line x ∷ xs) h = absurd h

  -- The renamed lines of a derivation derive the instance that the renamed B lines name.
  renamed_derives : (r : Renaming) (e : Environment Symbol) (d : Derivable (instance_of (rules_of s) s.goal e))
      → Derives (map (rename_line r) (lines d))
      (instance_of (rules_of s) s.goal (bound (free_variables s.goal) (put_environment (renamed r) e) blank) ∷ [])
  renamed_derives r e d =
      let vs = free_variables s.goal in
      let e' = put_environment (renamed r) e in
      let g = instance_of (rules_of s) s.goal (bound vs e' blank) in
      let a = instance_rename (rules_of s) s.goal r e d in
      let b = (locality (rules_of s) s.goal closed).tree e' (bound vs e' blank) (λ v f. sym (bound_agree vs e' blank v (free_due v f)))
      a.0 in
      subst (λ (ls : List (Line Symbol)). Derives ls (g ∷ [])) (b.1 ∙ a.1) ((trees g).tree_lines b.0)

  -- The renamed terms of the goal's free variables have level 0.
  renamed_low : (r : Renaming) (e : Environment Symbol) → InstanceDerivation (rules_of s) s.goal e
      → All (λ v. level (put_environment (renamed r) e v) ≤ 0) (free_variables s.goal)
  unfolding free_variables
  renamed_low r e d =
      all_weaken (λ v. free_g s.goal v ≡ true) (λ v. level (put_environment (renamed r) e v) ≤ 0)
      (λ v f. rename_level r 0 (e v) (d.level0 v f))
      (free_variables s.goal) (free_all 8 0 s.goal)

  -- The lines of a derivation of an instance, renamed, proceed until no sequent is left.
  pub instance_proceeds : (r : Renaming) (xs : List TextLine) → InstanceLines s xs
      → Proceeds s (map (rename_text_line r) xs) opening (sequents [])
  unfolding Proceeds Allowed answer_lines bound_stage
  instance_proceeds r xs h =
      let vs = free_variables s.goal in
      let e = put_environment (renamed r) h.environment in
      let ls = map (rename_line r) (lines h.proof.derivation) in
      let derives = leads_proceeds s ls (instance_of (rules_of s) s.goal (bound vs e blank) ∷ []) []
      (renamed_derives r h.environment h.proof.derivation) in
      subst (λ (ys : List TextLine). Proceeds s ys opening (sequents []))
      (sym (ap (map (rename_text_line r)) h.text_lines ∙ answer_rename r h.units vs h.environment (lines h.proof.derivation))) (
        h.least,
        h.most,
        bindings_proceed s vs e blank (map derivation_line ls) (sequents [])
            (renamed_low r h.environment h.proof) derives,
      )
