-- Request W-202: "Every successful path of the walk stands there just once until the number is reached or the budget is spent, and no
-- after the last proof means that no further path succeeds." And promises T4, T5 and T7 for each proof found.
use Rattle.std.specs.Prelude.{ℕ, suc, ◌≤◌, ◌<◌, ◌≡◌, List, [], ◌∷◌, ◌++◌, map, reverse, ◌↔◌, ◌⊎◌, length}
use Rattle.std.proofs.Math.Option.{none}
use Rattle.terms.specs.Lists.{All, Mem}
use Rattle.formulas.specs.Formulas.{Goal, Clause}
use Rattle.formulas.specs.Rules.{Rules}
use Rattle.sequents.specs.Symbols.{Symbol}
use Rattle.sequents.specs.Sequents.{Environment, Line}
use Rattle.sequents.specs.Derivations.{lines, InstanceDerivation}
use Rattle.sequents.specs.Promises.{Closed}
use Rattle.unification.specs.Store.{Leaf, Store}
use Rattle.search.specs.Configurations.{Configuration, done}
use Rattle.search.specs.Search.{proved, no_proof, verdict_of, ends, spent, search}
use Rattle.search.specs.Answers.{final}
use Rattle.search.specs.Procedure.{answer_of}
use Rattle.search.specs.Promises.{WellFormed, Sound, Follows, FollowsSteps, SheetNames}
use Rattle.enumeration.specs.Enumeration.{Proof, proof_of, enough, exhausted, units_spent, Enumeration, enumerate}
use Rattle.enumeration.specs.GoingOn.{pass_proof, state_after}
use Rattle.enumeration.specs.Smaller.{firsts, within, one_proof}
use Rattle.enumeration.specs.Renumbering.{re_store, re_path}
use Rattle.enumeration.specs.Scripts.{Script, SucceedsWith, Succeeds, Before, Ascending, bare}

-- The proof is that of the script: the same store and lines, with other numbers for made constants, different ones for different.
pub record Belongs (cs : Rules Clause) (g : Goal) (is : Script) (w : Proof) : Type 0 where
  pub number : ℕ → ℕ
  pub differs : (c d : ℕ) → number c ≡ number d → c ≡ d
  pub succeeds : SucceedsWith cs g is (re_store number w.store) (re_path number w.path)

-- Two lists correspond one to one, in the same order.
unfoldable pub Paired : {A B : Type 0} → (A → B → Type 0) → List A → List B → Type 0
Paired R [] [] = Unit {0}
Paired R [] (b ∷ bs) = ⊥
Paired R (a ∷ as') [] = ⊥
Paired R (a ∷ as') (b ∷ bs) = R a b × Paired R as' bs

-- No two proofs have the same D lines, even without their terms.
unfoldable pub Different : List Proof → Type 0
Different [] = Unit {0}
Different (w ∷ ws) = All (λ v. map bare w.path ≡ map bare v.path → ⊥) ws × Different ws

-- The proofs found, and the scripts of all paths that succeed.
pub record PathsFound (cs : Rules Clause) (g : Goal) (r : Enumeration) : Type 0 where
  pub scripts : List Script
  pub belong : Paired (Belongs cs g) scripts r.found
  -- "in walk order", "just once"
  pub ascend : Ascending scripts
  pub differ : Different r.found
  -- Each that succeeds and is before one found is found;
  pub below : (p q : Script) → Mem p scripts → Succeeds cs g q → Before q p → Mem q scripts
  -- each that succeeds is found or is after all that are found;
  pub initial : (q : Script) → Succeeds cs g q → Mem q scripts ⊎ All (λ p. Before p q) scripts
  -- "no after the last proof means that no further path succeeds"
  pub all : (n : ℕ) → r.end ≡ exhausted n → (q : Script) → Succeeds cs g q → Mem q scripts

abbrev pub AllPaths : Type 0
AllPaths = (cs : Rules Clause) (g : Goal) (wanted budget : ℕ) → PathsFound cs g (enumerate wanted budget cs g)

-- Walk order puts any two paths that succeed in one order, and a path has one end: so the scripts of the found are determined.
pub record WalkOrder (cs : Rules Clause) (g : Goal) : Type 0 where
  pub never : (p : Script) → Before p p → ⊥
  pub onward : (p q r : Script) → Before p q → Before q r → Before p r
  pub either : (p q : Script) → Succeeds cs g p → Succeeds cs g q → (Before p q) ⊎ ((p ≡ q) ⊎ Before q p)
  pub once : (p : Script) (s t : Store) (ls ks : List (Line Leaf)) → SucceedsWith cs g p s ls → SucceedsWith cs g p t ks
      → (s ≡ t) × (ls ≡ ks)
  -- The lines without their terms tell which path it is: no two proofs found have the same.
  pub lines : (p q : Script) (s t : Store) (ls ks : List (Line Leaf)) → SucceedsWith cs g p s ls → SucceedsWith cs g q t ks
      → map bare ls ≡ map bare ks → p ≡ q

abbrev pub AllOrdered : Type 0
AllOrdered = (cs : Rules Clause) (g : Goal) → WalkOrder cs g

-- "for demand 3 a goal with a proof in the text counts as told proved, with the units and the text of its first proof": what the
-- search tells.
pub record FirstProof (cs : Rules Clause) (g : Goal) (wanted budget : ℕ) : Type 0 where
  pub proves : (n : ℕ) (s : Store) (path : List (Line Leaf)) → (search budget cs g ≡ ends (proved s path) n)
      ↔ ((rest : List Proof) × ((enumerate (suc wanted) budget cs g).found ≡ proof_of n s path ∷ rest))
  pub denies : (n : ℕ) → (search budget cs g ≡ ends no_proof n)
      ↔ (((enumerate (suc wanted) budget cs g).found ≡ []) × ((enumerate (suc wanted) budget cs g).end ≡ exhausted n))
  pub spends : (search budget cs g ≡ spent)
      ↔ (((enumerate (suc wanted) budget cs g).found ≡ []) × ((enumerate (suc wanted) budget cs g).end ≡ units_spent))

abbrev pub AllFirst : Type 0
AllFirst = (cs : Rules Clause) (g : Goal) (wanted budget : ℕ) → FirstProof cs g wanted budget

-- With number 1 it is the search of document 01.
abbrev pub OneProof : Type 0
OneProof = (cs : Rules Clause) (g : Goal) (budget : ℕ) → enumerate 1 budget cs g ≡ one_proof (search budget cs g)

-- Each has more units than the one before it, the first more than u.
unfoldable pub Climbs : ℕ → List Proof → Type 0
Climbs u [] = Unit {0}
Climbs u (w ∷ ws) = (u < w.units) × Climbs w.units ws

-- The number is reached exactly if it ends so; no proof has more units than the budget.
pub record Counts (cs : Rules Clause) (g : Goal) (wanted budget : ℕ) : Type 0 where
  pub most : length (enumerate wanted budget cs g).found ≤ wanted
  pub reached : ((enumerate wanted budget cs g).end ≡ enough) ↔ (length (enumerate wanted budget cs g).found ≡ wanted)
  pub units : All (λ w. w.units ≤ budget) (enumerate wanted budget cs g).found
  pub climb : Climbs 0 (enumerate wanted budget cs g).found
  pub last : (n : ℕ) → (enumerate wanted budget cs g).end ≡ exhausted n → n ≤ budget

abbrev pub AllCounts : Type 0
AllCounts = (cs : Rules Clause) (g : Goal) (wanted budget : ℕ) → Counts cs g wanted budget

-- Demand 3 for several proofs: a smaller number or budget leaves out what is beyond it and changes nothing else; so a larger one
-- extends the list, the first proof stays, and what ended with no alternative left stays as it is.
pub record Larger (cs : Rules Clause) (g : Goal) : Type 0 where
  pub number : (w v budget : ℕ) → w ≤ v
      → enumerate w budget cs g ≡ firsts w (enumerate v budget cs g).found (enumerate v budget cs g).end
  pub budgets : (wanted b c : ℕ) → b ≤ c
      → enumerate wanted b cs g ≡ within b (enumerate wanted c cs g).found (enumerate wanted c cs g).end
  pub extends : (w v b c : ℕ) → w ≤ v → b ≤ c
      → (more : List Proof) × ((enumerate v c cs g).found ≡ (enumerate w b cs g).found ++ more)
  pub first : (w v b c : ℕ) → w ≤ v → b ≤ c → (x : Proof) (rest : List Proof) → (enumerate w b cs g).found ≡ x ∷ rest
      → (more : List Proof) × ((enumerate v c cs g).found ≡ x ∷ more)
  pub settled : (w v b c n : ℕ) → w ≤ v → b ≤ c → (enumerate w b cs g).end ≡ exhausted n → enumerate v c cs g ≡ enumerate w b cs g

abbrev pub AllLarger : Type 0
AllLarger = (cs : Rules Clause) (g : Goal) → Larger cs g

-- T5 and T4 for each proof found: its answer substitution is what its store gives.
pub record EachProof (cs : Rules Clause) (g : Goal) (w : Proof) : Type 0 where
  pub sound : Sound cs g w.store w.path
  pub follows : Follows cs g w.store [] w.path
  pub answer : (l : Leaf) → answer_of follows.sequence l ≡ final w.store l

abbrev pub AllSound : Type 0
AllSound = (cs : Rules Clause) (g : Goal) (wanted budget : ℕ) → All (EachProof cs g) (enumerate wanted budget cs g).found

-- T4 for the walk that goes on: each of its states is well formed and follows the derivation steps of CS-1992-17.
abbrev pub AllGoingOn : Type 0
AllGoingOn = (cs : Rules Clause) (g : Goal) (n : ℕ) → All WellFormed (state_after cs g n) × All (FollowsSteps cs g) (state_after cs g n)

-- These states are those of the enumeration: after the units of each proof the state is that proof, with its alternatives. Where no
-- alternative is left there is no state to go on with, and where the units are spent an act is due after as many acts as the budget.
pub record StatesFound (cs : Rules Clause) (g : Goal) (budget : ℕ) (r : Enumeration) : Type 0 where
  pub proofs : All (λ p. (ds : List Configuration) × (state_after cs g p.units ≡ done p.store p.path ∷ ds)) r.found
  pub last : (n : ℕ) → r.end ≡ exhausted n → pass_proof (state_after cs g n) ≡ []
  pub spends : r.end ≡ units_spent → verdict_of (pass_proof (state_after cs g budget)) ≡ none

abbrev pub AllStates : Type 0
AllStates = (cs : Rules Clause) (g : Goal) (wanted budget : ℕ) → StatesFound cs g budget (enumerate wanted budget cs g)

-- Programmers want "the alternatives to a proof": terms aside, the paths that succeed are the derivations of instances of the goal.
pub record PathsAreDerivations (cs : Rules Clause) (g : Goal) : Type 0 where
  -- A path that succeeds derives the instance of its final values;
  pub derives : (p : Script) (s : Store) (ls : List (Line Leaf)) → SucceedsWith cs g p s ls → Sound cs g s ls
  -- and each derivation of an instance has the lines of a path that succeeds.
  pub path : (e : Environment Symbol) (d : InstanceDerivation cs g e)
      → (p : Script) × ((s : Store) × ((ls : List (Line Leaf))
      × (SucceedsWith cs g p s ls × (map bare ls ≡ reverse (map bare (lines d.derivation))))))

abbrev pub AllDerivations : Type 0
AllDerivations = (cs : Rules Clause) (g : Goal) → All Closed cs.clauses → SheetNames g → PathsAreDerivations cs g

-- So where no alternative is left each derivation of an instance, whoever made it, has the lines of one of the proofs found.
abbrev pub NoOther : Type 0
NoOther = (cs : Rules Clause) (g : Goal) (e : Environment Symbol) → All Closed cs.clauses → SheetNames g
    → (d : InstanceDerivation cs g e) → (wanted budget n : ℕ) → (enumerate wanted budget cs g).end ≡ exhausted n
    → (w : Proof) × (Mem w (enumerate wanted budget cs g).found × (map bare w.path ≡ reverse (map bare (lines d.derivation))))

-- T7: whoever holds a derivation of some instance is never told no without a proof before it.
abbrev pub NoneMissed : Type 0
NoneMissed = (cs : Rules Clause) (g : Goal) (e : Environment Symbol) → All Closed cs.clauses → SheetNames g
    → InstanceDerivation cs g e → (wanted budget n : ℕ) → (enumerate wanted budget cs g).found ≡ []
    → (enumerate wanted budget cs g).end ≡ exhausted n → ⊥
