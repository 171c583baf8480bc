-- T5 and T4 for each proof found: what acts keep is true wherever a script leads.
use Prim.Native.Nat.{ℕ, zero, suc, ◌+◌, ◌≤◌}
use mathlib.Core.Path.{◌≡◌, subst}
use mathlib.Core.List.{List, [], ◌∷◌}
use native.Mathlib.Decide.{dec_le}
use native.Mathlib.Omega.{arith}
use lib.ListN.{length}
use Rattle.terms.specs.Lists.{All}
use Rattle.formulas.specs.Formulas.{Goal, Clause}
use Rattle.formulas.specs.Rules.{Rules}
use Rattle.sequents.specs.Sequents.{Line}
use Rattle.unification.specs.Store.{Leaf, Store}
use Rattle.search.specs.Configurations.{Configuration, take, try, match, done}
use Rattle.search.specs.Steps.{step}
use Rattle.search.specs.Search.{start_store, start_goal, start}
use Rattle.search.specs.Promises.{Sound, Follows, FollowsSteps}
use Rattle.search.proofs.Invariant.{Invariant, start_invariant, step_keeps}
use Rattle.search.proofs.Sound.{SoundConfiguration, start_sound, step_sound, sound_end}
use Rattle.search.proofs.ProcedureSteps.{Known, known_follows, known_more, step_known, start_known}
use Rattle.search.proofs.ProcedureSearch.{all_both, follows_answer}
use Rattle.enumeration.specs.Enumeration.{Proof, proof_of, enumerate}
use Rattle.enumeration.specs.Scripts.{Script, acts, LeadsTo, root, SucceedsWith}
use Rattle.enumeration.specs.Promises.{Paired, EachProof, AllSound}
use Rattle.enumeration.proofs.Numbers.{Rising}
use Rattle.enumeration.proofs.Paths.{LeadsBy, leads_keep}
use Rattle.enumeration.proofs.Found.{Arrives}
use Rattle.enumeration.proofs.PathsFound.{found_at_start}

-- What a step keeps is kept by what an act gives to choose from.
pub acts_keep : (P : Configuration → Type 0) (u : ℕ) (c : Configuration) → All P (step u c) → All P (acts u c)
unfolding acts
acts_keep P u (take s g b) h = h
acts_keep P u (try s a m ms k b) h = h
acts_keep P u (match m b) h = h
acts_keep P u (done s ls) h = tt

-- What waits for one act more waits for any number of them.
waits : (P : ℕ → Type 0) → ((u : ℕ) → P u → P (suc u)) → (v u : ℕ) → u ≤ v → P u → P v
waits P more zero u l h = let q : u ≡ 0 = omega arith in subst P q h
waits P more (suc v) u l h = go (dec_le u v) (λ k. waits P more v u k h)
  where
    go : Dec (u ≤ v) → (u ≤ v → P v) → P (suc v)
    go (yes k) ih = more v (ih k)
    go (no k) ih = let q : u ≡ suc v = omega arith in subst P q h

module _ (cs : Rules Clause) (g : Goal) where
  -- All that is known of a configuration after u acts.
  abbrev Fine : ℕ → Configuration → Type 0
  Fine u c = Invariant c × (SoundConfiguration start_store (start_goal cs g) c × Known cs g u c)

  -- An act carries it on,
  fine_acts : (u : ℕ) (c : Configuration) → Fine u c → All (Fine (suc u)) (acts u c)
  fine_acts u c h = acts_keep (Fine (suc u)) u c
      (all_both Invariant (λ d. SoundConfiguration start_store (start_goal cs g) d × Known cs g (suc u) d) (step u c) (step_keeps u c h.0)
      (all_both (SoundConfiguration start_store (start_goal cs g)) (Known cs g (suc u)) (step u c)
      (step_sound start_store (start_goal cs g) u c h.1.0) (step_known cs g u c h.0 h.1.1)))

  -- it stays while other acts are done,
  fine_waits : (u v : ℕ) (c : Configuration) → u ≤ v → Fine u c → Fine v c
  fine_waits u v c l h = (h.0, (h.1.0, waits (λ n. Known cs g n c) (λ n k. known_more cs g n c k) v u l h.1.1))

  -- and it is so at the start.
  fine_start : Fine 0 (root cs g)
  unfolding root start
  fine_start = ((start_invariant cs g).0, ((start_sound cs g).0, (start_known cs g).0))

  -- So it is where a proof is found, and this is what is promised of it.
  each : (is : Script) (w : Proof) → Arrives cs g is w → EachProof cs g w
  unfolding FollowsSteps Invariant
  each is w h =
      let d = done w.store w.path in
      let f : Fine w.units d = leads_keep Fine fine_acts fine_waits h.0 is 0 w.units (root cs g) d h.2 h.1 fine_start in
      let follows : Follows cs g w.store [] w.path = known_follows cs g w.units d f.1.1 in
      record {
        sound = sound_end cs g w.store w.path f.0 f.1.0;
        follows = follows;
        answer = follows_answer w.store [] w.path f.0 follows;
      }

  -- So it is for all proofs found.
  each_all : (x : List Script) (ws : List Proof) → Paired (Arrives cs g) x ws → All (EachProof cs g) ws
  unfolding Paired
  each_all [] [] h = tt
  each_all [] (w ∷ ws) h = absurd h
  each_all (is ∷ x) [] h = tt
  each_all (is ∷ x) (w ∷ ws) h = (each is w h.0, each_all x ws h.1)

-- The proofs found are those that paths from the start arrive at.
pub each_sound : AllSound
each_sound cs g wanted budget =
    let t = found_at_start cs g wanted budget in each_all cs g t.scripts (enumerate wanted budget cs g).found t.arrive

-- The acts of a path by itself have rising numbers.
own_acts : (is : Script) (u : ℕ) (c d : Configuration) → LeadsTo is u c d
    → (ns : List ℕ) × (LeadsBy ns is c d × Rising u ns (u + length is))
unfolding LeadsTo LeadsBy Rising
own_acts [] u c d h = ([], (h, omega arith))
own_acts (i ∷ is) u c d h =
    let r = own_acts is (suc u) h.0 d h.2 in
    let q : suc u + length is ≡ u + length (i ∷ is) = omega arith in
    (u ∷ r.0, ((h.0, h.1, r.1.0), (omega arith, subst (λ (v : ℕ). Rising (suc u) r.0 v) q r.1.1)))

-- A path that succeeds by itself arrives in the same way.
pub path_sound : (cs : Rules Clause) (g : Goal) (p : Script) (s : Store) (ls : List (Line Leaf)) → SucceedsWith cs g p s ls
    → Sound cs g s ls
unfolding SucceedsWith
path_sound cs g p s ls h =
    let r = own_acts p 0 (root cs g) (done s ls) h in
    (each cs g p (proof_of (0 + length p) s ls) (r.0, r.1.0, r.1.1)).sound
