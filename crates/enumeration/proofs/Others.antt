-- Paths that succeed and derivations are the same, terms aside; so nothing is missed.
use Prim.Native.Nat.{ℕ, zero, suc}
use mathlib.Core.Path.{◌≡◌, sym, ◌∙◌, ap}
use mathlib.Core.List.{List, [], ◌∷◌, map}
use native.Mathlib.Omega.{arith}
use Rattle.terms.specs.Lists.{Mem, here, there}
use Rattle.search.proofs.Promises.{completeness}
use Rattle.enumeration.specs.Enumeration.{enumerate_from, enumerate}
use Rattle.enumeration.specs.Renumbering.{renumbered, re_store, re_path}
use Rattle.enumeration.specs.Scripts.{SucceedsWith, bare}
use Rattle.enumeration.specs.Promises.{Belongs, Paired, AllDerivations, NoOther, NoneMissed}
use Rattle.enumeration.proofs.Scripts.{bare_lines}
use Rattle.enumeration.proofs.Derivations.{derivation_path}
use Rattle.enumeration.proofs.PathsFound.{paths_found, walk_order}
use Rattle.enumeration.proofs.First.{first_proof}
use Rattle.enumeration.proofs.Each.{path_sound}

-- Each is the other, terms aside.
pub paths_derivations : AllDerivations
unfolding SucceedsWith
paths_derivations cs g c n = record {
  derives = path_sound cs g;
  path = λ e d. let r = derivation_path cs g e c n d in (r.0, (r.1.0, (r.1.1.0, (r.1.1.1.0, r.1.1.1.1))));
}

-- To what stands in the first list something in the second corresponds.
paired_with : {A B : Type 0} (R : A → B → Type 0) (a : A) (x : List A) (y : List B) → Mem a x → Paired R x y → (b : B) × (Mem b y × R a b)
unfolding Paired
paired_with R a [] y h p = elim h [ ]
paired_with R a (c ∷ x) [] here p = absurd p
paired_with R a (c ∷ x) (b ∷ y) here p = (b, (here, p.0))
paired_with R a (c ∷ x) [] (there h) p = absurd p
paired_with R a (c ∷ x) (b ∷ y) (there h) p = let r = paired_with R a x y h p.1 in (r.0, (there r.1.0, r.1.1))

-- Where no alternative is left the path of a derivation is found, and its proof has the same lines.
pub no_other_lem : NoOther
unfolding SucceedsWith re_path
no_other_lem cs g e c n d wanted budget m q =
    let r = (paths_derivations cs g c n).path e d in
    let f = paths_found cs g wanted budget in
    let h = f.all m q r.0 (r.1.0, (r.1.1.0, r.1.1.1.0)) in
    let w = paired_with (Belongs cs g) r.0 f.scripts (enumerate wanted budget cs g).found h f.belong in
    let b = w.1.1 in
    let same =
    (walk_order cs g).once r.0 (re_store b.number w.0.store) r.1.0 (re_path b.number w.0.path) r.1.1.0 b.succeeds
    r.1.1.1.0 in
    (w.0, (w.1.0, sym (bare_lines (renumbered b.number) w.0.path) ∙ ap (map bare) same.1 ∙ r.1.1.1.1))

-- Whoever holds a derivation of an instance is never told no without a proof.
pub none_missed_lem : NoneMissed
unfolding enumerate enumerate_from
none_missed_lem cs g e c s d zero budget n nothing last = absurd (let z : ◌≡◌ {A = ℕ} 0 1 = cc in omega arith)
none_missed_lem cs g e c s d (suc wanted) budget n nothing last =
    completeness cs g e c s d budget n (((first_proof cs g wanted budget).denies n).1 (nothing, last))
