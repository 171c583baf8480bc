-- T10: what the lent buffers held before changes nothing in the result or the text.
use Prim.Native.Nat.{ℕ}
use mathlib.Core.Path.{◌≡◌, refl, sym, ◌∙◌, ap}
use mathlib.Core.List.{List, [], ◌∷◌, ◌++◌}
use lib.ListN.{length, take}
use Rattle.engine_spec.specs.EngineRun.{Result, answered, turned_back, engine_run, answer_after}
use Rattle.engine_spec.specs.Promises.{handed_back, BuffersDoNotMatter}

-- The first bytes of a text that is put in front of others are the text.
pub take_front : (x y : List ℕ) → take (length x) (x ++ y) ≡ x
take_front [] y = refl
take_front (a ∷ x) y = ap (a ∷◌) (take_front x y)

-- The bytes handed back do not depend on what the buffer held.
text_of : (r : Result) (b c : List ℕ) → take (handed_back r).length (answer_after r b) ≡ take (handed_back r).length (answer_after r c)
unfolding handed_back answer_after
text_of (answered a) b c = take_front a.text _ ∙ sym (take_front a.text _)
text_of (turned_back r) b c = refl

pub buffers_do_not_matter : BuffersDoNotMatter
buffers_do_not_matter bytes ask table work answer table' work' answer' r table₂ work₂ answer₂ table₂' work₂' answer₂' r₂ c d lt lw la =
    let R = engine_run bytes ask (length table) (length work) (length answer) in
    let e : engine_run bytes ask (length table₂) (length work₂) (length answer₂) ≡ R = rw (← lt, ← lw, ← la) in
    let v : r₂ ≡ handed_back R = d.value ∙ ap handed_back e in
    let a : answer₂' ≡ answer_after R answer₂ = d.answer_end ∙ ap (λ (q : Result). answer_after q answer₂) e in
    (c.value ∙ sym v, rw (c.value, v, c.answer_end, a) (text_of R answer answer₂))
