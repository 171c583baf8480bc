-- Positions in a text: what stands at position i is the front of `drop i x`.
use Prim.Native.Nat.{ℕ, suc, ◌+◌, ◌-◌}
use native.Mathlib.Omega.{arith}
use mathlib.Core.Path.{◌≡◌, sym, ap, ◌∙◌}
use mathlib.Core.List.{List, [], ◌∷◌, ◌++◌}
use lib.ListN.{length, get_or, drop, length-drop}
use lib.Seq.{get_or-drop, drop-drop, drop-append_seam}

-- The byte at position i is the first of what stands there.
pub byte_at : (x : List ℕ) (i : ℕ) → get_or x i 0 ≡ get_or (drop i x) 0 0
byte_at x i = sym (get_or-drop i x 0 0 ∙ ap (λ (n : ℕ). get_or x n 0) (omega arith))

-- The byte at position i is c if what stands there begins with c.
pub byte_is : (x : List ℕ) (i c : ℕ) (cs : List ℕ) → drop i x ≡ c ∷ cs → get_or x i 0 ≡ c
byte_is x i c cs h = byte_at x i ∙ ap (λ (l : List ℕ). get_or l 0 0) h

-- Past the end the byte read is 0.
pub byte_none : (x : List ℕ) (i : ℕ) → drop i x ≡ [] → get_or x i 0 ≡ 0
byte_none x i h = byte_at x i ∙ ap (λ (l : List ℕ). get_or l 0 0) h

-- What stands n positions further on is what stands here without its first n bytes.
pub drop_on : (x : List ℕ) (i n : ℕ) → drop (i + n) x ≡ drop n (drop i x)
drop_on x i n = sym (drop-drop n i x)

-- At the next position stands what follows the first byte.
pub drop_next : (x : List ℕ) (i c : ℕ) (cs : List ℕ) → drop i x ≡ c ∷ cs → drop (i + 1) x ≡ cs
drop_next x i c cs h = drop_on x i 1 ∙ ap (drop 1) h

-- After bytes that stand at position i stands the rest.
pub drop_past : (x : List ℕ) (i : ℕ) (a r : List ℕ) → drop i x ≡ a ++ r → drop (i + length a) x ≡ r
drop_past x i a r h = drop_on x i (length a) ∙ ap (drop (length a)) h ∙ drop-append_seam a r

-- The bytes from position i on are as many as the text has left there.
pub drop_length : (x : List ℕ) (i : ℕ) (l : List ℕ) → drop i x ≡ l → length x - i ≡ length l
drop_length x i l h = sym (length-drop i x) ∙ ap length h

-- The bytes from position i on end where the text ends.
pub within : (x : List ℕ) (i c : ℕ) (cs : List ℕ) → drop i x ≡ c ∷ cs → i + suc (length cs) ≡ length x
within x i c cs h = let e = drop_length x i (c ∷ cs) h in omega arith

-- Two positions with the same bytes from there on, at least one, are the same position.
pub position_unique : (x : List ℕ) (i j c : ℕ) (cs : List ℕ) → drop i x ≡ c ∷ cs → drop j x ≡ c ∷ cs → i ≡ j
position_unique x i j c cs h k = let a = within x i c cs h in let b = within x j c cs k in omega arith
