-- What a writer makes of a printer, told by the tokens of what it writes: their steps where they fit, and where they do not, a
-- position past the limit. A writer that keeps the closing bracket's byte free stops earlier than the steps do, and is so told too.
use Prim.Native.Nat.{ℕ, suc, ◌+◌, ◌-◌, ◌*◌, ◌≤◌, ◌<◌}
use native.Mathlib.Omega.{arith}
use mathlib.Core.Path.{◌≡◌, refl, sym, ap, ◌∙◌, subst}
use mathlib.Core.Bool.{Bool, true, false, cond}
use mathlib.Core.List.{List, [], ◌∷◌, ◌++◌}
use lib.Dec.{ltb}
use lib.ListN.{length, set}
use borrow.Author.Tests.{ltb-true, ltb-false, le-ltb}
use Rattle.terms.specs.Lists.{All}
use Rattle.sequents.specs.Symbols.{Symbol, made, leftover}
use Rattle.sheet_format.specs.Limits.{numbers_per_unit}
use Rattle.printing.specs.Output.{Written, emit, write_bytes, write_symbol}
use Rattle.printing.specs.Numbering.{with_position, Printer, wrote, write_variable, write_constant}
use Rattle.printing.specs.WriteTerms.{emit_to}
use Rattle.printing.proofs.Bytes.{emit_over, emit_within, bytes_over, bytes_grow, emit_long, symbol_bytes}
use Rattle.printing.proofs.Tokens.{Token, byte, sign, show_symbol, step, steps, steps_append, signs}
use Rattle.printing.proofs.LeftAlone.{Alike, alike_trans, alike_fewer}
use Rattle.printing.proofs.Steps.{Right, step_grow, steps_grow, steps_long, steps_alike}

-- Lower limits.

module _ (turns low limit : ℕ) (under : low ≤ limit) (small : limit ≤ 65535) where
  -- Bytes that end within the lower limit are written under it too; others end past it.
  abbrev LoweredBytes : Written → Written → Type 0
  LoweredBytes x y = (y.at ≤ low → x ≡ y) × (low < y.at → low < x.at)

  bytes_lower : (bs out : List ℕ) (at : ℕ) → LoweredBytes (write_bytes bs out low at) (write_bytes bs out limit at)
  unfolding write_bytes
  bytes_lower [] out at = (λ h. refl, λ h. h)
  bytes_lower (b ∷ bs) out at = go (ltb low at) refl (bytes_lower bs (set out at b) (suc at))
    where
      go : (c : Bool) → ltb low at ≡ c
          → LoweredBytes (write_bytes bs (set out at b) low (suc at)) (write_bytes bs (set out at b) limit (suc at))
          → LoweredBytes (write_bytes (b ∷ bs) out low at) (write_bytes (b ∷ bs) out limit at)
      go true e ih =
          let q = ltb-true low at e in
          let k = bytes_grow (b ∷ bs) out limit at small in
          (λ h. absurd (omega arith), λ h. subst (λ (x : Written). low < x.at) (sym (bytes_over (b ∷ bs) out low at q)) q)
      go false e ih =
          let q = ltb-false low at e in
          rw (write_bytes, write_bytes, emit_within out low at b (omega arith) q, emit_within out limit at b small (omega arith)) ih

  -- The same of printers.
  abbrev Lowered : Printer → Printer → Type 0
  Lowered x y = (y.cursor.at ≤ low → x ≡ y) × (low < y.cursor.at → low < x.cursor.at)

  symbol_lower : (g : Printer) (at c n k : ℕ)
      → Lowered (wrote g (write_symbol g.buffer low at c n k)) (wrote g (write_symbol g.buffer limit at c n k))
  unfolding wrote with_position
  symbol_lower g at c n k =
      rw (symbol_bytes g.buffer low at c n k, symbol_bytes g.buffer limit at c n k)
      (let r = bytes_lower _ g.buffer at in (λ h. ap (wrote g) (r.0 h), r.1))

  show_lower : (g : Printer) (s : Symbol) → Lowered (show_symbol turns low g s) (show_symbol turns limit g s)
  unfolding show_symbol write_variable write_constant
  show_lower g (leftover x k) = symbol_lower _ _ _ _ _
  show_lower g (made c k) = symbol_lower _ _ _ _ _

  step_lower : (g : Printer) (k : Token) → Lowered (step turns low g k) (step turns limit g k)
  unfolding step emit_to wrote with_position write_bytes
  step_lower g (byte b) = let r = bytes_lower (b ∷ []) g.buffer g.cursor.at in (λ h. ap (wrote g) (r.0 h), r.1)
  step_lower g (sign s) = go (ltb low g.cursor.at) refl
    where
      shown : Bool → Bool → Type 0
      shown c d = Lowered (cond c g (show_symbol turns low g s)) (cond d g (show_symbol turns limit g s))

      go : (c : Bool) → ltb low g.cursor.at ≡ c → shown (ltb low g.cursor.at) (ltb limit g.cursor.at)
      go true e =
          let q = ltb-true low g.cursor.at e in
          let k = step_grow turns limit g (sign s) small in
          rw e (λ h. absurd (omega arith), λ h. q)
      go false e =
          let q = ltb-false low g.cursor.at e in
          rw (e, le-ltb limit g.cursor.at (omega arith)) (show_lower g s)

  -- Tokens that end within the lower limit make the same steps under it; others end past it.
  steps_lower : (ks : List Token) (g : Printer) → Lowered (steps turns low ks g) (steps turns limit ks g)
  unfolding steps
  steps_lower [] g = (λ h. refl, λ h. h)
  steps_lower (k ∷ ks) g = go (ltb low (step turns limit g k).cursor.at) refl (steps_lower ks (step turns limit g k))
    where
      go : (c : Bool) → ltb low (step turns limit g k).cursor.at ≡ c
          → Lowered (steps turns low ks (step turns limit g k)) (steps turns limit ks (step turns limit g k))
          → Lowered (steps turns low ks (step turns low g k)) (steps turns limit ks (step turns limit g k))
      go true e ih =
          let q = ltb-true low (step turns limit g k).cursor.at e in
          let i = steps_grow turns limit ks (step turns limit g k) small in
          let p = (step_lower g k).1 q in
          let j = steps_grow turns low ks (step turns low g k) (omega arith) in
          (λ h. absurd (omega arith), λ h. omega arith)
      go false e ih = rw ((step_lower g k).0 (ltb-false low (step turns limit g k).cursor.at e)) ih

-- A printer g' that some tokens make of g.

module _ (w : List ℕ) (acts : ℕ) where
  pub record Reaches (limit : ℕ) (ks : List Token) (g g' : Printer) : Type 0 where
    pub fits : (steps acts limit ks g).cursor.at ≤ limit → g' ≡ steps acts limit ks g
    pub over : limit < (steps acts limit ks g).cursor.at → limit < g'.cursor.at
    pub alike : Alike 62 w g.memory → Alike 63 g.memory g'.memory
    pub long : length g'.buffer ≡ length g.buffer

  -- The memory of the printer stays alike to w.
  pub reaches_kept : (limit : ℕ) (ks : List Token) (g g' : Printer) → Reaches limit ks g g' → Alike 62 w g.memory
      → Alike 62 w g'.memory
  reaches_kept limit ks g g' r a =
      alike_trans 62 w g.memory g'.memory a (alike_fewer 63 62 g.memory g'.memory (omega arith) (r.alike a))

  -- Within the limit it is the steps of the tokens.
  pub reaches_within : (limit : ℕ) (ks : List Token) (g g' : Printer) → Reaches limit ks g g' → g'.cursor.at ≤ limit
      → g' ≡ steps acts limit ks g
  reaches_within limit ks g g' r h = go (ltb limit (steps acts limit ks g).cursor.at) refl
    where
      go : (c : Bool) → ltb limit (steps acts limit ks g).cursor.at ≡ c → g' ≡ steps acts limit ks g
      go true e = let q = r.over (ltb-true limit (steps acts limit ks g).cursor.at e) in absurd (omega arith)
      go false e = r.fits (ltb-false limit (steps acts limit ks g).cursor.at e)

  -- A rank that suffices still does.
  pub reaches_rank : (limit : ℕ) (ks : List Token) (g g' : Printer) (rank : ℕ) → limit ≤ 65535 → Reaches limit ks g g'
      → limit < g.cursor.at + rank → limit < g'.cursor.at + rank
  reaches_rank limit ks g g' rank l r h = go (ltb limit g'.cursor.at) refl
    where
      go : (c : Bool) → ltb limit g'.cursor.at ≡ c → limit < g'.cursor.at + rank
      go true e = let q = ltb-true limit g'.cursor.at e in omega arith
      go false e =
          let q = ap (λ (p : Printer). p.cursor.at) (reaches_within limit ks g g' r (ltb-false limit g'.cursor.at e)) in
          let k = steps_grow acts limit ks g l in
          omega arith

  -- One piece and then another.
  pub reaches_then : (limit : ℕ) (x y : List Token) (f g h : Printer) → limit ≤ 65535 → Reaches limit x f g → Reaches limit y g h
      → Reaches limit (x ++ y) f h
  reaches_then limit x y f g h l p q = record {
    fits = λ i. fits (subst (λ (r : Printer). r.cursor.at ≤ limit) e i) ∙ sym e;
    over = λ i. over (subst (λ (r : Printer). limit < r.cursor.at) e i);
    alike = alike;
    long = q.long ∙ p.long;
  }
    where
      e : steps acts limit (x ++ y) f ≡ steps acts limit y (steps acts limit x f)
      e = steps_append acts limit x y f

      fits : (steps acts limit y (steps acts limit x f)).cursor.at ≤ limit → h ≡ steps acts limit y (steps acts limit x f)
      fits i =
          let k = steps_grow acts limit y (steps acts limit x f) l in
          let e = p.fits (omega arith) in
          q.fits (subst (λ (r : Printer). (steps acts limit y r).cursor.at ≤ limit) (sym e) i) ∙ ap (steps acts limit y) e

      over : limit < (steps acts limit y (steps acts limit x f)).cursor.at → limit < h.cursor.at
      over i = go (ltb limit g.cursor.at) refl
        where
          go : (c : Bool) → ltb limit g.cursor.at ≡ c → limit < h.cursor.at
          go true e =
              let k = steps_grow acts limit y g l in
              let a = ltb-true limit g.cursor.at e in
              q.over (omega arith)
          go false e =
              q.over (subst (λ (r : Printer). limit < (steps acts limit y r).cursor.at)
              (sym (reaches_within limit x f g p (ltb-false limit g.cursor.at e))) i)

      alike : Alike 62 w f.memory → Alike 63 f.memory h.memory
      alike a = alike_trans 63 f.memory g.memory h.memory (p.alike a) (q.alike (reaches_kept limit x f g p a))

  -- One byte is emitted past the limit that it met.
  emit_past : (limit : ℕ) (g : Printer) (b : ℕ) → limit ≤ 65535 → limit ≤ g.cursor.at → limit < (emit_to limit g b).cursor.at
  unfolding emit_to wrote with_position
  emit_past limit g b l h = go (ltb limit g.cursor.at) refl
    where
      go : (c : Bool) → ltb limit g.cursor.at ≡ c → limit < (emit g.buffer limit g.cursor.at b).at
      go true e = let q = ltb-true limit g.cursor.at e in rw (emit_over g.buffer limit g.cursor.at b q) q
      go false e = let q = ltb-false limit g.cursor.at e in rw (emit_within g.buffer limit g.cursor.at b l q) (omega arith)

  -- Within the limit the position moves on by one.
  emit_within_at : (limit : ℕ) (g : Printer) (b : ℕ) → limit ≤ 65535 → g.cursor.at ≤ limit
      → (emit_to limit g b).cursor.at ≡ suc g.cursor.at
  unfolding emit_to wrote with_position
  emit_within_at limit g b l h = ap (λ (s : Written). s.at) (emit_within g.buffer limit g.cursor.at b l h)

  -- What is reached under a limit lower by one, and then one byte.
  pub reaches_closed : (limit : ℕ) (ks : List Token) (b : ℕ) (g g' : Printer) → limit ≤ 65535 → Reaches (limit - 1) ks g g'
      → Reaches limit (ks ++ (byte b ∷ [])) g (emit_to limit g' b)
  unfolding steps step emit_to wrote
  reaches_closed limit ks b g g' l r = record {
    fits = λ i. fits (subst (λ (p : Printer). p.cursor.at ≤ limit) e i) ∙ sym e;
    over = λ i. over (subst (λ (p : Printer). limit < p.cursor.at) e i);
    alike = alike;
    long = emit_long g'.buffer limit g'.cursor.at b ∙ r.long;
  }
    where
      e : steps acts limit (ks ++ (byte b ∷ [])) g ≡ emit_to limit (steps acts limit ks g) b
      e = steps_append acts limit ks (byte b ∷ []) g

      s : Printer
      s = steps acts limit ks g

      lower : Lowered acts (limit - 1) limit (omega arith) l (steps acts (limit - 1) ks g) s
      lower = steps_lower acts (limit - 1) limit (omega arith) l ks g

      within : (emit_to limit s b).cursor.at ≤ limit → s.cursor.at < limit
      within h = go (ltb s.cursor.at limit) refl
        where
          go : (c : Bool) → ltb s.cursor.at limit ≡ c → s.cursor.at < limit
          go true e = ltb-true s.cursor.at limit e
          go false e = let q = emit_past limit s b l (ltb-false s.cursor.at limit e) in absurd (omega arith)

      fits : (emit_to limit s b).cursor.at ≤ limit → emit_to limit g' b ≡ emit_to limit s b
      fits h =
          let k = within h in
          let e = lower.0 (omega arith) in
          ap (λ (p : Printer). emit_to limit p b) (r.fits (subst (λ (p : Printer). p.cursor.at ≤ limit - 1) (sym e) (omega arith)) ∙ e)

      over : limit < (emit_to limit s b).cursor.at → limit < (emit_to limit g' b).cursor.at
      over h = emit_past limit g' b l (go (ltb (limit - 1) s.cursor.at) refl)
        where
          go : (c : Bool) → ltb (limit - 1) s.cursor.at ≡ c → limit ≤ g'.cursor.at
          go true e = let q = r.over (lower.1 (ltb-true (limit - 1) s.cursor.at e)) in omega arith
          go false e = let q = ltb-false (limit - 1) s.cursor.at e in let k = emit_within_at limit s b l (omega arith) in omega arith

      alike : Alike 62 w g.memory → Alike 63 g.memory (emit_to limit g' b).memory
      alike a = r.alike a

  module _ (next : ℕ) (room : numbers_per_unit * acts ≤ length w) (few : next ≤ 9 * acts) where
    -- The steps themselves.
    pub reaches_steps : (limit : ℕ) (ks : List Token) (g g' : Printer) → All (Right w next acts) (signs ks) → g' ≡ steps acts limit ks g
        → Reaches limit ks g g'
    reaches_steps limit ks g g' right e = rw e (record {
      fits = λ h. refl;
      over = λ h. h;
      alike = λ a. steps_alike w next acts room few limit ks g right a;
      long = steps_long acts limit ks g;
    })
