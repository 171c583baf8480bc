-- One law for each way through a turn of a loop or through a call; the hypotheses are the facts on the code's path.
use Rattle.std.specs.Prelude.{Option, Some, None}
use Prim.Native.Nat.{ℕ, ◌≤◌, ◌<◌}
use native.Mathlib.Omega.{arith}
use mathlib.Core.Path.{◌≡◌, ap, ◌∙◌}
use mathlib.Core.List.{List, ◌++◌}
use borrow.Author.Tests.{lt-ltb, le-ltb}
use lib.ListN.{length, take, drop, length-replicate}
use Rattle.sheet_format.specs.Bytes.{ascii}
use Rattle.sheet_format.specs.Limits.{max_text_bytes}
use Rattle.node_table.specs.Layout.{mask_of}
use Rattle.machine.specs.declared.Registers.{Registers}
use Rattle.machine.specs.Records.{made}
use Rattle.printing.specs.declared.Cursor.{Cursor}
use Rattle.printing.specs.Numbering.{Printer, printer}
use Rattle.printing.specs.WriteLines.{result_to, bindings_to, lines_to}
use Rattle.printing.specs.PathLinks.{Linked, linked, link_path}
use Rattle.printing.proofs.Passes.{limit_room}
use Rattle.printing.specs.Writer.{text_limit, cursor_from, proof_pass, prepare, first_link, own_bytes, Answered, answered, append_proof}
use Rattle.printing.specs.Writer.{Fitted, fitted, copied, write_proof}

module _ (sheet t : List ℕ) (turns limit : ℕ) where
  -- The passes.
  module _ (goal units e : ℕ) where
    pub pass_written : (b : ℕ) (g g₁ g₂ s : Printer) → b ≡ mask_of t goal → g₁ ≡ result_to limit g (ascii "R\tproved\t") units
        → g₂ ≡ bindings_to sheet t turns limit 8 b 0 g₁ → s ≡ lines_to sheet t turns limit turns g₂ e
        → s ≡ proof_pass sheet t turns limit goal units e g
    unfolding proof_pass
    pass_written b g g₁ g₂ s eb e₁ e₂ es = rw (es, e₂, e₁, eb)

pub links_prepared : (w w₁ : List ℕ) (r : Registers) (e : ℕ) → linked w₁ e ≡ link_path r.acts w r.path r.line 0
    → linked w₁ e ≡ linked (prepare (made w r)) (first_link (made w r))
unfolding prepare first_link
links_prepared w w₁ r e e₁ = simp (prepare, first_link, ← e₁)

-- A text is appended by a pass over the linked path.
pub text_appended : (sheet t : List ℕ) (goal : ℕ) (w : List ℕ) (r : Registers) (units limit : ℕ) (own : List ℕ) (at e : ℕ)
    (w₁ w₂ o : List ℕ) (g : Cursor) → linked w₁ e ≡ linked (prepare (made w r)) (first_link (made w r))
    → printer w₂ o g ≡ proof_pass sheet t r.acts limit goal units e (printer w₁ own (cursor_from at))
    → answered w₂ o g.at ≡ append_proof sheet t goal (made w r) units limit own at
unfolding append_proof
text_appended sheet t goal w r units limit own at e w₁ w₂ o g e₁ e₂ =
    let a : e ≡ first_link (made w r) = ap (λ (l : Linked). l.first) e₁ in
    let b : w₁ ≡ prepare (made w r) = ap (λ (l : Linked). l.memory) e₁ in
    let p : printer w₂ o g ≡ proof_pass sheet t r.acts limit goal units (first_link (made w r))
    (printer (prepare (made w r)) own (cursor_from at)) = rw (a, b) at e₂ in
    ap (λ (x : Printer). answered x.memory x.buffer x.cursor.at) p

-- Bytes that do not fit are not copied.
pub copied_unfit : (own out : List ℕ) (limit at : ℕ) → limit < at → fitted out None ≡ copied limit own at out
unfolding copied
copied_unfit own out limit at h = simp (copied, lt-ltb limit at h)

-- Bytes that fit are copied.
pub copied_front : (own out out' : List ℕ) (limit at n : ℕ) → at ≤ limit → n ≡ at → out' ≡ take n own ++ drop n out
    → fitted out' (Some at) ≡ copied limit own at out
unfolding copied
copied_front own out out' limit at n h en eo = rw (eo, en) (simp (copied, le-ltb limit at h))

-- A text that fits is within the writer's own bytes, of which there are k, and the answer buffer.
pub room_both : (out : List ℕ) (limit k : ℕ) → limit ≡ text_limit out → limit ≤ 65535 → k ≡ length own_bytes
    → (limit ≤ k) × (limit ≤ length out)
unfolding own_bytes
room_both out limit k el low ek =
    let l = length-replicate {A = ℕ} max_text_bytes 0 in
    let r = limit_room out in
    (omega (arith, low, ek, l), omega (arith, r, el))

-- The text is appended to nothing, and copied.
pub proof_written : (sheet t : List ℕ) (goal : ℕ) (w : List ℕ) (r : Registers) (units : ℕ) (out : List ℕ) (limit : ℕ) (w₁ own : List ℕ)
    (at : ℕ) (out' : List ℕ) (n : Option ℕ) → limit ≡ text_limit out
    → answered w₁ own at ≡ append_proof sheet t goal (made w r) units limit own_bytes 0
    → fitted out' n ≡ copied limit own at out → answered w₁ out' n ≡ write_proof sheet t goal (made w r) units out
unfolding write_proof
proof_written sheet t goal w r units out limit w₁ own at out' n el e₁ e₂ =
    let a : answered w₁ own at ≡ append_proof sheet t goal (made w r) units (text_limit out) own_bytes 0 = rw el at e₁ in
    let b : fitted out' n ≡ copied (text_limit out) own at out = rw el at e₂ in
    ap (λ (x : Fitted). answered w₁ x.buffer x.length) b ∙ ap (λ (x : Answered ℕ). answered x.memory
    (copied (text_limit out) x.buffer x.length out).buffer (copied (text_limit out) x.buffer x.length out).length) a
