-- A scan between two steps, and the result that it stands for.
use Rattle.std.specs.Prelude.{ℕ, ◌+◌, ◌-◌, ◌*◌, ◌<◌, ◌≡◌, cond, List, [], ◌∷◌, eqb, length, get_or}
use Prim.Native.Char.{code}
use Rattle.scanning.specs.Scanning.{Scan}
use Rattle.std.specs.Prelude.{Some, None}
use Rattle.scanning.specs.Scanning.{higher, scan_term}
use Rattle.term_scanner.specs.declared.Stage.{Stage}
use Rattle.term_scanner.specs.declared.Stage.TheVariants.{Begin, After, Ended, Malformed, Full}
use Rattle.term_scanner.specs.declared.TermScan.{TermScan}
use Rattle.term_scanner.specs.Delimiters.{bracket_bit, delimiters, Fits, capacity}

-- How many stages may still come: at each step that stays at its place it falls.
abbrev pub stages_left : Stage → ℕ
stages_left Begin = 4
stages_left After = 3
stages_left Ended = 2
stages_left Malformed = 1
stages_left Full = 0

-- After a term inside d brackets: the delimiters to come and the terms between them. The highest level so far is k.
unfoldable pub resume : List ℕ → ℕ → List ℕ → List ℕ → ℕ → List ℕ → ℕ → ℕ → ℕ → Scan
resume [] rank b t symbols x d i k = Some (i, k)
resume (m ∷ ms) rank b t symbols x d i k =
    cond (eqb m bracket_bit) (cond (eqb (get_or x i 0) (code ")")) (resume ms rank b t symbols x (d - 1) (i + 1) k) None)
    (cond (eqb (get_or x i 0) (code ","))
    (elim (scan_term (rank - d) b t symbols x (i + 1)) [ Some (e, j) ↦ resume ms rank b t symbols x d e (higher k j) | None ↦ None ])
    None)

-- From the beginning of a term inside d brackets.
unfoldable pub begin : List ℕ → ℕ → List ℕ → List ℕ → ℕ → List ℕ → ℕ → ℕ → ℕ → Scan
begin ms rank b t symbols x d i k =
    elim (scan_term (rank - d) b t symbols x i) [ Some (e, j) ↦ resume ms rank b t symbols x d e (higher k j) | None ↦ None ]

-- A number that falls at each step: by the position, by the stage, or where the next word of delimiters comes on top.
unfoldable pub steps_left : List ℕ → TermScan → ℕ
steps_left x s = 4 * (length x - s.at) + (2 * stages_left s.stage + (1 - s.stack.count))

-- What a scan that has stopped has found.
unfoldable pub found : TermScan → Scan
found s = elim s.stage [ Begin ↦ None | After ↦ None | Ended ↦ Some (s.at, s.level) | Malformed ↦ None | Full ↦ None ]

module _ (rank : ℕ) (b t : List ℕ) (symbols : ℕ) (x : List ℕ) where
  -- The result that a scan comes to, with the whole words of its stack in w.
  unfoldable pub outcome : List ℕ → TermScan → Scan
  outcome w s =
      elim s.stage [
        | Begin ↦ begin (delimiters w s.stack) rank b t symbols x s.depth s.at s.level
        | After ↦ resume (delimiters w s.stack) rank b t symbols x s.depth s.at s.level
        | Ended ↦ Some (s.at, s.level)
        | Malformed ↦ None
        | Full ↦ begin (delimiters w s.stack) rank b t symbols x s.depth s.at s.level
      ]

  -- A step, from s with the words w to r with the words v, comes to the same result. It stops for want of room only where a text that
  -- is shorter than the room for delimiters has no term.
  pub record Advances (w : List ℕ) (s : TermScan) (v : List ℕ) (r : TermScan) : Type 0 where
    pub fits : Fits v r.stack
    pub same : outcome w s ≡ outcome v r
    pub full : r.stage ≡ Full → length x < capacity w → outcome w s ≡ None
    pub falls : steps_left x r < steps_left x s

  -- The same of some steps.
  pub record Reaches (w : List ℕ) (s : TermScan) (v : List ℕ) (r : TermScan) : Type 0 where
    pub fits : Fits v r.stack
    pub kept : length v ≡ length w
    pub same : outcome w s ≡ outcome v r
    pub full : r.stage ≡ Full → length x < capacity w → outcome w s ≡ None
