-- What the answer checker's reading must keep.
use Rattle.std.specs.Prelude.{ℕ, ◌<◌, ◌≡◌, List, take}
use Rattle.sheet_format.specs.Limits.{max_sheet_bytes, max_text_bytes}
use Rattle.checker_output.specs.CheckerOutput.{checker_output}

-- A reader that stops after more bytes than are allowed prints the same as for the whole files: refusal 1 or 4 arises from both.
abbrev pub FrontsSuffice : Type 0
FrontsSuffice =
    (bytes text : List ℕ) (n m : ℕ) → max_sheet_bytes < n → max_text_bytes < m
    → checker_output (take n bytes) (take m text) ≡ checker_output bytes text
