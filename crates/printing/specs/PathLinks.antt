-- Before the passes: the path, which is linked latest line first, gets links in the order taken. After them: the numbers of
-- variables are cleared, so that the search may go on. All in fields that the search leaves free and in bindings that it left at 0.
use Rattle.std.specs.Prelude.{ℕ, zero, suc, ◌+◌, ◌-◌, ◌*◌, true, false, cond, List, eqb}
use Rattle.machine.specs.Fields as fields
use Rattle.machine.specs.Records.{cell_of, put_cell}
use Rattle.machine.specs.Words.{truncate, tag_of}
use Rattle.memory.specs.Records.{field, put_field}

-- Field of a record that the search leaves free: the link to the line after that of the record.
abbrev pub next_line_field : ℕ
next_line_field = 62

-- How many lines of the path there are to tell apart.
abbrev pub line_codes : ℕ
line_codes = 8

-- A link: a pointer to the record of a line, and which of the eight lines it is; 0 for none.
unfoldable pub link_word : ℕ → ℕ → ℕ
link_word p k = truncate (line_codes * p + k)

-- The work buffer, and the link to the first line.
pub record Linked : Type 0 where
  pub memory : List ℕ
  pub first : ℕ

-- A work buffer and a link to the first line make a record.
abbrev pub linked : List ℕ → ℕ → Linked
linked w e = record { memory = w; first = e }

-- Each line's record gets the link to the line after it. From pointer p on, at most n lines; e is the link to those done.
unfoldable pub link_path : ℕ → List ℕ → ℕ → ℕ → ℕ → Linked
link_path zero w p k e = linked w e
link_path (suc n) w p k e =
    elim (eqb p 0) [
      | true ↦ linked w e
      | false ↦
          link_path n (put_field w (p - 1) next_line_field e) (field w (p - 1) fields.path_before) (field w (p - 1) fields.path_line)
          (link_word p k)
    ]

-- The first n variables: none has shown.
unfoldable pub clear_variables : ℕ → List ℕ → List ℕ
clear_variables zero w = w
clear_variables (suc n) w = clear_variables n (cond (eqb (tag_of (cell_of w n)) 0) (put_cell w n 0) w)
