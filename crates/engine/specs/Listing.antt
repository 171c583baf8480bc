-- The search that goes on after each proof (request W-202), on lists: the texts of the proofs, one after another, in bytes of their own.
use Rattle.std.specs.Prelude.{ℕ, zero, suc, ◌-◌, true, false, ◌||◌, cond, List, eqb, ltb, Option}
use Rattle.outcomes.specs.declared.Outcome.TheVariants.{Proved, No, Spent}
use Rattle.outcomes.specs.declared.Run.{Run}
use Rattle.sheet_format.specs.Bytes.{ascii}
use Rattle.machine.specs.Records.{Made, made, proved_mode, no_mode}
use Rattle.machine.specs.ChoicePoints.{failed}
use Rattle.machine.specs.Machine.{run_acts}
use Rattle.printing.specs.PathLinks.{clear_variables}
use Rattle.printing.specs.Output.{Written, written}
use Rattle.printing.specs.Writer.{text_limit, own_bytes, append_proof, append_result, copied}
use Rattle.engine.specs.declared.listing.Query.{Query}
use Rattle.engine.specs.declared.listing.Progress.{Progress}
use Rattle.engine.specs.Answering.{reported, Reply, reply}

-- The search goes on after a proof, "as if it had failed", within the units left. The numbers that the proof's text gave to variables are
-- cleared first.
unfoldable pub go_on : List ℕ → Query → Made → Made
go_on t q m =
    let f = failed (clear_variables m.registers.next m.memory) m.registers in
    run_acts (q.budget - m.registers.acts) t q.clauses f.memory f.registers

-- What writing the proofs leaves: the work buffer, the texts, and how far it came.
pub record Listed : Type 0 where
  pub memory : List ℕ
  pub buffer : List ℕ
  pub progress : Progress

abbrev pub listed : List ℕ → List ℕ → Progress → Listed
listed w own p = record { memory = w; buffer = own; progress = p }

-- Writing stops here.
abbrev pub listed_at : Made → List ℕ → ℕ → ℕ → Listed
listed_at m own at left = listed m.memory own (record { registers = m.registers; at = at; left = left })

-- So many proofs are still wanted, `at` bytes are written: where the machine stands at a proof, its text is appended, and the search goes
-- on if a further one is wanted and the texts fit.
unfoldable pub write_proofs : ℕ → List ℕ → List ℕ → Query → ℕ → Made → List ℕ → ℕ → Listed
write_proofs zero sheet t q limit m own at = listed_at m own at zero
write_proofs (suc k) sheet t q limit m own at =
    elim (eqb m.registers.mode proved_mode) [
      | true ↦
          let a = append_proof sheet t q.goal m m.registers.acts limit own at in
          let n = made a.memory m.registers in
          elim (eqb k 0 || ltb limit a.length) [
            | true ↦ listed_at n a.buffer a.length k
            | false ↦ write_proofs k sheet t q limit (go_on t q n) a.buffer a.length
          ]
      | false ↦ listed_at m own at (suc k)
    ]

-- The line after the last proof.
unfoldable pub write_last : ℕ → Progress → List ℕ → ℕ → Written
write_last budget p own limit =
    cond (eqb p.left 0) (written own p.at)
    (cond (eqb p.registers.mode no_mode) (append_result (ascii "R\tno\t") p.registers.acts own limit p.at)
    (append_result (ascii "R\tspent\t") budget own limit p.at))

-- Outcome and units of the last R line, and the number of proofs.
unfoldable pub tell : Query → Progress → Option ℕ → Run
tell q p n =
    cond (eqb p.left 0) (reported Proved p.registers.acts (q.proofs - p.left) n)
    (cond (eqb p.registers.mode no_mode) (reported No p.registers.acts (q.proofs - p.left) n)
    (reported Spent q.budget (q.proofs - p.left) n))

-- All of it, from the first verdict of the machine on.
unfoldable pub report_proofs : List ℕ → List ℕ → Query → Made → List ℕ → Reply
report_proofs sheet t q m out =
    let l = write_proofs q.proofs sheet t q (text_limit out) m own_bytes 0 in
    let e = write_last q.budget l.progress l.buffer (text_limit out) in
    let c = copied (text_limit out) e.buffer e.at out in
    reply c.buffer (tell q l.progress c.length)
