-- Request W-201: a text with the names as declared is one with the names in either case.
use mathlib.Core.Path.{ap}
use mathlib.Core.List.{List}
use Prim.Native.Nat.{ℕ}
use Rattle.sheet_format.specs.Sheets.{Sheet}
use Rattle.answer_texts.specs.Capitals.{small_text}
use Rattle.answer_texts.specs.Spelled.{SpellsAsDeclared, SpellsDerivation}

-- A text that spells a derivation with the names as declared spells it.
pub declared_spells : (s : Sheet) (text : List ℕ) → SpellsAsDeclared s text → SpellsDerivation s text
declared_spells s text h =
    record {
      units = h.units;
      least = h.least;
      most = h.most;
      environment = h.environment;
      proof = h.proof;
      writable = h.writable;
      spelled = ap small_text h.spelled;
    }
