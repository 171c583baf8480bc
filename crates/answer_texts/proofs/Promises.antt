-- The promises of `specs/Promises.antt`, kept.
use mathlib.Core.Path.{refl}
use mathlib.Core.List.{append-nil}
use Rattle.terms.specs.Terms.{count, level_by}
use Rattle.sheet_format.specs.Bytes.{decimal}
use Rattle.sequents.specs.Symbols.{level}
use Rattle.answer_texts.specs.Spelling.{spell_functor, spell_term}
use Rattle.answer_texts.specs.Spelled.{WritableFunctor, WritableTerm}
use Rattle.answer_texts.specs.Promises.{TextSound, TextAsBefore, NumbersWritten, TextFollows}
use Rattle.answer_texts.proofs.TextSound as Sound

-- T5: within the limits, the text of a proved search spells a derivation of an instance of the goal.
pub text_sound : TextSound
text_sound = Sound.text_sound

-- Over a sheet without N lines no number stands in it as a term.
pub text_as_before : TextAsBefore
text_as_before = Sound.text_as_before

-- A number is written in base ten.
pub numbers_written : NumbersWritten
unfolding spell_term spell_functor WritableTerm WritableFunctor count level level_by
numbers_written ds n = record {
  spelled = append-nil (decimal n);
  writable = ((λ h. h.0.1), (λ l. ((refl, l), tt)));
  low = refl;
}

-- T4: the text of a proved search spells a derivation sequence of CS-1992-17.
pub text_follows : TextFollows
text_follows = Sound.text_follows
