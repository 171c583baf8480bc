-- The promises of `specs/EnumerationPromises.antt`, kept.
use Rattle.answer_texts.specs.EnumerationPromises.{EachTextSound, EachTextBefore, EachTextFollows, AllTextsExtend, TextTellsPath}
use Rattle.answer_texts.proofs.EnumerationTexts.{each_sound, each_before, each_follows, texts_extend}
use Rattle.answer_texts.proofs.TextPaths.{text_path}

-- T5: within the limits, the text of each proof found spells a derivation of an instance of the goal.
pub each_text_sound : EachTextSound
each_text_sound = each_sound

-- Over a sheet without N lines no number stands in it as a term.
pub each_text_before : EachTextBefore
each_text_before = each_before

-- T4: it spells a derivation sequence of CS-1992-17.
pub each_text_follows : EachTextFollows
each_text_follows = each_follows

-- The texts extend the text of the search.
pub all_texts_extend : AllTextsExtend
all_texts_extend = texts_extend

-- No two texts have the same D lines.
pub text_tells_path : TextTellsPath
text_tells_path = text_path
