use Rattle.table_builder.proofs.symbols.Laws.{declaration_found, declaration_taken}
use Rattle.table_builder.specs.Symbols.{insert_declaration}
use borrow.Author.Tests.{le-leb}
use mathlib.Core.Path.{refl}
use Rattle.table_builder.proofs.symbols.insert_declaration.Goals as goal

pub returns-then-k-ge-MAX_SYMBOLS : goal.returns-then-k-ge-MAX_SYMBOLS
unfolding insert_declaration
returns-then-k-ge-MAX_SYMBOLS c =
    simp (insert_declaration, le-leb _ _ c.if-k-ge-MAX_SYMBOLS.true)

pub returns-then-find_name : goal.returns-then-find_name
returns-then-find_name c =
    declaration_found _ _ _ _ c.args.start _ _ _ c.requires.0.1 c.if-k-ge-MAX_SYMBOLS.false c.word_at-word.ensures _
    c.find_name.ensures c.if-find_name.true

pub returns : goal.returns
returns c =
    declaration_taken c.args.sheet.now _ _ _ c.args.start c.args.name.now c.args.arity _
    c.requires.0.1 c.if-k-ge-MAX_SYMBOLS.false c.word_at-word.ensures _ c.find_name.ensures _ _ _ c.if-find_name.false
    c.symbol_word.ensures refl c.put_symbol.ensures
