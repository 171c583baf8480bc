use Rattle.term_printer.proofs.PositionsRise.{emit_after, functor_after, term_after}
use Rattle.term_printer.proofs.Laws.{arguments_end, arguments_first, arguments_on, term_applied, term_bare, term_constant, term_none, term_past, term_variable}
use Rattle.term_printer.proofs.cursor.States.{closed, emit_same, less, lowered, raised, rank_lowered, small_lowered, small_same, term_same}
use borrow.Author.Rules.{rules}
use mathlib.Core.Path.{◌∙◌, refl, sym}
use native.Mathlib.Nat.{le_trans}
use Rattle.term_printer.proofs.+write_term.Goals as goal

pub returns-then-rank-eq0 : goal.returns-then-rank-eq0
returns-then-rank-eq0 t c = (term_none _ _ _ _ _ _ _ _ _ c.if-rank-eq0.true, refl)

pub returns-then-s : goal.returns-then-s
returns-then-s t c = (term_past _ _ _ _ _ _ _ _ _ c.if-rank-eq0.false c.if-s.true, refl)

pub returns-then-tag-eq-VARIABLE : goal.returns-then-tag-eq-VARIABLE
returns-then-tag-eq-VARIABLE t c = (
  term_variable _ _ _ _ _ _ _ _ _ _ _ c.if-rank-eq0.false c.if-s.false
      c.deref-b.ensures c.tag_of-tag.ensures _ _ c.if-tag-eq-VARIABLE.true
      c.name_of.ensures c.write_variable.ensures.0,
  c.write_variable.ensures.1,
)

pub returns-then-tag-eq-CONSTANT : goal.returns-then-tag-eq-CONSTANT
returns-then-tag-eq-CONSTANT t c = (
  term_constant _ _ _ _ _ _ _ _ _ _ _ c.if-rank-eq0.false c.if-s.false
      c.deref-b.ensures c.tag_of-tag.ensures _ _
      c.if-tag-eq-VARIABLE.false c.if-tag-eq-CONSTANT.true c.name_of-then-tag-eq-CONSTANT.ensures
      c.write_constant.ensures.0,
  c.write_constant.ensures.1,
)

pub returns-then-c-eq0 : goal.returns-then-c-eq0
returns-then-c-eq0 t c = (
  term_bare _ _ _ _ _ _ _ _ _ _ _ c.if-rank-eq0.false c.if-s.false
      c.deref-b.ensures c.tag_of-tag.ensures _ _ _ _
      c.if-tag-eq-VARIABLE.false c.if-tag-eq-CONSTANT.false c.node_of-n.ensures
      c.label.ensures (c.write_functor.ensures.0 _) c.child_count-c.ensures
      c.if-c-eq0.true,
  c.write_functor.ensures.1,
)

pub loop-j-init : goal.loop-j-init
loop-j-init t c = (search rules, refl, arguments_first _ _ _ _ _ _ _ _)

pub write_term-requires : goal.write_term-requires
write_term-requires t c =
    let bounds = c.loop-j.invariant.1 ∙ lowered _ _ _ c.write_functor.ensures.1 c.requires.1 _ _
    c.saturating_sub-s.ensures refl in (
      less _ _ (c.emit.ensures.1 ∙ bounds) _ _ _ _ c.decreases c.if-rank-eq0.false
          (le_trans (functor_after _ c.requires.0 _ _ _ _ _ (c.write_functor.ensures.0 c.args.w.now))
          (le_trans c.loop-j.invariant.0 (emit_after _ (small_lowered _ _ bounds c.requires.0) _ _ _
          (c.emit.ensures.0 c.loop-j.w)))),
      (
        small_lowered _ _ (c.emit.ensures.1 ∙ bounds) c.requires.0,
        rank_lowered _ _ (c.emit.ensures.1 ∙ bounds) _ c.requires.1,
      ),
    )

pub loop-j-preserved : goal.loop-j-preserved
loop-j-preserved t c =
    let small = small_lowered _ _ (c.loop-j.invariant.1
    ∙ lowered _ _ _ c.write_functor.ensures.1 c.requires.1 _ _ c.saturating_sub-s.ensures
    refl) c.requires.0 in (
      le_trans c.loop-j.invariant.0
          (le_trans (emit_after _ small _ _ _ (c.emit.ensures.0 c.loop-j.w))
          (term_after _ (small_same _ _ (sym c.emit.ensures.1) small) _ _ _ _ _ _ _
          c.write_term.ensures.0)),
      c.write_term.ensures.1 ∙ c.emit.ensures.1 ∙ c.loop-j.invariant.1,
      c.loop-j.invariant.2 ∙ arguments_on _ _ _ _ _ _ _ _ _ _ _ _ _ _ _ _ c.loop-j-test.true
          c.separator.ensures
          (emit_same _ _ c.loop-j.invariant.1 _ _ _ (c.emit.ensures.0 _))
          c.child.ensures c.word_of-x.ensures
          (term_same _ _ (c.emit.ensures.1 ∙ c.loop-j.invariant.1) _ _ _ _ _ _
          c.write_term.ensures.0),
    )

pub returns : goal.returns
returns t c =
    let bounds = lowered _ _ _ c.write_functor.ensures.1 c.requires.1 _ _ c.saturating_sub-s.ensures
    refl in
    let back = raised _ _ _ _ c.requires.1 (c.loop-j.invariant.1 ∙ bounds) refl in (
      closed _ _ bounds _ _ _ _ _ _ _ _ _ _ _ _ _ _ _ _ _ refl c.loop-j.invariant.2
          (arguments_end _ _ _ _ _ _ _ _ c.loop-j-test.false) refl back
          (c.emit-2.ensures.0 _)
          ∙ sym (term_applied _ _ _ _ _ _ _ _ _ _ _ c.if-rank-eq0.false c.if-s.false
          c.deref-b.ensures c.tag_of-tag.ensures _ _ _ _ _
          c.if-tag-eq-VARIABLE.false c.if-tag-eq-CONSTANT.false c.node_of-n.ensures
          c.label.ensures (c.write_functor.ensures.0 _) c.child_count-c.ensures
          c.if-c-eq0.false c.frame_of-f.ensures),
      c.emit-2.ensures.1 ∙ back,
    )
