use native.Mathlib.Omega.{arith}
use Rattle.table_builder.proofs.applications.Laws.{application_taken}
use Rattle.table_builder.proofs.symbols.Laws.{first_length}
use Rattle.table_builder.specs.Symbols.{insert_application}
use borrow.Author.Tests.{le-leb, lt-leb}
use Rattle.table_builder.proofs.applications.insert_application.Goals as goal

pub returns-then-k-ge-MAX_NODES : goal.returns-then-k-ge-MAX_NODES
unfolding insert_application
returns-then-k-ge-MAX_NODES c =
    simp (insert_application, le-leb _ _ c.if-k-ge-MAX_NODES.true)

pub returns-then-k-f : goal.returns-then-k-f
unfolding insert_application
returns-then-k-f c =
    simp (insert_application, le-leb _ _ c.if-k-f.true, lt-leb _ _ c.if-k-ge-MAX_NODES.false)

pub slice_bounds-all_there-end : goal.slice_bounds-all_there-end
slice_bounds-all_there-end c =
    first_length c.widen-n.result c.args.ns.count c.args.ns.a c.args.ns.b c.args.ns.c
    c.args.ns.d c.requires c.widen-n.ensures.0

pub slice_bounds-application_info-end : goal.slice_bounds-application_info-end
slice_bounds-application_info-end c =
    first_length c.widen-n.result c.args.ns.count c.args.ns.a c.args.ns.b c.args.ns.c
    c.args.ns.d c.requires c.widen-n.ensures.0

pub application_info-info-requires : goal.application_info-info-requires
application_info-info-requires c =
    let e = first_length c.widen-n.result c.args.ns.count c.args.ns.a c.args.ns.b c.args.ns.c
    c.args.ns.d c.requires c.widen-n.ensures.0 in
    omega arith

pub returns-then-all_there : goal.returns-then-all_there
returns-then-all_there c =
    application_taken _ _ _ _ _ _ _ _ _ _ _ _ _ _ c.if-k-ge-MAX_NODES.false c.if-k-f.false c.widen-n.ensures.0
    c.all_there.ensures
    c.if-all_there.true
    c.application_info-info.ensures
    c.applied_kind.ensures.0 c.add_node.ensures

pub returns : goal.returns
unfolding insert_application
returns c =
    simp (
      insert_application,
      c.if-all_there.false,
      ← c.all_there.ensures,
      ← c.widen-n.ensures.0,
      lt-leb _ _ c.if-k-f.false,
      lt-leb _ _ c.if-k-ge-MAX_NODES.false,
    )
