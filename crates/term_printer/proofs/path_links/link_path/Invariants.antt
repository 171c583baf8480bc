use Rattle.std.proofs.Common.{◌≡◌, ◌-◌}
use Rattle.printing.specs.PathLinks.{link_path}
use Rattle.term_printer.proofs.path_links.link_path.Given as goal

abbrev pub invariant-loop-turn : goal.invariant-loop-turn
invariant-loop-turn l = link_path l.n l.initial.w l.p l.k l.e ≡ link_path (l.n - l._turn) l.w l.pointer l.line l.link
