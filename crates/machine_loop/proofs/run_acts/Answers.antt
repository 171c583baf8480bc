use Rattle.std.proofs.Common.{arith}
use Rattle.std.proofs.lemmas.Grind.{common_steps}
use Rattle.machine_loop.proofs.Laws.{run_act, run_on}
use Rattle.machine_loop.proofs.run_acts.Goals as goal

pub members-preserved-then-r-eq-FAILED : goal.members-preserved-then-r-eq-FAILED
members-preserved-then-r-eq-FAILED c = grind (arith, common_steps, run_act, c.match_act-r.ensures c.args.c)

pub loop-r-preserved : goal.loop-r-preserved
loop-r-preserved c = grind (arith, common_steps, run_on, c.match_act-r.ensures c.args.c)
