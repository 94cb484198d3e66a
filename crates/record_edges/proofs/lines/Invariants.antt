use Rattle.prelude.proofs.Kit.{length}
use Rattle.record_edges.proofs.lines.Given as goal

abbrev pub decreases-loop-end : goal.decreases-loop-end
decreases-loop-end l = length l.rest
