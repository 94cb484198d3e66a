-- Each attribute in turn raises its flag.
use Rattle.std.specs.Option.{option_copied}
use Rattle.cookie.proofs.Flagging.{Flagging, left_long}
use Rattle.cookie.proofs.attributes.flags_of.Given as goal

abbrev pub invariant-loop-left : goal.invariant-loop-left
invariant-loop-left l = Flagging l.line l.flags (option_copied l.left)

abbrev pub decreases-loop-left : goal.decreases-loop-left
decreases-loop-left l = left_long (option_copied l.left)
