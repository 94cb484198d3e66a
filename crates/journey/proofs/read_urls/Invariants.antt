-- No more URLs are read than there are places.
use Rattle.prelude.proofs.Kit.{◌≤◌, length}
use Rattle.journey.proofs.read_urls.Given as goal

abbrev pub invariant-loop-nth : goal.invariant-loop-nth
invariant-loop-nth l = l.count ≤ length l.places
