-- `walk::feed_records` is safe and ends: each record is within what is left, and counted once.
use Rattle.prelude.proofs.Kit.{◌≤◌, ◌+◌, ◌≡◌, length}
use Rattle.transcript.specs.Input.{input_limit}
use Rattle.walk.proofs.feed_records.Given as goal

abbrev pub invariant-loop-bytes : goal.invariant-loop-bytes
invariant-loop-bytes l = (l.counts.accepted + l.counts.refused + length l.records.rest.now ≤ input_limit) × (length l.state ≡ length l.initial.state)

abbrev pub decreases-loop-bytes : goal.decreases-loop-bytes
decreases-loop-bytes l = length l.records.rest.now
