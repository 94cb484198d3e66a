use Rattle.prelude.proofs.Kit.{◌≤◌, ◌+◌, ◌≡◌, length}
use Rattle.record_edges.proofs.counts_of.Given as goal

abbrev pub invariant-loop-keys : goal.invariant-loop-keys
invariant-loop-keys l = record {
  all : l.counts.accepted + l.counts.kind + l.counts.keys + l.counts.length ≤ l.keys;
  wide : length l.bytes ≡ 46;
}
