-- `monitor_feed` meets its contract: what `feed` leaves, with a count of bytes that fits 32 bits.
use Rattle.prelude.proofs.Kit.{ap, rules, lit<}
use native.Mathlib.Nat.{lt_of_le_of_lt}
use Rattle.records.proofs.RoundTrips.{longest_is}
use Rattle.machine.specs.Machine.{Fed}
use Rattle.monitor.proofs.Feeding.{bytes_are, words_are, bytes_small}
use Rattle.monitor.proofs.monitor_feed.Goals as goal

pub overflow_cast-result : goal.overflow_cast-result
overflow_cast-result c =
    let a = c.args in
    let count = ap (λ (f : Fed). f.bytes) (rw c.in-Ok.is at c.feed.ensures) in
    let small = bytes_small a.policy.now a.scripts.now a.state.now a.bytes.now a.out.now
    (bytes_are a.scripts.now (λ i. (c.type_inv.scripts i).fits)) (words_are a.state.now (search rules)) (bytes_are a.bytes.now (λ i. (c.type_inv.bytes i).fits)) in
    record { fits = rw count (lt_of_le_of_lt (rw longest_is.1 at small) (lit< tt)) }
