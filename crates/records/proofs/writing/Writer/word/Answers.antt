use Rattle.prelude.proofs.Kit.{arith, ◌≡◌, ◌*◌, ap}
use Rattle.records.specs.Bytes.{digits}
use Rattle.records.specs.Reading.{on}
use Rattle.records.proofs.Slices.{digits_word}
use Rattle.records.proofs.Digits.{length_digits}
use Rattle.records.proofs.InTurn.{wrote_none}
use Rattle.records.proofs.writing.Writer.word.Goals as goal

pub put-requires : goal.put-requires
put-requires c =
    let one : on c.args.carried ≡ 1 = ap on c.if-carried.true in
    omega (arith, one, c.requires, length_digits (4 * on c.args.carried) c.args.value)

pub returns-then-carried-clause-wrote : goal.returns-then-carried-clause-wrote
returns-then-carried-clause-wrote c = rw (c.if-carried.true, ← digits_word c.args.value) (rw c.to_be_bytes.ensures at c.put.ensures.wrote)

pub returns-else-carried-clause-wrote : goal.returns-else-carried-clause-wrote
unfolding digits
returns-else-carried-clause-wrote c = rw c.if-carried.false (wrote_none _ _)
