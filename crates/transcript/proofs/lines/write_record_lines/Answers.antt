-- `lines::write_record_lines` meets its contract: the record's line, and the requests' lines after it.
use Rattle.prelude.proofs.Kit.{arith, ◌∷◌, []}
use Rattle.transcript.specs.Lines.{record_lines}
use Rattle.text.proofs.Decimals.{numbers_room}
use Rattle.text.proofs.Writing.{writes_then}
use Rattle.transcript.proofs.lines.write_record_lines.Goals as goal

pub write_request_lines-requires : goal.write_request_lines-requires
write_request_lines-requires c =
    let a = c.args.answer in
    omega (arith, numbers_room (c.args.nth ∷ a.number ∷ a.bytes ∷ a.steps ∷ a.missing ∷ []) (omega arith))

pub returns : goal.returns
unfolding record_lines
returns c = writes_then c.write_numbers.ensures c.write_request_lines.ensures
