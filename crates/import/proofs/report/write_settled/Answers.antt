-- `report::write_settled` meets its contract: word, key, value and flags, one after another.
use Rattle.prelude.proofs.Kit.{arith}
use Rattle.text.specs.Text.{ascii}
use Rattle.text.proofs.Writing.{writes_then}
use Rattle.import.proofs.Room.{word_room_lem, pair_room, flag_room}
use Rattle.import.proofs.report.write_settled.Goals as goal

pub write_key_and_value-requires : goal.write_key_and_value-requires
write_key_and_value-requires c = let a = c.args.answer in omega (arith, word_room_lem c.args.host a.key a.readers)

pub write_if-requires : goal.write_if-requires
write_if-requires c = let a = c.args.answer in omega (arith, word_room_lem c.args.host a.key a.readers, pair_room a.key a.value)

pub write_if-requires-2 : goal.write_if-requires-2
write_if-requires-2 c =
    let a = c.args.answer in
    omega (arith, word_room_lem c.args.host a.key a.readers, pair_room a.key a.value, flag_room a.secure (ascii ", Secure"))

pub write_bytes-requires : goal.write_bytes-requires
write_bytes-requires c =
    let a = c.args.answer in
    omega (
      arith,
      word_room_lem c.args.host a.key a.readers,
      pair_room a.key a.value,
      flag_room a.secure (ascii ", Secure"),
      flag_room a.http_only (ascii ", HttpOnly"),
    )

pub returns : goal.returns
returns c =
    writes_then c.write_word.ensures
    (writes_then c.write_key_and_value.ensures (writes_then c.write_if.ensures (writes_then c.write_if-2.ensures c.write_bytes.ensures)))
