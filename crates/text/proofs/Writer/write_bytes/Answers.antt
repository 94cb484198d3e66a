-- `Writer::write_bytes` meets its contract: the copy into a part of the buffer.
use Rattle.prelude.proofs.Kit.{rules, refl, arith}
use Rattle.text.proofs.Writing.{copied}
use Rattle.text.proofs.Writer.write_bytes.Goals as goal

pub returns : goal.returns
returns c = record {
  same_memory = refl;
  same_length = search rules;
  wrote = record { place = refl; within = omega arith; written = copied _ _ _ _ _ c.requires (omega arith) (search rules) };
}
