-- No error has the number of what is accepted.
use Rattle.prelude.proofs.Kit.{arith, ◌≡◌}
use Rattle.prelude.specs.Refusals.{accepted}
use Rattle.records.specs.declared.errors.DecodeError.{DecodeError}
use Rattle.records.specs.declared.errors.DecodeError.TheVariants.{KindUnknown, KeyMapEmpty, CutOrTooLong}
use Rattle.records.specs.Results.{decode_number}

pub error_refused : (e : DecodeError) → decode_number e ≡ accepted → ⊥
error_refused KindUnknown h = omega (arith, h)
error_refused KeyMapEmpty h = omega (arith, h)
error_refused CutOrTooLong h = omega (arith, h)
