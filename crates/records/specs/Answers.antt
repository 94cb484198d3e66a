-- What decoding and encoding answer, in numbers.
use Rattle.std.specs.Prelude.{ℕ}
use Rattle.records.specs.declared.Record.{Record}

-- what decoding answers: 0 and the fields, or a refusal and every field 0
pub record Decoded : Type 0 where
  pub number : ℕ
  pub fields : Record

-- what encoding answers: 0 and the bytes written, or a refusal and 0
pub record Encoded : Type 0 where
  pub number : ℕ
  pub length : ℕ

-- the first of some records one after another, as decoding reads it, and how many bytes it has; 0 where it is refused
pub record First : Type 0 where
  pub number : ℕ
  pub fields : Record
  pub length : ℕ
