-- What walk reads (document 01, "Program walk"): policy words, script table, then records, each after one length byte. journey
-- and reach read a policy so too.
use Rattle.std.specs.Prelude.{ℕ, zero, suc, ◌+◌, ◌-◌, ◌*◌, cond, List, [], ◌∷◌, Option, Some, None, Result, Ok, Err, ltb, eqb, length, get_or, take, drop}
use Rattle.prelude.specs.Refusals.{accepted}
use Rattle.records.specs.Bytes.{number}
use Rattle.machine.specs.Policy.{policy_words}
use Rattle.machine.specs.Scripts.{table_bytes}
use Rattle.transcript.specs.declared.counts.Counts.{Counts}
use Rattle.transcript.specs.declared.input.Unfit.{Unfit}
use Rattle.transcript.specs.declared.input.Unfit.TheVariants.{TooShort, TooLong}
use Rattle.transcript.specs.declared.input.Ending.{Ending}
use Rattle.transcript.specs.declared.input.Ending.TheVariants.{End, Cut}

abbrev pub policy_bytes : ℕ
policy_bytes = 4 * policy_words

-- the place of the first length byte: 4,484
abbrev pub records_at : ℕ
records_at = policy_bytes + table_bytes

abbrev pub input_limit : ℕ
input_limit = 65536

-- whether an input is one that walk takes
pub data InputSize : Type 0 where
  Short : InputSize
  Long : InputSize
  Fits : InputSize

-- an input is short where it has no room for policy and script table, and long above the limit
abbrev pub input_size : List ℕ → InputSize
input_size input = cond (ltb (length input) records_at) Short (cond (ltb input_limit (length input)) Long Fits)

-- as the code answers it
abbrev pub told_size : Result (Unit {0}) Unfit → InputSize
told_size (Ok _) = Fits
told_size (Err TooShort) = Short
told_size (Err TooLong) = Long

-- words of four bytes each, most significant first
unfoldable pub words_of : ℕ → List ℕ → List ℕ
words_of zero bytes = []
words_of (suc n) bytes = number (take 4 bytes) ∷ words_of n (drop 4 bytes)

abbrev pub policy_of : List ℕ → List ℕ
policy_of input = words_of policy_words input

-- the policy of an input that is nothing else; one of another length has no words
abbrev pub policy_in : List ℕ → List ℕ
policy_in input = cond (eqb (length input) policy_bytes) (policy_of input) []

-- the words that were read, if any
abbrev pub words_read : Option (List ℕ) → List ℕ
words_read (Some words) = words
words_read None = []

-- what is at a place of the input: a record, whose bytes are all there, or the end of the records
pub data Next : Type 0 where
  Record : (start length : ℕ) → Next
  Last : (ending : Ending) → Next

-- What is at a place: nothing more; a length byte that asks for more than follows it; or a record, whose bytes start after its length byte.
-- A last length byte of 0 is followed by the empty record.
abbrev pub next_record : List ℕ → ℕ → Next
next_record input at =
    cond (ltb at (length input))
    (cond (ltb (length input - (at + 1)) (get_or input at 0)) (Last Cut) (Record (at + 1) (get_or input at 0)))
    (Last End)

-- one more accepted or one more refused, by the number of the answer
abbrev pub counted : Counts → ℕ → Counts
counted counts number =
    cond (eqb number accepted)
    (record { accepted = counts.accepted + 1; refused = counts.refused })
    (record { accepted = counts.accepted; refused = counts.refused + 1 })
