-- What walk prints (document 01, "Program walk").
use Rattle.std.specs.Prelude.{ℕ, List, [], ◌∷◌, ◌++◌}
use Rattle.prelude.specs.Refusals.{accepted}
use Rattle.records.specs.declared.Direction.TheVariants.{Request}
use Rattle.records.specs.declared.Record.{Record}
use Rattle.records.specs.Codec.{read_run}
use Rattle.transcript.specs.declared.input.Ending.{Ending}
use Rattle.transcript.specs.declared.input.Ending.TheVariants.{End, Cut}
use Rattle.transcript.specs.Input.{InputSize, Short, Long, Fits}
use Rattle.text.specs.Text.{decimal, hex, line}

-- `short`, `long`; nothing of an input that fits
abbrev pub size_line : InputSize → List ℕ
size_line Short = line ((0x73 ∷ 0x68 ∷ 0x6f ∷ 0x72 ∷ 0x74 ∷ []) ∷ [])
size_line Long = line ((0x6c ∷ 0x6f ∷ 0x6e ∷ 0x67 ∷ []) ∷ [])
size_line Fits = []

-- a record's number from 1, and the number, output bytes, steps and missing endpoint of its answer
abbrev pub record_line : ℕ → ℕ → ℕ → ℕ → ℕ → List ℕ
record_line nth number bytes steps missing = line (decimal nth ∷ decimal number ∷ decimal bytes ∷ decimal steps ∷ decimal missing ∷ [])

-- `>`, URL, connection (document 01: lane) and key map
abbrev pub request_line : ℕ → ℕ → ℕ → List ℕ
request_line url connection keys = line ((0x3e ∷ []) ∷ decimal url ∷ decimal connection ∷ hex keys ∷ [])

unfoldable pub request_lines : List Record → List ℕ
request_lines [] = []
request_lines (r ∷ rs) = request_line r.url r.connection r.keys ++ request_lines rs

-- a line for each request that is read off the front of the bytes sent; of bytes that are not wholly requests, for those before the first
-- that is none
unfoldable pub sent_lines : List ℕ → List ℕ
sent_lines sent = request_lines (read_run Request sent).records

-- all that is printed of a record; `sent` is the output bytes that its answer counts
unfoldable pub record_lines : ℕ → ℕ → ℕ → ℕ → ℕ → List ℕ → List ℕ
record_lines nth number bytes steps missing sent = record_line nth number bytes steps missing ++ sent_lines sent

-- `end`, or `cut` where the last record is shorter than its length byte says
abbrev pub ending_word : Ending → List ℕ
ending_word End = 0x65 ∷ 0x6e ∷ 0x64 ∷ []
ending_word Cut = 0x63 ∷ 0x75 ∷ 0x74 ∷ []

abbrev pub last_line : Ending → ℕ → ℕ → List ℕ
last_line ending accepted refused = line (ending_word ending ∷ decimal accepted ∷ decimal refused ∷ [])
