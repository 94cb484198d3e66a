-- What holds of decoding and encoding together. The proofs are in proofs/RoundTrips.antt.
use Rattle.std.specs.Prelude.{ℕ, ◌≤◌, List, [], ◌∷◌, ◌++◌, ◌≡◌, T, length, take, drop}
use Rattle.std.proofs.Math.Pow.{are_bytes}
use Rattle.prelude.specs.Refusals.{accepted}
use Rattle.records.specs.declared.Direction.{Direction}
use Rattle.records.specs.declared.Direction.TheVariants.{Input, Request}
use Rattle.records.specs.declared.Record.{Record}
use Rattle.records.specs.Layout.{longest}
use Rattle.records.specs.Codec.{decoded, encoded, write_run, read_run}

-- a record as the type of the code has it: the array of cookie values has eight
abbrev pub EightCookies : Record → Type 0
EightCookies r = length r.cookies ≡ 8

-- Fields that encoding accepts are read back: the bytes that it counts decode to those very fields.
abbrev pub WrittenIsRead : Type 0
WrittenIsRead =
    (d : Direction) (r : Record) (out : List ℕ) → EightCookies r → (encoded d r out).number ≡ accepted
    → decoded d (take (encoded d r out).length (encoded d r out).buffer) ≡ record { number = accepted; fields = r }

-- A record that decoding accepts is written back byte for byte, in front of what the buffer held past it.
abbrev pub ReadIsWritten : Type 0
ReadIsWritten =
    (d : Direction) (bytes out : List ℕ) → T (are_bytes bytes) → longest d ≤ length out → (decoded d bytes).number ≡ accepted
    → encoded d (decoded d bytes).fields out ≡ record { number = accepted; length = length bytes; buffer = bytes ++ drop (length bytes) out }

-- eight cookie values in each record of a list
abbrev pub AllEightCookies : List Record → Type 0
AllEightCookies [] = Unit {0}
AllEightCookies (r ∷ rs) = EightCookies r × AllEightCookies rs

-- Records written one after another read back, wholly, as that list.
abbrev pub RunIsRead : Type 0
RunIsRead =
    (d : Direction) (rs : List Record) (out : List ℕ) → AllEightCookies rs → (write_run d rs out).number ≡ accepted
    → read_run d (take (write_run d rs out).length (write_run d rs out).buffer) ≡ record { records = rs; left = [] }

-- The longest records, in numbers.
abbrev pub LongestIs : Type 0
LongestIs = (longest Input ≡ 40) × (longest Request ≡ 37)
