-- Numbers that arguments are. What an argument is no contract can say, since the system gives it: how a buffer that it was put into is read is said.
use Rattle.std.specs.Prelude.{ℕ, ◌≤◌, ◌≡◌, List, Option, Some, None, Result, Ok, Err, length, take}
use Rattle.std.specs.declared.env.FillError.{FillError}
use Rattle.std.specs.declared.env.FillError.TheVariants.{NotPresent, TooLong}
use Rattle.text.specs.Numbers.{most_digits, number_read}

-- some text of at most ten bytes is the number
abbrev pub IsWritten : ℕ → Type 0
IsWritten n = (digits : List ℕ) × (length digits ≤ most_digits) × (number_read digits ≡ Some n)

-- an argument that is there has to be a number
abbrev pub there : Option ℕ → Option (Option ℕ)
there (Some n) = Some (Some n)
there None = None

-- What is read of a buffer that was to be filled with an argument: its number, or that there is no such argument. Nothing is read of any other text,
-- nor of one that the buffer has no room for.
abbrev pub given : Result ℕ FillError → List ℕ → Option (Option ℕ)
given (Ok n) buffer = there (number_read (take n buffer))
given (Err NotPresent) buffer = Some None
given (Err TooLong) buffer = None
