-- The numbers that digits write, as they are read.
use Rattle.std.specs.Prelude.{ℕ, ◌+◌, ◌-◌, ◌*◌, Bool, not, ◌&&◌, cond, List, [], ◌∷◌, leb, length, Option, Some, None}
use Rattle.prelude.specs.Choice.{every}
use Rattle.prelude.specs.Lists.{is_empty}

abbrev pub is_digit : ℕ → Bool
is_digit x = leb 0x30 x && leb x 0x39

-- the number that digits write, after others that wrote n: each is added to ten times what stands before it
unfoldable pub number_after : ℕ → List ℕ → ℕ
number_after n [] = n
number_after n (d ∷ ds) = number_after (n * 10 + (d - 0x30)) ds

abbrev pub number_of : List ℕ → ℕ
number_of text = number_after 0 text

abbrev pub most_digits : ℕ
most_digits = 10

abbrev pub largest : ℕ
largest = 4294967295

-- one to ten digits, zeros in front among them, that make at most 4,294,967,295
unfoldable pub is_number : List ℕ → Bool
is_number text = not (is_empty text) && (leb (length text) most_digits && (every is_digit text && leb (number_of text) largest))

-- what is read of a text
abbrev pub number_read : List ℕ → Option ℕ
number_read text = cond (is_number text) (Some (number_of text)) None
