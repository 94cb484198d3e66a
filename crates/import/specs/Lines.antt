-- The lines of a text file, and the Set-Cookie text of each.
use Rattle.std.specs.Prelude.{ℕ, ◌<◌, ◌≤◌, Bool, ◌&&◌, cond, List, [], ◌∷◌, eqb, length}
use Rattle.prelude.specs.Choice.{branch}
use Rattle.text.specs.Text.{ascii, newline}
use Rattle.cookie.specs.Parts.{has, before, after, trim_end, is_word}

abbrev pub carriage_return : ℕ
carriage_return = 0x0d

abbrev pub colon : ℕ
colon = 0x3a

-- a byte in front of the first line, which it begins where there is none
abbrev pub in_front : ℕ → List (List ℕ) → List (List ℕ)
in_front x [] = (x ∷ []) ∷ []
in_front x (l ∷ ls) = (x ∷ l) ∷ ls

-- A newline ends a line. What stands after the last one is a line too, unless it is nothing.
unfoldable pub lines : List ℕ → List (List ℕ)
lines [] = []
lines (x ∷ xs) = let rest = lines xs in branch (eqb x newline) ([] ∷ rest) (in_front x rest)

-- carriage returns at the end of a line belong to the file and not to the line
abbrev pub is_return : ℕ → Bool
is_return x = eqb x carriage_return

-- a line may be a whole header: its name, in any case of its letters, and its colon are taken off
abbrev pub after_name : List ℕ → List ℕ
after_name line = cond (has colon line && is_word (ascii "set-cookie") (before colon line)) (after colon line) line

abbrev pub text_of : List ℕ → List ℕ
text_of line = after_name (trim_end is_return line)

-- n is the number of a line of an input; lines are counted from 1
abbrev pub IsLine : List ℕ → ℕ → Type 0
IsLine input n = (0 < n) × (n ≤ length (lines input))
