-- A Set-Cookie line, by which the text after the header's colon is meant: its name, its value and two of its attributes (RFC 6265, section 5.2).
use Rattle.std.specs.Prelude.{ℕ, Bool, false, ◌||◌, List, [], ◌∷◌, eqb}
use Rattle.prelude.specs.Choice.{branch}
use Rattle.text.specs.Text.{ascii}
use Rattle.cookie.specs.Parts.{before, after, trim, is_word}
use Rattle.cookie.specs.declared.attributes.Flags.{Flags}

abbrev pub semicolon : ℕ
semicolon = 0x3b

abbrev pub equals : ℕ
equals = 0x3d

-- ---- the pair

-- the pair is what stands before the first `;`, or the whole line
abbrev pub pair_of : List ℕ → List ℕ
pair_of line = before semicolon line

-- of a pair with `=`, the name is what stands before the first one and the value what stands after it, both without the blanks at their ends
abbrev pub name_of : List ℕ → List ℕ
name_of pair = trim (before equals pair)

abbrev pub value_of : List ℕ → List ℕ
value_of pair = trim (after equals pair)

-- ---- the attributes

-- after each `;` stands an attribute, which ends before the next `;`, or with the line
unfoldable pub attributes : List ℕ → List (List ℕ)
attributes [] = []
attributes (x ∷ xs) = let rest = attributes xs in branch (eqb x semicolon) (before semicolon xs ∷ rest) rest

-- its name is what stands before its first `=`, or all of it, without the blanks at its ends; what stands after the `=` does not matter
abbrev pub attribute_name : List ℕ → List ℕ
attribute_name attribute = trim (before equals attribute)

abbrev pub secure_word : List ℕ
secure_word = ascii "secure"

abbrev pub http_only_word : List ℕ
http_only_word = ascii "httponly"

-- an attribute goes by a word where its name is that word in any case of its letters
abbrev pub is_called : List ℕ → List ℕ → Bool
is_called word attribute = is_word word (attribute_name attribute)

unfoldable pub some_called : List ℕ → List (List ℕ) → Bool
some_called word [] = false
some_called word (a ∷ later) = is_called word a || some_called word later

-- the two that are looked for, among all of a line; every other one is passed over
unfoldable pub flags_of : List ℕ → Flags
flags_of line = record { secure = some_called secure_word (attributes line); http_only = some_called http_only_word (attributes line) }
