-- What import prints: for each line the policy word that it settles, or why it is refused.
use Rattle.std.specs.Prelude.{ℕ, ◌+◌, ◌-◌, ◌*◌, Bool, cond, List, [], ◌∷◌, ◌++◌, eqb, get_or}
use Rattle.prelude.specs.Refusals.{accepted}
use Rattle.machine.specs.Policy.{cookie_labels_at, cookie_index}
use Rattle.text.specs.Text.{ascii, space, decimal, hex_word}
use Rattle.cookie.specs.declared.Imported.{Imported}
use Rattle.cookie.specs.Import.{host_unknown, no_name, no_key, imported}
use Rattle.import.specs.Lines.{lines, text_of}

-- the word of a policy that has the readers of a host's cookie, and what it is to be
abbrev pub word_text : ℕ → ℕ → ℕ → List ℕ
word_text host key readers =
    ascii "word " ++ ((decimal (cookie_labels_at + 2 * cookie_index host key) ++ (space ∷ [])) ++ (ascii "= 0x" ++ hex_word readers))

abbrev pub key_and_value : ℕ → ℕ → List ℕ
key_and_value key value = ascii ", key " ++ (decimal key ++ (ascii ", value " ++ decimal value))

abbrev pub flag_text : Bool → List ℕ → List ℕ
flag_text on text = cond on text []

abbrev pub settled_text : ℕ → Imported → List ℕ
settled_text host r =
    word_text host r.key r.readers
    ++ (key_and_value r.key r.value
    ++ (flag_text r.secure (ascii ", Secure")
    ++ (flag_text r.http_only (ascii ", HttpOnly")
    ++ ascii "\n")))

-- why a number refuses a line
abbrev pub reason : ℕ → List ℕ
reason n =
    cond (eqb n host_unknown) (ascii " the host is above 15\n")
    (cond (eqb n no_name) (ascii " the pair has no equals sign, or no name before it\n")
    (cond (eqb n no_key) (ascii " none of the names is the cookie's\n")
    (ascii " the value is not one to ten digits that make at most 4294967295\n")))

abbrev pub refusal_text : ℕ → List ℕ
refusal_text n = ascii "refused " ++ ((decimal n ++ (0x3a ∷ [])) ++ reason n)

-- the number of a line in its file, and what it settles
abbrev pub answer_text : ℕ → ℕ → Imported → List ℕ
answer_text nth host r =
    (decimal nth ++ (0x3a ∷ [])) ++ (ascii " " ++ cond (eqb r.number accepted) (settled_text host r) (refusal_text r.number))

unfoldable pub line_text : ℕ → ℕ → List ℕ → List ℕ → List ℕ
line_text nth host names line = answer_text nth host (imported host names (text_of line))

-- what is printed of line n of an input; lines are counted from 1
abbrev pub printed : ℕ → List ℕ → List ℕ → ℕ → List ℕ
printed host names input n = line_text n host names (get_or (lines input) (n - 1) [])

-- ---- for the contracts of the functions within the crate

-- the most bytes that are read
abbrev pub input_limit : ℕ
input_limit = 65536

-- room for what is printed of a line
abbrev pub line_room : ℕ
line_room = 128

abbrev pub word_room : ℕ
word_room = 28

abbrev pub settled_room : ℕ
settled_room = 82

abbrev pub refusal_room : ℕ
refusal_room = 86
