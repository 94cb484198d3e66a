-- Text as bytes: quoted text, numbers in decimal and hexadecimal, and words on a line.
use Rattle.std.specs.Prelude.{ℕ, zero, suc, ◌+◌, ◌-◌, ◌/◌, ◌%◌, ◌≤◌, ◌≡◌, cond, List, [], ◌∷◌, ◌++◌, ltb, length, drop}
use Prim.Native.Char.{code}
use Prim.Native.String.{String, [] as no_more, ◌∷◌ as ◌then◌}
use Rattle.std.proofs.lemmas.List.Edits.{sets}

-- the bytes of a quoted text, which has only characters of ASCII
abbrev pub ascii : String → List ℕ
ascii no_more = []
ascii (c then s) = code c ∷ ascii s

abbrev pub space : ℕ
space = 0x20

abbrev pub newline : ℕ
newline = 0x0a

-- the digit of a number below ten, from `0` on
abbrev pub digit : ℕ → ℕ
digit n = 0x30 + n

-- the digits of a number, most significant first, in at most so many: one below ten, and else one more than a tenth of it has
unfoldable pub decimal_within : ℕ → ℕ → List ℕ
decimal_within zero n = []
decimal_within (suc most) n = cond (ltb n 10) (digit n ∷ []) (decimal_within most (n / 10) ++ (digit (n % 10) ∷ []))

-- in decimal, with no 0 in front: ten digits are enough for 32 bits
unfoldable pub decimal : ℕ → List ℕ
decimal n = decimal_within 10 n

-- the digit of a number below 16: `0` to `9`, then `a` to `f`
abbrev pub hex_digit : ℕ → ℕ
hex_digit n = cond (ltb n 10) (digit n) (0x61 + (n - 10))

-- a byte as two hexadecimal digits
abbrev pub hex : ℕ → List ℕ
hex n = hex_digit (n / 16) ∷ hex_digit (n % 16) ∷ []

-- a word of 32 bits as eight hexadecimal digits
abbrev pub hex_word : ℕ → List ℕ
hex_word n = hex (n / 0x1000000 % 256) ++ (hex (n / 0x10000 % 256) ++ (hex (n / 0x100 % 256) ++ hex (n % 256)))

-- words on a line: a space after each but the last, and a newline after that
abbrev pub line : List (List ℕ) → List ℕ
line [] = newline ∷ []
line (word ∷ []) = word ++ (newline ∷ [])
line (word ∷ next ∷ words) = (word ++ (space ∷ [])) ++ line (next ∷ words)

-- the texts of the numbers below a bound, one after another
unfoldable pub pieces_below : ℕ → (ℕ → List ℕ) → List ℕ
pieces_below zero piece = []
pieces_below (suc n) piece = pieces_below n piece ++ piece n

-- Bytes were written at the front of a text, which goes on as it was; `count` is how many.
abbrev pub AtFront : List ℕ → List ℕ → List ℕ → ℕ → Type 0
AtFront bytes before after count = (count ≡ length bytes) × (after ≡ bytes ++ drop (length bytes) before)

-- The same from any place of the text on; `next` is the place after the bytes.
pub record Wrote (before : List ℕ) (at : ℕ) (bytes after : List ℕ) (next : ℕ) : Type 0 where
  pub place : next ≡ at + length bytes
  pub within : next ≤ length before
  pub written : after ≡ sets before at bytes
