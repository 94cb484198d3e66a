-- Parts of a text, which is a list of bytes: what stands before and after a byte, what is left without the blanks at its ends, and whether it is
-- a word in any case of its letters.
use Rattle.std.specs.Prelude.{ℕ, ◌+◌, ◌*◌, ◌<◌, ◌≤◌, Bool, false, ◌&&◌, ◌||◌, cond, List, [], ◌∷◌, map, ◌≡◌, leb, eqb, length, get_or, Option, Some, None}
use Rattle.prelude.specs.Choice.{branch}
use Rattle.prelude.specs.Lists.{is_empty, same_numbers}

unfoldable pub has : ℕ → List ℕ → Bool
has byte [] = false
has byte (x ∷ xs) = eqb x byte || has byte xs

-- what stands before the first such byte, or all of the text where there is none
unfoldable pub before : ℕ → List ℕ → List ℕ
before byte [] = []
before byte (x ∷ xs) = branch (eqb x byte) [] (x ∷ before byte xs)

-- what stands after the first such byte, or nothing where there is none
unfoldable pub after : ℕ → List ℕ → List ℕ
after byte [] = []
after byte (x ∷ xs) = branch (eqb x byte) xs (after byte xs)

-- what stands behind the first such byte, where there is one
abbrev pub behind : ℕ → List ℕ → Option (List ℕ)
behind byte text = cond (has byte text) (Some (after byte text)) None

-- ---- blanks

-- a space or a tab, and no other byte
abbrev pub is_blank : ℕ → Bool
is_blank x = eqb x 0x20 || eqb x 0x09

unfoldable pub trim_start : List ℕ → List ℕ
trim_start [] = []
trim_start (x ∷ xs) = branch (is_blank x) (trim_start xs) (x ∷ xs)

-- without the bytes at the end that pass a test
unfoldable pub trim_end : (ℕ → Bool) → List ℕ → List ℕ
trim_end test [] = []
trim_end test (x ∷ xs) = let rest = trim_end test xs in branch (test x && is_empty rest) [] (x ∷ rest)

-- without the blanks at both ends
unfoldable pub trim : List ℕ → List ℕ
trim text = trim_end is_blank (trim_start text)

-- ---- letters

-- a capital letter, `A` to `Z`, as the small one; any other byte as it is
abbrev pub lower : ℕ → ℕ
lower x = cond (leb 0x41 x && leb x 0x5a) (x + 0x20) x

-- a text is a word, which is given in small letters, in any case of its letters
unfoldable pub is_word : List ℕ → List ℕ → Bool
is_word word text = same_numbers (map lower text) word

-- ---- for the contracts of the functions within the crate

abbrev pub stride : ℕ
stride = 32

-- the first n strides of a text lack a byte
pub record StridesLack (byte : ℕ) (text : List ℕ) (n : ℕ) : Type 0 where
  pub within : n * stride ≤ length text
  pub lack : (k : ℕ) → k < n * stride → eqb (get_or text k 0) byte ≡ false

-- what a function answers of a byte is a test of it
abbrev pub Tests : (ℕ → Bool → Type 0) → (ℕ → Bool) → Type 0
Tests post test = (byte : ℕ) (answer : Bool) → post byte answer → answer ≡ test byte
