-- Whether a list is empty, numbers in a row, the lowest that passes a test, and whether two lists of numbers are the same.
use Rattle.std.specs.Prelude.{ℕ, zero, suc, Bool, true, false, ◌&&◌, List, [], ◌∷◌, eqb, length, get_or}
use Rattle.prelude.specs.Choice.{keep}

abbrev pub is_empty : List ℕ → Bool
is_empty l = eqb (length l) 0

-- so many numbers, from one on
unfoldable pub numbers : ℕ → ℕ → List ℕ
numbers from zero = []
numbers from (suc n) = from ∷ numbers (suc from) n

-- of the numbers below a bound, the lowest that passes a test; the bound where none does
unfoldable pub lowest : ℕ → (ℕ → Bool) → ℕ
lowest n test = get_or (keep test (numbers 0 n)) 0 n

unfoldable pub same_numbers : List ℕ → List ℕ → Bool
same_numbers [] [] = true
same_numbers [] (y ∷ ys) = false
same_numbers (x ∷ xs) [] = false
same_numbers (x ∷ xs) (y ∷ ys) = eqb x y && same_numbers xs ys
