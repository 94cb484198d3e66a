-- A choice between two values, what a test keeps of a list, and whether it keeps all.
use Rattle.std.specs.Prelude.{Bool, true, false, ◌&&◌, List, [], ◌∷◌}

-- It computes only where a proof names it, so that goals keep the shape of the definitions.
unfoldable pub branch : {A : Type 0} → Bool → A → A → A
branch true x y = x
branch false x y = y

unfoldable pub keep : {A : Type 0} → (A → Bool) → List A → List A
keep test [] = []
keep test (x ∷ xs) = let rest = keep test xs in branch (test x) (x ∷ rest) rest

unfoldable pub every : {A : Type 0} → (A → Bool) → List A → Bool
every test [] = true
every test (x ∷ xs) = test x && every test xs
