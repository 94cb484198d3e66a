-- Strays, a word for each key: the values of absent cookies joined by "or" over the hosts (document 01, "The state").
use Rattle.std.specs.Prelude.{ℕ, Bool, true, ◌&&◌, List, [], ◌∷◌, eqb}

-- every absent cookie's value is 0
unfoldable pub none_left : List ℕ → Bool
none_left [] = true
none_left (word ∷ strays) = eqb word 0 && none_left strays
