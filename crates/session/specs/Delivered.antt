-- The cookies of a record, as the code has them: a map of keys and eight values.
use Rattle.std.specs.Prelude.{ℕ, List, map, get_or}
use Rattle.prelude.specs.Choice.{keep}
use Rattle.records.specs.Layout.{key_numbers}
use Rattle.machine.specs.Session.{has, Cookie}

abbrev pub cookie : ℕ → ℕ → Cookie
cookie k v = record { key = k; value = v }

-- those that a record delivers, lowest key first
abbrev pub delivered : ℕ → List ℕ → List Cookie
delivered keys values = map (λ k. cookie k (get_or values k 0)) (keep (has keys) key_numbers)
