-- A set of endpoints as a word of 32 bits (document 01, "Marks and sets").
use Rattle.std.specs.Prelude.{ℕ, zero, suc, ◌+◌, ◌-◌, ◌*◌, ◌/◌, ◌%◌, ◌^◌, Bool, not, ◌&&◌, cond, ltb, eqb}
use Rattle.labels.specs.Membership.{Membership, endpoints, subset, lowest_missing, missing_one, share}

-- Endpoint a is in the set whose bit a is 1. A number above 31 is no endpoint, and is in no set.
unfoldable pub holds : ℕ → ℕ → Bool
holds s a = ltb a endpoints && eqb (s / 2 ^ a % 2) 1

-- "within" means subset
abbrev pub within : ℕ → ℕ → Bool
within s t = subset (holds s) (holds t)

-- the lowest endpoint of a set that is missing in another, or 32
abbrev pub missing : ℕ → ℕ → ℕ
missing s t = lowest_missing (holds s) (holds t)

-- an endpoint where a set does not hold it, or 32
abbrev pub unheld : ℕ → ℕ → ℕ
unheld s a = missing_one (holds s) a

-- a set meets another when they share an endpoint, and misses it when they share none
abbrev pub meets : ℕ → ℕ → Bool
meets s t = share (holds s) (holds t)

abbrev pub misses : ℕ → ℕ → Bool
misses s t = not (meets s t)

-- the empty set, the set of all 32 endpoints, and the set of one endpoint
unfoldable pub empty : ℕ
empty = 0

unfoldable pub all : ℕ
all = 2 ^ 32 - 1

unfoldable pub only : ℕ → ℕ
only a = cond (ltb a endpoints) (2 ^ a) empty

-- The word of a set that is given by membership: of so many endpoints, from one on, the first is the lowest bit, and the others follow above it.
unfoldable pub word_from : ℕ → ℕ → Membership → ℕ
word_from zero a s = 0
word_from (suc n) a s = cond (s a) 1 0 + 2 * word_from n (suc a) s

unfoldable pub word_of : Membership → ℕ
word_of s = word_from endpoints 0 s
