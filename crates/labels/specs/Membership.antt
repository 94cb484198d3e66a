-- What it means that one set of endpoints is within another, which endpoint is missing where it is not, and what it means that two meet: said of
-- membership alone, so that it holds of every representation of a set (document 01, "Marks and sets").
use Rattle.std.specs.Prelude.{ℕ, zero, suc, Bool, true, false, not, ◌&&◌, ◌||◌, cond, eqb, ◌≡◌, Option, is_some, unwrap_or}

-- which endpoints are in a set; document 01 calls an endpoint a mark
abbrev pub Membership : Type 0
Membership = ℕ → Bool

-- there are 32 endpoints, 0 to 31
abbrev pub endpoints : ℕ
endpoints = 32

-- every number below a bound passes the test; some number below it does
unfoldable pub all_below : ℕ → (ℕ → Bool) → Bool
all_below zero test = true
all_below (suc n) test = test n && all_below n test

unfoldable pub any_below : ℕ → (ℕ → Bool) → Bool
any_below zero test = false
any_below (suc n) test = test n || any_below n test

-- a number below a bound that passes the test, or another number where none does; it is asked of tests that no two numbers pass
unfoldable pub find_below : ℕ → (ℕ → Bool) → ℕ → ℕ
find_below zero test none = none
find_below (suc n) test none = cond (test n) n (find_below n test none)

-- the subset relation: each endpoint of the first is one of the second
unfoldable pub subset : Membership → Membership → Bool
subset s t = all_below endpoints (λ a. not (s a) || t a)

-- An endpoint of the first is missing where it is none of the second. It is the lowest such where it is missing and each lower one is not.
abbrev pub is_missing : Membership → Membership → ℕ → Bool
is_missing s t a = s a && not (t a)

unfoldable pub is_lowest_missing : Membership → Membership → ℕ → Bool
is_lowest_missing s t a = is_missing s t a && all_below a (λ b. not (is_missing s t b))

-- 32 is told where none is missing
abbrev pub none_missing : ℕ
none_missing = endpoints

abbrev pub is_none : ℕ → Bool
is_none m = eqb m none_missing

-- an option tells the same: the endpoint, and nothing in place of 32
abbrev pub told_missing : Option ℕ → ℕ
told_missing told = unwrap_or told none_missing

abbrev pub Tells : Option ℕ → ℕ → Type 0
Tells told m = (told_missing told ≡ m) × (is_some told ≡ not (is_none m))

-- what is told of two sets: the lowest endpoint of the first that is missing in the second
unfoldable pub lowest_missing : Membership → Membership → ℕ
lowest_missing s t = find_below endpoints (is_lowest_missing s t) none_missing

-- what is told of one endpoint, 0 to 31, and a set: the endpoint, where the set does not have it
unfoldable pub missing_one : Membership → ℕ → ℕ
missing_one t a = cond (t a) none_missing a

-- two sets meet where they share an endpoint, and miss each other where they share none
unfoldable pub share : Membership → Membership → Bool
share s t = any_below endpoints (λ a. s a && t a)
