-- What the functions of this crate and of those above ask of their callers, who have just established it.
use Rattle.std.specs.Prelude.{ℕ, ◌<◌, List, ◌≡◌, T, length}
use Rattle.labels.specs.Membership.{endpoints}
use Rattle.machine.specs.Policy.{policy_words, url_rows, url_address, well_formed}

-- a policy that 2 does not refuse
pub record WellFormed (p : List ℕ) : Type 0 where
  pub long : length p ≡ policy_words
  pub formed : T (well_formed p)

-- a number that names a URL of such a policy
pub record Url (p : List ℕ) (u : ℕ) : Type 0 where
  pub row : u < url_rows
  pub address : url_address p u < endpoints
