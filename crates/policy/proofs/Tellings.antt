-- Of two options the first that is some tells what the first of two conditions that fails does.
use Rattle.prelude.proofs.Kit.{ℕ, sym, true, false}
use Rattle.std.specs.Prelude.{Option, Some, None}
use Rattle.std.specs.Option.{option_or}
use Rattle.prelude.specs.Choice.{branch}
use Rattle.labels.specs.Membership.{Tells, is_none}
use Rattle.labels.proofs.Below.{not_alike}
use Rattle.machine.specs.Policy.{first_missing}

pub first_told : (r s : Option ℕ) (m n : ℕ) → Tells r m → Tells s n → Tells (option_or r s) (first_missing m n)
unfolding first_missing branch
first_told None s m n t u = rw (sym (not_alike true (is_none m) t.1)) u
first_told (Some a) s m n t u = rw (sym (not_alike false (is_none m) t.1)) t
