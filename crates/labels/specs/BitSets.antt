-- The members of a set that is kept as the bits of a word: those of the word.
use Rattle.std.specs.Prelude.{ℕ, ◌-◌, ◌^◌, ◌<◌, ◌≡◌, true, refl}
use Rattle.std.proofs.Common.{arith}
use Rattle.std.proofs.lemmas.Bool.Decides.{nat_tests}
use Rattle.labels.specs.Membership.{Membership, endpoints}
use Rattle.labels.specs.Sets.{holds, empty, all}
use Rattle.labels.specs.declared.bits.Bits.{Bits}

abbrev pub members_of : Bits → Membership
members_of s = holds s.word

abbrev pub none : Bits
none = record { word = 0 }

abbrev pub every : Bits
every = record { word = 2 ^ 32 - 1 }

pub none_is : members_of none ≡ holds empty
unfolding empty
none_is = refl

pub every_is : members_of every ≡ holds all
unfolding all
every_is = refl

pub members_below : (s : Bits) (a : ℕ) → members_of s a ≡ true → a < endpoints
unfolding holds
members_below s a h = grind (arith, nat_tests)
