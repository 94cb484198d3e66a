-- Numbers that are asked one after another are those of a list.
use Rattle.prelude.proofs.Kit.{ℕ, Bool, ◌||◌, List, ◌∷◌, [], ◌≡◌, sym, ◌∙◌, eqb}
use mathlib.Core.Bool.{or-false, or_assoc}
use Rattle.records.specs.Codec.{is_one_of}

-- joined as they come
unfoldable pub asked : ℕ → List ℕ → Bool → Bool
asked x [] met = met
asked x (k ∷ ks) met = asked x ks (met || eqb x k)

pub joined : (ks : List ℕ) (x : ℕ) (met : Bool) → asked x ks met ≡ met || is_one_of x ks
unfolding is_one_of asked
joined [] x met = sym (or-false met)
joined (k ∷ ks) x met = joined ks x (met || eqb x k) ∙ or_assoc met (eqb x k) (is_one_of x ks)
