-- Refusals: tests in their order, each with what is answered where it is the first that applies.
use Rattle.std.specs.Prelude.{ℕ, Bool, List, [], ◌∷◌, map}
use Rattle.prelude.specs.Choice.{branch}

-- the number of what nothing refuses
abbrev pub accepted : ℕ
accepted = 0

pub record Refusal (A : Type 0) : Type 0 where
  pub answer : A
  pub applies : Bool

abbrev pub refuse : {A : Type 0} → A → Bool → Refusal A
refuse answer test = record { answer = answer; applies = test }

-- the answer of the first that applies, or another where none does
unfoldable pub first_of : {A : Type 0} → List (Refusal A) → A → A
first_of [] otherwise = otherwise
first_of (r ∷ rs) otherwise = branch r.applies r.answer (first_of rs otherwise)

-- the same tests, their answers told in another way
abbrev pub answering : {A B : Type 0} → (A → B) → List (Refusal A) → List (Refusal B)
answering f rs = map (λ r. refuse (f r.answer) r.applies) rs
