-- Laws of lists that the kit does not have.
use Rattle.prelude.proofs.Kit.{ℕ, ◌≤◌, ◌<◌, ◌+◌, ◌-◌, suc, zero, add-zero, zero-add, le_of_suc-le-suc, not-suc-le-zero, arith, List, ◌∷◌, [], ◌++◌, map, ◌≡◌}
use Rattle.prelude.proofs.Kit.{sym, ◌∙◌, refl, ap, length, take, drop, get_or, set, length-set, sets, take_all, length-drop, ℕ_discrete}
use lib.Seq.{get_or-set_same, get_or-set_other, ext_get_or}
use Rattle.prelude.specs.Lists.{numbers}

-- stores of a joined list are the stores of its parts, one after the other
pub sets_append : (a b l : List ℕ) (i : ℕ) → sets l i (a ++ b) ≡ sets (sets l i a) (i + length a) b
sets_append [] b l i = ap (λ (k : ℕ). sets l k b) (sym (add-zero i))
sets_append (x ∷ a) b l i = sets_append a b (set l i x) (suc i) ∙ ap (λ (k : ℕ). sets (sets (set l i x) (suc i) a) k b) (omega arith)

-- what is made of numbers in a row, at a place
pub map_at : (f : ℕ → ℕ) (n from k : ℕ) → k < n → get_or (map f (numbers from n)) k 0 ≡ f (from + k)
unfolding numbers
map_at f zero from k l = absurd (not-suc-le-zero l)
map_at f (suc n) from zero l = ap f (sym (add-zero from))
map_at f (suc n) from (suc k) l = map_at f n (suc from) k (le_of_suc-le-suc l) ∙ ap f (omega arith)

pub map_long : (f : ℕ → ℕ) (n from : ℕ) → length (map f (numbers from n)) ≡ n
unfolding numbers
map_long f zero from = refl
map_long f (suc n) from = ap suc (map_long f n (suc from))

-- a loop that fills a list of n with what is made of each place: the places below i are filled
module _ (f : ℕ → ℕ) (n : ℕ) where
  pub record Filled (list : List ℕ) (i : ℕ) : Type 0 where
    pub below : i ≤ n
    pub long : length list ≡ n
    pub filled : (k : ℕ) → k < i → get_or list k 0 ≡ f k

  module _ (list : List ℕ) where
    pub filling_begins : length list ≡ n → Filled list 0
    filling_begins e = record { below = omega arith; long = e; filled = λ k l. absurd (not-suc-le-zero l) }

    pub filling_goes_on : (i v : ℕ) → i < n → Filled list i → v ≡ f i → Filled (set list i v) (i + 1)
    filling_goes_on i v h r e = record {
      below = omega (arith, h);
      long = length-set list i v ∙ r.long;
      filled = λ k l. elim (ℕ_discrete k i) [
        | yes s ↦ rw s (get_or-set_same list i v 0 (omega (arith, h, r.long)) ∙ e)
        | no ne ↦ get_or-set_other list i k v 0 (λ s. ne s) ∙ r.filled k (omega (arith, l, ne))
      ];
    }

    pub filling_ends : (i : ℕ) → i ≡ n → Filled list i → list ≡ map f (numbers 0 n)
    filling_ends i e r =
        ext_get_or 0 list (map f (numbers 0 n)) (r.long ∙ sym (map_long f n 0))
        (λ k l. r.filled k (omega (arith, l, e, r.long)) ∙ sym (map_at f n 0 k (omega (arith, l, r.long)) ∙ ap f (zero-add k)))

-- the rest of a list, as code lends it
pub rest_is : (bytes : List ℕ) (from : ℕ) → take (length bytes - from) (drop from bytes) ≡ drop from bytes
rest_is bytes from = take_all (length bytes - from) (drop from bytes) (omega (arith, length-drop from bytes))
