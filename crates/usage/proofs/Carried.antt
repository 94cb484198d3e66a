-- The cookies of a request: as many as its key map has ones, and no more than eight. So no count passes 32 bits.
use Rattle.prelude.proofs.Kit.{ℕ, ◌≤◌, ◌<◌, ◌+◌, ◌*◌, suc, zero, arith, List, ◌∷◌, [], map, ◌≡◌, sym, ◌∙◌, refl}
use Rattle.prelude.proofs.Kit.{eqb, length}
use lib.Count.{ones}
use lib.ListN.{length-map}
use Rattle.prelude.specs.Choice.{branch, keep}
use Rattle.prelude.proofs.Choices.{keep_short}
use Rattle.records.specs.declared.Direction.TheVariants.{Request}
use Rattle.records.specs.declared.Record.{Record}
use Rattle.records.specs.Bytes.{bit}
use Rattle.records.specs.Layout.{key_numbers, widths, sum}
use Rattle.records.specs.Codec.{read_run}
use Rattle.records.specs.Places.{cookie_widths}
use Rattle.records.proofs.Starts.{ones_keys}
use Rattle.records.proofs.ReadRuns.{run_few}
use Rattle.machine.specs.Session.{has}
use Rattle.machine.specs.Machine.{cookies_of}
use Rattle.usage.proofs.Weights.{weight, one, length_weight}

-- a request weighs its cookies
abbrev pub carried : Record → ℕ
carried r = length (cookies_of r)

keys_kept : (r : Record) → carried r ≡ length (keep (has r.keys) key_numbers)
unfolding cookies_of
keys_kept r = length-map (keep (has r.keys) key_numbers) _

-- the keys of a map are its bits that are set
kept_bits : (keys : ℕ) (ks : List ℕ) → length (keep (has keys) ks) ≡ sum (map (bit keys) ks)
unfolding keep has branch
kept_bits keys [] = refl
kept_bits keys (k ∷ ks) = go (bit keys k) (omega arith) (kept_bits keys ks)
  where
    go : (b : ℕ) → b < 2 → length (keep (has keys) ks) ≡ sum (map (bit keys) ks)
        → length (branch (eqb b 1) (k ∷ keep (has keys) ks) (keep (has keys) ks)) ≡ b + sum (map (bit keys) ks)
    go zero l rest = omega (arith, rest)
    go (suc zero) l rest = omega (arith, rest)
    go (suc (suc b)) l rest = absurd (omega arith)

pub ones_carried : (r : Record) → r.keys < 256 → ones r.keys ≡ carried r
ones_carried r h = ones_keys r.keys h ∙ sym (keys_kept r ∙ kept_bits r.keys key_numbers)

-- where no values are carried there is no cookie
no_bits : (a b c d e f g h : ℕ) → sum (4 * a ∷ 4 * b ∷ 4 * c ∷ 4 * d ∷ 4 * e ∷ 4 * f ∷ 4 * g ∷ 4 * h ∷ []) ≡ 0 → sum (a ∷ b ∷ c ∷ d ∷ e ∷ f ∷ g ∷ h ∷ []) ≡ 0
no_bits a b c d e f g h none = omega arith

pub none_carried : (r : Record) → sum (cookie_widths r.keys) ≡ 0 → carried r ≡ 0
unfolding cookie_widths widths
none_carried r none =
    let k = r.keys in
    keys_kept r ∙ kept_bits k key_numbers ∙ no_bits (bit k 0) (bit k 1) (bit k 2) (bit k 3) (bit k 4) (bit k 5) (bit k 6) (bit k 7) none

few_carried : (r : Record) → carried r ≤ 8
few_carried r = omega (arith, keys_kept r, keep_short (has r.keys) key_numbers)

carried_weigh : (rs : List Record) → weight carried rs ≤ 8 * length rs
carried_weigh [] = omega arith
carried_weigh (r ∷ rs) = omega (arith, few_carried r, carried_weigh rs)

-- what a list of so many bytes weighs
pub records_weigh : (requests : List ℕ) → weight one (read_run Request requests).records ≤ length requests
records_weigh requests = omega (arith, length_weight (read_run Request requests).records, run_few Request requests)

pub cookies_weigh : (requests : List ℕ) → weight carried (read_run Request requests).records ≤ 8 * length requests
cookies_weigh requests = omega (arith, carried_weigh (read_run Request requests).records, run_few Request requests)
