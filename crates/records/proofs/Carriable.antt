-- A record is carriable where each of its fields is below what its width has room for. What decoding accepts is carriable.
use Rattle.prelude.proofs.Kit.{ℕ, ◌<◌, ◌^◌, ◌&&◌, not, List, ◌∷◌, [], ◌≡◌, T, ltb, lt→ltb, and_i, are_bytes}
use Rattle.prelude.specs.Refusals.{accepted}
use Rattle.records.specs.declared.Direction.{Direction}
use Rattle.records.specs.declared.Record.{Record}
use Rattle.records.specs.Layout.{maps, widths, fit_widths, values}
use Rattle.records.specs.Codec.{is_one_of, no_key_set, decoded, carriable}
use Rattle.records.proofs.RoundTrips.{carried_back}

-- each value fits its width, said of numbers
abbrev pub Fit : List ℕ → List ℕ → Type 0
Fit [] vs = Unit {0}
Fit (w ∷ ws) [] = Unit {0}
Fit (w ∷ ws) (v ∷ vs) = (v < 256 ^ w) × Fit ws vs

all_fit : (ws vs : List ℕ) → Fit ws vs → T (fit_widths ws vs)
unfolding fit_widths
all_fit [] vs h = tt
all_fit (w ∷ ws) [] h = tt
all_fit (w ∷ ws) (v ∷ vs) h = and_i (ltb v (256 ^ w)) (fit_widths ws vs) (lt→ltb v (256 ^ w) h.0) (all_fit ws vs h.1)

module _ (d : Direction) where
  pub carriable_by : (r : Record) → T (is_one_of r.map (maps d)) → T (not (no_key_set r.map r.keys)) → Fit (widths r.map r.keys) (values r)
      → T (carriable d r)
  unfolding carriable
  carriable_by r known keyed h =
      let ws = widths r.map r.keys in
      let without = not (no_key_set r.map r.keys) in
      and_i (is_one_of r.map (maps d)) (without && fit_widths ws (values r)) known (and_i without (fit_widths ws (values r)) keyed (all_fit ws (values r) h))

  pub decoded_carriable : (bytes : List ℕ) → T (are_bytes bytes) → (decoded d bytes).number ≡ accepted → T (carriable d (decoded d bytes).fields)
  unfolding decoded
  decoded_carriable bytes h e = rw e (carried_back d bytes h e)
