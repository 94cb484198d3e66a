-- The word of a connection: each of its four fields is had back.
use Rattle.prelude.proofs.Kit.{ℕ, ◌<◌, ◌^◌, arith, ◌≡◌}
use Rattle.machine.specs.Session.{packed, kind_of, origin_of, handler_of, url_of}

-- fields that are bytes, packed
module _ (k o h u : ℕ) (lo : o < 256) (lh : h < 256) (lu : u < 256) where
  pub kind_packed : kind_of (packed k o h u) ≡ k
  unfolding kind_of packed
  kind_packed = omega arith

  pub origin_packed : origin_of (packed k o h u) ≡ o
  unfolding origin_of packed
  origin_packed = omega arith

  pub handler_packed : handler_of (packed k o h u) ≡ h
  unfolding handler_of packed
  handler_packed = omega arith

  pub url_packed : url_of (packed k o h u) ≡ u
  unfolding url_of packed
  url_packed = omega arith

-- a word of a small kind is small
pub below_kind : (w : ℕ) → kind_of w < 256 → w < 2 ^ 32
unfolding kind_of
below_kind w l = omega arith
