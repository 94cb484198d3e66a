-- A loop that writes a piece for each number below a bound: those of the numbers below one are written, and there is room for the others.
use Rattle.prelude.proofs.Kit.{ℕ, ◌≤◌, ◌<◌, ◌+◌, ◌-◌, ◌*◌, suc, zero, add-one, arith, List, ◌≡◌, ◌∙◌, ap, length, length-append}
use native.Mathlib.Nat.{mul-suc}
use Rattle.text.specs.declared.Writer.{Writer}
use Rattle.text.specs.Text.{pieces_below}
use Rattle.text.specs.Writing.{HasRoom, Writes}
use Rattle.text.proofs.Writing.{writes_nothing, writes_then}

-- no piece is longer than `most`
module _ (bound most : ℕ) (piece : ℕ → List ℕ) (short : (i : ℕ) → length (piece i) ≤ most) where
  pub pieces_short : (i : ℕ) → length (pieces_below i piece) ≤ most * i
  unfolding pieces_below
  pieces_short zero = omega arith
  pieces_short (suc i) = omega (arith, pieces_short i, short i, mul-suc most i, length-append (pieces_below i piece) (piece i))

  pub record Listing (first now : Writer) (i : ℕ) : Type 0 where
    pub below : i ≤ bound
    pub room : HasRoom now (most * (bound - i))
    pub writes : Writes first (pieces_below i piece) now

  pub listing_begins : (w : Writer) → HasRoom w (most * bound) → Listing w w 0
  unfolding pieces_below
  listing_begins w l = record {
    below = omega arith;
    room = let all : bound - 0 ≡ bound = omega arith in rw all l;
    writes = writes_nothing w;
  }

  module _ {first now : Writer} {i : ℕ} (r : Listing first now i) where
    -- room for a piece more
    one_more : i < bound → most * (bound - i) ≡ most * (bound - (i + 1)) + most
    one_more l = let more : bound - i ≡ suc (bound - (i + 1)) = omega arith in ap (λ (k : ℕ). most * k) more ∙ mul-suc most (bound - (i + 1))

    pub room_here : i < bound → HasRoom now most
    room_here l = omega (arith, r.room, one_more l)

    pub listing_goes_on : {next : Writer} → i < bound → Writes now (piece i) next → Listing first next (i + 1)
    unfolding pieces_below
    listing_goes_on l w = record {
      below = omega (arith, l);
      room = omega (arith, r.room, w.same_length, w.wrote.place, short i, one_more l);
      writes = rw (add-one i) (writes_then r.writes w);
    }

    pub listing_ends : i ≡ bound → Writes first (pieces_below bound piece) now
    listing_ends e = rw e at r.writes
