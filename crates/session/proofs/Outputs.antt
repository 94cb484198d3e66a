-- Requests written one after another into an output: what a lent part of the buffer makes of the whole, and that they make the bytes of
-- a run of records.
use Rattle.prelude.proofs.Kit.{ℕ, ◌≤◌, ◌+◌, ◌-◌, add-zero, zero-add, arith, List, ◌∷◌, [], ◌++◌, append_assoc, append-nil, ◌≡◌, sym, ◌∙◌}
use Rattle.prelude.proofs.Kit.{ap, length, take, drop, length-append, length-drop, drop_of_length-le, take_all}
use native.Mathlib.Nat.{add_assoc}
use borrow.Rule.Slice.PartMut.{put_mid}
use lib.Seq.{take-append_seam, drop-append_seam}
use Rattle.prelude.specs.Refusals.{accepted}
use Rattle.records.specs.declared.Direction.TheVariants.{Request}
use Rattle.records.specs.declared.Record.{Record}
use Rattle.records.specs.Codec.{bytes_of, Written, write_refusal, encoded, write_run}
use Rattle.records.proofs.Encoding.{encoded_accepted}
use Rattle.records.proofs.RoundTrips.{after, first_accepted, first_written}
use Rattle.records.proofs.Runs.{encoded_kept}
use Rattle.session.specs.Output.{output, write_next, write_each}

-- ---- one request

module _ (r : Record) (out : List ℕ) (at : ℕ) (l : at ≤ length out) where
  abbrev part : List ℕ
  part = take (length out - at) (drop at out)

  part_is : part ≡ drop at out
  part_is = take_all (length out - at) (drop at out) (simp length-drop (omega arith))

  -- the code's answer and the last value of the part that it lent
  module _ (w : Written) (e : w ≡ encoded Request r part) where
    pub next_room : at + w.length ≤ length out
    next_room = rw e (omega (arith, (encoded_kept Request r part).0, ap length part_is ∙ length-drop at out))

    pub next_written : output (at + w.length) (put_mid at (length out - at) out w.buffer) ≡ write_next r (output at out)
    unfolding write_next
    next_written = rw (drop_of_length-le (drop at out) {i = length out - at} (simp length-drop (omega arith)), append-nil w.buffer, e, part_is)

-- ---- a run of requests

first_next : (r : Record) (front rest : List ℕ) → write_refusal Request r rest ≡ accepted
    → write_next r (output (length front) (front ++ rest)) ≡ output (length (front ++ bytes_of r)) ((front ++ bytes_of r) ++ drop (length (bytes_of r)) rest)
unfolding write_next
first_next r front rest e =
    rw (drop-append_seam front rest, take-append_seam front rest, encoded_accepted Request r rest e, length-append front (bytes_of r), append_assoc front (bytes_of r) (drop (length (bytes_of r)) rest))

each_run : (rs : List Record) (front rest : List ℕ) → (write_run Request rs rest).number ≡ accepted
    → write_each rs (output (length front) (front ++ rest)) ≡ output (length front + (write_run Request rs rest).length) (front ++ (write_run Request rs rest).buffer)
unfolding write_each write_run after
each_run [] front rest e = ap (λ (n : ℕ). output n (front ++ rest)) (sym (add-zero (length front)))
each_run (r ∷ rs) front rest e =
    let a = first_accepted Request r rs rest e in
    let w = first_written Request r rs rest a in
    let b = bytes_of r in
    let others = write_run Request rs (drop (length b) rest) in
    ap (write_each rs) (first_next r front rest a)
    ∙ each_run rs (front ++ b) (drop (length b) rest) (sym (ap (λ (x : Written). x.number) w) ∙ e)
    ∙ rw (w, length-append front b, add_assoc (length front) (length b) others.length, append_assoc front b others.buffer)

-- from the front of a buffer
pub written_run : (rs : List Record) (out : List ℕ) → (write_run Request rs out).number ≡ accepted
    → write_each rs (output 0 out) ≡ output (write_run Request rs out).length (write_run Request rs out).buffer
written_run rs out e = each_run rs [] out e ∙ ap (λ (n : ℕ). output n (write_run Request rs out).buffer) (zero-add _)
