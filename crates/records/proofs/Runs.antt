-- Records written one after another. Whatever they are, the counted bytes are in the buffer, and past them it is the old one.
-- Carriable ones for which there is room are all written, so they read back.
use Rattle.prelude.proofs.Kit.{ℕ, ◌≤◌, ◌+◌, ◌-◌, ◌*◌, zero-le, arith, true, Bool, false, not, cond, List, ◌∷◌, [], ◌++◌, ◌≡◌, sym, ◌∙◌}
use Rattle.prelude.proofs.Kit.{refl, ap, T, eqb, eqb→eq, length, take, drop, length-append, length-drop, length-take-le, drop-drop}
use lib.Seq.{drop-append_seam, drop-append-add, drop_at}
use Rattle.prelude.specs.Refusals.{accepted}
use Rattle.prelude.proofs.Choices.{is_true}
use Rattle.records.specs.declared.Direction.{Direction}
use Rattle.records.specs.declared.Record.{Record}
use Rattle.records.specs.Layout.{longest}
use Rattle.records.specs.Codec.{carriable, bytes_of, Written, write_refusal, encoded, read_run, write_run, followed_by}
use Rattle.records.specs.RoundTrips.{AllEightCookies}
use Rattle.records.proofs.Encoding.{known, bytes_length, size_longest, encoded_accepted, no_write_refusal}
use Rattle.records.proofs.RoundTrips.{AllCarriable, none, more, written_room, written_carriable, run_is_read}

-- ---- what is past the counted bytes

-- what is counted is in the buffer, which keeps its length, and past it the buffer is the old one
abbrev pub Kept : List ℕ → Written → Type 0
Kept out w = (w.length ≤ length out) × (length w.buffer ≡ length out) × (drop w.length w.buffer ≡ drop w.length out)

module _ (out : List ℕ) where
  choice_kept : (b : Bool) (x y : Written) → (T b → Kept out x) → (T (not b) → Kept out y) → Kept out (cond b x y)
  choice_kept true x y f g = f tt
  choice_kept false x y f g = g tt

  followed_kept : (first rest : Written) → Kept out first → Kept (drop first.length first.buffer) rest → Kept out (followed_by first rest)
  followed_kept first rest f k =
      let n = first.length in
      let front = take n first.buffer in
      let l : rest.length ≤ length out - n = rw (length-drop n first.buffer, f.1) at k.0 in
      let s : length rest.buffer ≡ length out - n = rw (length-drop n first.buffer, f.1) at k.1 in
      let e : length front ≡ n = length-take-le n first.buffer (omega (arith, f.0, f.1)) in (
        omega (arith, f.0),
        length-append front rest.buffer ∙ omega (arith, f.0),
        ap (λ (i : ℕ). drop (i + rest.length) (front ++ rest.buffer)) (sym e)
            ∙ drop-append-add front rest.buffer rest.length ∙ k.2 ∙ ap (drop rest.length) f.2 ∙ drop-drop rest.length n out,
      )

module _ (d : Direction) where
  carriable_fits : (r : Record) → T (carriable d r) → length (bytes_of r) ≤ longest d
  carriable_fits r ok = omega (arith, bytes_length r, size_longest d r.map r.keys (known d r ok))

  pub encoded_kept : (r : Record) (out : List ℕ) → Kept out (encoded d r out)
  unfolding encoded
  encoded_kept r out = choice_kept out (eqb (write_refusal d r out) accepted) _ _ (λ t. whole (eqb→eq (write_refusal d r out) accepted t)) (λ _. (zero-le, refl, refl))
    where
      whole : write_refusal d r out ≡ accepted
          → Kept out (record { number = accepted; length = length (bytes_of r); buffer = bytes_of r ++ drop (length (bytes_of r)) out })
      whole a =
          let l : length (bytes_of r) ≤ length out = omega (arith, carriable_fits r (written_carriable d r out a), written_room d r out a) in
          (l, simp (length-append, length-drop) (omega arith), drop-append_seam (bytes_of r) (drop (length (bytes_of r)) out))

  pub run_kept : (rs : List Record) (out : List ℕ) → Kept out (write_run d rs out)
  unfolding write_run
  run_kept [] out = (zero-le, refl, refl)
  run_kept (r ∷ rs) out =
      let first = encoded d r out in
      let rest = drop first.length first.buffer in
      choice_kept out (eqb first.number accepted) (followed_by first (write_run d rs rest)) first
      (λ _. followed_kept out first (write_run d rs rest) (encoded_kept r out) (run_kept rs rest)) (λ _. encoded_kept r out)

  -- ---- carriable records

  eight_each : {rs : List Record} → AllCarriable d rs → AllEightCookies rs
  eight_each none = tt
  eight_each (more eight ok all) = (eight, eight_each all)

  -- they are all written, in no more bytes than as many of the longest
  pub all_written : {rs : List Record} → AllCarriable d rs → (out : List ℕ) → length rs * longest d ≤ length out
      → ((write_run d rs out).number ≡ accepted) × ((write_run d rs out).length ≤ length rs * longest d)
  unfolding write_run
  all_written none out l = (refl, zero-le)
  all_written (more {r} {rs} eight ok all) out l =
      let fit : length (bytes_of r) ≤ longest d = carriable_fits r ok in
      let rest = all_written all (drop (length (bytes_of r)) out) (simp length-drop (omega arith)) in
      rw (encoded_accepted d r out (no_write_refusal d r out (omega arith) (is_true (carriable d r) ok)), drop_at (bytes_of r) (drop (length (bytes_of r)) out) (length (bytes_of r)) refl)
      (rest.0, omega arith)

  -- carriable records are read back where the buffer has room for as many of the longest
  pub carriable_read : {rs : List Record} → AllCarriable d rs → (out : List ℕ) → length rs * longest d ≤ length out
      → read_run d (take (write_run d rs out).length (write_run d rs out).buffer) ≡ record { records = rs; left = [] }
  carriable_read {rs} all out l = run_is_read d rs out (eight_each all) (all_written all out l).0
