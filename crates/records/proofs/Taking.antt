-- What a reader answers to a field: it is there, or the record is cut.
use Rattle.prelude.proofs.Kit.{ℕ, ◌<◌, ◌≤◌, List, ◌≡◌, sym, refl, lt-ltb, le-ltb, length, take, drop, length-take-le, zero-le, eqb, Bool, true, false}
use Rattle.std.specs.Prelude.{Ok, Err, replicate}
use Rattle.records.specs.declared.errors.DecodeError.TheVariants.{CutOrTooLong}
use Rattle.records.specs.Bytes.{number}
use Rattle.records.specs.Layout.{sum, split, widths}
use Rattle.records.specs.Places.{cookie_widths}
use Rattle.records.specs.Reading.{Taken, on, bytes_at, field_at, cookies_at}

pub there : (n : ℕ) (bytes : List ℕ) → n ≤ length bytes → bytes_at n bytes ≡ Ok (take n bytes, drop n bytes)
unfolding bytes_at
there n bytes l = rw (le-ltb (length bytes) n l)

pub gone : (n : ℕ) (bytes : List ℕ) → length bytes < n → bytes_at n bytes ≡ Err CutOrTooLong
unfolding bytes_at
gone n bytes l = rw (lt-ltb (length bytes) n l)

pub field_there : (n : ℕ) (bytes : List ℕ) → n ≤ length bytes → field_at n bytes ≡ Ok (number (take n bytes), drop n bytes)
unfolding field_at
field_there n bytes l = rw (there n bytes l)

pub field_gone : (n : ℕ) (bytes : List ℕ) → length bytes < n → field_at n bytes ≡ Err CutOrTooLong
unfolding field_at
field_gone n bytes l = rw (gone n bytes l)

pub cookies_there : (keys : ℕ) (bytes : List ℕ) → sum (cookie_widths keys) ≤ length bytes
    → cookies_at keys bytes ≡ Ok (split (cookie_widths keys) (take (sum (cookie_widths keys)) bytes), drop (sum (cookie_widths keys)) bytes)
unfolding cookies_at
cookies_there keys bytes l = rw (there (sum (cookie_widths keys)) bytes l)

pub cookies_gone : (keys : ℕ) (bytes : List ℕ) → length bytes < sum (cookie_widths keys) → cookies_at keys bytes ≡ Err CutOrTooLong
unfolding cookies_at
cookies_gone keys bytes l = rw (gone (sum (cookie_widths keys)) bytes l)

-- a field that is not carried has no byte
pub field_none : (bytes : List ℕ) → Ok (0, bytes) ≡ field_at 0 bytes
unfolding number
field_none bytes = sym (field_there 0 bytes zero-le)

pub cookies_none : (bytes : List ℕ) → Ok (replicate 8 0, bytes) ≡ cookies_at 0 bytes
unfolding number split cookie_widths widths
cookies_none bytes = sym (cookies_there 0 bytes zero-le)

pub on_one : (b : Bool) → eqb (on b) 1 ≡ b
on_one true = refl
on_one false = refl

module _ {n : ℕ} {from bytes rest : List ℕ} (t : Taken n from bytes rest) where
  pub taken_long : length bytes ≡ n
  taken_long = rw t.taken (length-take-le n from t.there)

  pub bytes_taken : Ok (bytes, rest) ≡ bytes_at n from
  bytes_taken = rw (t.taken, t.left) (sym (there n from t.there))

  pub field_taken : (v : ℕ) → v ≡ number bytes → Ok (v, rest) ≡ field_at n from
  field_taken v e = rw (e, t.taken, t.left) (sym (field_there n from t.there))

pub cookies_taken : (keys n : ℕ) {from bytes rest : List ℕ} (vs : List ℕ) → Taken n from bytes rest → n ≡ sum (cookie_widths keys) → vs ≡ split (cookie_widths keys) bytes
    → Ok (vs, rest) ≡ cookies_at keys from
cookies_taken keys n {from} vs t e h = rw (h, t.taken, t.left, e) (sym (cookies_there keys from (rw e at t.there)))
