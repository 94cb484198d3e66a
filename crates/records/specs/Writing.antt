-- Writing from left to right into a buffer, for the contracts of the functions within the crate. Encoding is defined without this file.
use Rattle.std.specs.Prelude.{ℕ, ◌+◌, ◌≤◌, List, ◌≡◌, length}
use Rattle.std.proofs.lemmas.List.Edits.{sets}

-- there is room for some bytes from a place on
abbrev pub Room : ℕ → List ℕ → List ℕ → Type 0
Room at out bytes = at + length bytes ≤ length out

-- they were written there: the place after them, and the buffer
pub record Wrote (at : ℕ) (out bytes : List ℕ) (next : ℕ) (after : List ℕ) : Type 0 where
  pub place : next ≡ at + length bytes
  pub held : after ≡ sets out at bytes
  pub long : length after ≡ length out
