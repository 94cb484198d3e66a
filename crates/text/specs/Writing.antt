-- What is written through a writer, whose buffer has the bytes before `end` written.
use Rattle.std.specs.Prelude.{ℕ, ◌+◌, ◌≤◌, ◌≡◌, List, length, take}
use Rattle.text.specs.declared.Writer.{Writer}
use Rattle.text.specs.Text.{Wrote}

abbrev pub written : Writer → List ℕ
written w = take w.end w.buffer.now

-- so many bytes have room behind what is written
abbrev pub HasRoom : Writer → ℕ → Type 0
HasRoom w n = w.end + n ≤ length w.buffer.now

-- Bytes were written behind those that were, in the same buffer, with all else as it was.
pub record Writes (before : Writer) (bytes : List ℕ) (after : Writer) : Type 0 where
  pub same_memory : after.buffer.ghost_name ≡ before.buffer.ghost_name
  pub same_length : length after.buffer.now ≡ length before.buffer.now
  pub wrote : Wrote before.buffer.now before.end bytes after.buffer.now after.end
