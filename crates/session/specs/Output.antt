-- The output buffer while requests are written into it: how many bytes are written, and the whole buffer.
use Rattle.std.specs.Prelude.{ℕ, ◌+◌, List, [], ◌∷◌, ◌++◌, take, drop}
use Rattle.records.specs.declared.Direction.TheVariants.{Request}
use Rattle.records.specs.declared.Record.{Record}
use Rattle.records.specs.Codec.{encoded}

pub record Output : Type 0 where
  pub at : ℕ
  pub buffer : List ℕ

abbrev pub output : ℕ → List ℕ → Output
output at buffer = record { at = at; buffer = buffer }

-- a request is written into the part of the buffer that follows the last one
unfoldable pub write_next : Record → Output → Output
write_next r o =
    let written = encoded Request r (drop o.at o.buffer) in
    output (o.at + written.length) (take o.at o.buffer ++ written.buffer)

-- one after another
unfoldable pub write_each : List Record → Output → Output
write_each [] o = o
write_each (r ∷ rs) o = write_each rs (write_next r o)
