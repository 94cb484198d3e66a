-- How many bytes groups of fields have, for the contracts of the functions within the crate. Decoding and encoding are defined without this file.
use Rattle.std.specs.Prelude.{ℕ, List, take, drop}
use Rattle.records.specs.Layout.{widths}

-- the bytes of the fields before the cookie values, of those values, and of the fields after them; the last part of the layout has none
unfoldable pub front_widths : ℕ → List ℕ
front_widths m = take 3 (widths m 0)

unfoldable pub cookie_widths : ℕ → List ℕ
cookie_widths keys = take 8 (drop 3 (widths 0 keys))

unfoldable pub back_widths : ℕ → List ℕ
back_widths m = take 3 (drop 11 (widths m 0))
