-- A number that is no byte names no URL, so a request of it ends the script.
use Rattle.prelude.proofs.Kit.{ℕ, ◌≤◌, List, ◌≡◌, arith, le-ltb}
use Rattle.prelude.specs.Choice.{branch}
use Rattle.machine.specs.Policy.{url_rows, is_url}
use Rattle.machine.specs.Scripts.{requested, ended}

pub none_requested : (p : List ℕ) (n kind origin handler u via i : ℕ) (rs s : List ℕ) → 256 ≤ u → requested p n kind origin handler u via i rs s ≡ ended rs s
unfolding requested is_url branch
none_requested p n kind origin handler u via i rs s l = let above : url_rows ≤ u = omega arith in rw (le-ltb u url_rows above)
