-- What reach prints (document 01, "A reach table").
use Rattle.std.specs.Prelude.{ℕ, ◌+◌, ◌*◌, cond, List, [], ◌∷◌, ◌++◌, eqb, get_or}
use Rattle.prelude.specs.Refusals.{accepted}
use Rattle.text.specs.Text.{ascii, decimal, line, pieces_below}
use Rattle.machine.specs.Policy.{connections}
use Rattle.transcript.specs.Input.{policy_in}
use Rattle.reach_table.specs.declared.ReachTable.{ReachTable}
use Rattle.reach_table.specs.Reach.{tabled}

-- connection, and how many URLs it reaches
abbrev pub line_text : List ℕ → ℕ → List ℕ
line_text urls n = line (decimal n ∷ decimal (get_or urls n 0) ∷ [])

-- `all` and the total
abbrev pub last_line : ℕ → List ℕ
last_line all = line (ascii "all" ∷ decimal all ∷ [])

-- a line for each connection, in rising order, and the last; or the number alone of a policy that is refused
unfoldable pub report : ReachTable → List ℕ
report t =
    cond (eqb t.number accepted)
    (pieces_below connections (line_text t.urls) ++ last_line t.all)
    (line (decimal t.number ∷ []))

-- all that is printed of an input
abbrev pub printed : List ℕ → List ℕ
printed input = report (tabled (policy_in input))

-- ---- for the contracts of the functions within the crate

-- room for a line: two numbers of at most ten digits, each with the byte that ends it
abbrev pub line_room : ℕ
line_room = 22

-- room for the last line: a word of three letters and such a number
abbrev pub last_room : ℕ
last_room = 15

abbrev pub report_room : ℕ
report_room = line_room * connections + last_room
