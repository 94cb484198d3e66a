-- What tally prints (document 01, "A tally of requests").
use Rattle.std.specs.Prelude.{ℕ, ◌+◌, ◌*◌, cond, List, [], ◌∷◌, ◌++◌, eqb}
use Rattle.prelude.specs.Choice.{branch}
use Rattle.prelude.specs.Refusals.{accepted}
use Rattle.machine.specs.Policy.{url_rows}
use Rattle.text.specs.Text.{decimal, line}
use Rattle.usage.specs.declared.Tally.{Tally}
use Rattle.usage.specs.Tally.{tallied}
use Rattle.usage.specs.Lines.{Line, has_any, lines}

-- URL, records, cookies
abbrev pub line_text : Line → List ℕ
line_text l = line (decimal l.url ∷ decimal l.records ∷ decimal l.cookies ∷ [])

unfoldable pub lines_text : List Line → List ℕ
lines_text [] = []
lines_text (l ∷ ls) = line_text l ++ lines_text ls

-- `all` and both totals
abbrev pub last_line : ℕ → ℕ → List ℕ
last_line records cookies = line ((0x61 ∷ 0x6c ∷ 0x6c ∷ []) ∷ decimal records ∷ decimal cookies ∷ [])

-- `bad`, of a list that is refused
abbrev pub bad_line : List ℕ
bad_line = line ((0x62 ∷ 0x61 ∷ 0x64 ∷ []) ∷ [])

unfoldable pub report : Tally → List ℕ
report t = cond (eqb t.number accepted) (lines_text (lines t) ++ last_line t.all_records t.all_cookies) bad_line

-- all that is printed of a list of requests
abbrev pub printed : List ℕ → List ℕ
printed requests = report (tallied requests)

-- ---- for the contracts of the functions within the crate

-- the line of a URL that has any request; of another, nothing
abbrev pub line_if_any : Line → List ℕ
line_if_any l = branch (has_any l) (line_text l) []

-- room for a line: three numbers of at most ten digits, each with the byte that ends it
abbrev pub line_room : ℕ
line_room = 33

-- room for the last line: a word of three letters and two such numbers
abbrev pub last_room : ℕ
last_room = 26

abbrev pub report_room : ℕ
report_room = url_rows * line_room + last_room
