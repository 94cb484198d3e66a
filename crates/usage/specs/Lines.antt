-- The lines of a tally: one for each URL that has any request. And what they say of the list that was counted.
use Rattle.std.specs.Prelude.{ℕ, Bool, List, map, ◌≡◌, ltb, length, get_or}
use Rattle.prelude.specs.Choice.{keep}
use Rattle.prelude.specs.Refusals.{accepted}
use Rattle.records.specs.declared.Direction.TheVariants.{Request}
use Rattle.records.specs.declared.Record.{Record}
use Rattle.records.specs.Layout.{sum}
use Rattle.records.specs.Codec.{read_run}
use Rattle.usage.specs.declared.Tally.{Tally}
use Rattle.usage.specs.Tally.{cookies_in, requests_to, urls, tallied}

pub record Line : Type 0 where
  pub url : ℕ
  pub records : ℕ
  pub cookies : ℕ

-- the figures of a URL among those of all
abbrev pub line_of : List ℕ → List ℕ → ℕ → Line
line_of records cookies u = record { url = u; records = get_or records u 0; cookies = get_or cookies u 0 }

abbrev pub has_any : Line → Bool
has_any l = ltb 0 l.records

-- a line for each URL that has any request, in rising order
unfoldable pub lines_of : List ℕ → List ℕ → List Line
lines_of records cookies = keep has_any (map (line_of records cookies) urls)

abbrev pub lines : Tally → List Line
lines t = lines_of t.records t.cookies

-- ---- what they say

-- the requests to a URL and their cookies, counted in the list itself
abbrev pub figures : List Record → ℕ → Line
figures rs u = record { url = u; records = length (requests_to u rs); cookies = cookies_in (requests_to u rs) }

-- Each line has the figures of the requests to its URL, and each URL with a request has its line: the lines of a list that is not refused are, for
-- each URL that has a request and in rising order, the figures of its requests.
abbrev pub LinesAreFigures : Type 0
LinesAreFigures =
    (requests : List ℕ) → (tallied requests).number ≡ accepted
    → lines (tallied requests) ≡ keep has_any (map (figures (read_run Request requests).records) urls)

-- The totals of a list that is not refused are the number of its requests and of their cookies, and the lines add up to them.
abbrev pub LinesAddUp : Type 0
LinesAddUp =
    (requests : List ℕ) → (tallied requests).number ≡ accepted
    → let all = (read_run Request requests).records in
    let t = tallied requests in
    (t.all_records ≡ length all)
    × (t.all_cookies ≡ cookies_in all)
    × (sum (map (λ l. l.records) (lines t)) ≡ length all)
    × (sum (map (λ l. l.cookies) (lines t)) ≡ cookies_in all)
