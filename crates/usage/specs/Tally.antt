-- The tally of requests (document 01, "A tally of requests"): of a list of request records one after another, how many each URL has and how many
-- cookies they carry, and both in all.
use Rattle.std.specs.Prelude.{ℕ, ◌<◌, Bool, not, ◌&&◌, cond, List, [], ◌∷◌, map, ◌≡◌, ltb, eqb, length, replicate}
use Rattle.prelude.specs.Choice.{keep, every}
use Rattle.prelude.specs.Lists.{numbers}
use Rattle.prelude.specs.Refusals.{accepted, Refusal, refuse, first_of}
use Rattle.records.specs.declared.Direction.TheVariants.{Request}
use Rattle.records.specs.declared.Record.{Record}
use Rattle.records.specs.Layout.{sum}
use Rattle.records.specs.Codec.{Run, read_run}
use Rattle.machine.specs.Policy.{url_rows, is_connection}
use Rattle.machine.specs.Scripts.{is_script}
use Rattle.machine.specs.Machine.{cookies_of}
use Rattle.usage.specs.declared.Tally.{Tally}

-- ---- what is counted

-- the cookies of some requests, each counted by itself
unfoldable pub cookies_in : List Record → ℕ
cookies_in rs = sum (map (λ r. length (cookies_of r)) rs)

-- the requests to a URL
unfoldable pub requests_to : ℕ → List Record → List Record
requests_to u rs = keep (λ r. eqb r.url u) rs

-- every URL that there can be, in rising order
unfoldable pub urls : List ℕ
urls = numbers 0 url_rows

-- for each URL its requests and their cookies; the totals are those of the whole list
unfoldable pub counts : List Record → Tally
counts rs = record {
  number = accepted;
  records = map (λ u. length (requests_to u rs)) urls;
  cookies = map (λ u. cookies_in (requests_to u rs)) urls;
  all_records = length rs;
  all_cookies = cookies_in rs;
}

-- ---- which lists are counted

-- the request names a URL, a connection and a handler that there can be; where it carries no handler that field is 0
abbrev pub in_range : Record → Bool
in_range r = ltb r.url url_rows && (is_connection r.connection && is_script r.script)

abbrev pub all_in_range : List Record → Bool
all_in_range rs = every in_range rs

-- the longest list
abbrev pub list_bytes : ℕ
list_bytes = 65536

-- the number of a list that is refused
abbrev pub list_bad : ℕ
list_bad = 13

-- wholly requests, since nothing is left, and each in range
unfoldable pub good : Run → Bool
good run = eqb (length run.left) 0 && all_in_range run.records

-- 13: the list is longer, or is not wholly request records that are in range
abbrev pub list_refusals : List ℕ → List (Refusal ℕ)
list_refusals requests =
    refuse list_bad (ltb list_bytes (length requests))
    ∷ refuse list_bad (not (good (read_run Request requests)))
    ∷ []

-- a refused list: every count is 0
abbrev pub refused : ℕ → Tally
refused n = record { number = n; records = replicate url_rows 0; cookies = replicate url_rows 0; all_records = 0; all_cookies = 0 }

unfoldable pub tallied : List ℕ → Tally
tallied requests =
    let n = first_of (list_refusals requests) accepted in
    cond (eqb n accepted) (counts (read_run Request requests).records) (refused n)

-- The limit, in numbers: whatever a list of more than 65,536 bytes holds, it gets 13 and zeros. (No worked case has such a list.)
abbrev pub LongerIsRefused : Type 0
LongerIsRefused = (requests : List ℕ) → 65536 < length requests → tallied requests ≡ refused 13
