-- Worked cases of the tally: lists with all that is answered.
use Rattle.std.specs.Prelude.{ℕ, Bool, ◌&&◌, List, [], ◌∷◌, ◌++◌, T, replicate}
use Rattle.prelude.specs.Choice.{every}
use Rattle.prelude.specs.Lists.{same_numbers}
use Rattle.records.specs.Layout.{sum}
use Rattle.machine.specs.ExampleLists.{sent_with_hidden, sent_with_hidden_picture}
use Rattle.usage.specs.Tally.{list_bad, tallied}
use Rattle.usage.specs.Lines.{Line, lines}

-- What a list is answered: the number, the lines as URL, records and cookies, and both totals, which are also the sums of all counts. So every
-- count of a refused list is 0.
pub record Case : Type 0 where
  pub requests : List ℕ
  pub number : ℕ
  pub lines : List ℕ
  pub totals : List ℕ

abbrev pub counted : List ℕ → List ℕ → List ℕ → Case
counted requests lines totals = record { requests = requests; number = 0; lines = lines; totals = totals }

abbrev pub bad : List ℕ → Case
bad requests = record { requests = requests; number = list_bad; lines = []; totals = 0 ∷ 0 ∷ [] }

unfoldable pub numbers_of : List Line → List ℕ
numbers_of [] = []
numbers_of (l ∷ ls) = l.url ∷ l.records ∷ l.cookies ∷ numbers_of ls

unfoldable pub gives : Case → Bool
gives c =
    let t = tallied c.requests in
    same_numbers (t.number ∷ []) (c.number ∷ [])
    && (same_numbers (numbers_of (lines t)) c.lines
    && (same_numbers (t.all_records ∷ t.all_cookies ∷ []) c.totals
    && same_numbers (sum t.records ∷ sum t.cookies ∷ []) c.totals))

abbrev pub tally_cases : List Case
tally_cases =
    -- no request; one without cookies; one of key map 07, whose cookies are counted singly
    counted [] [] (0 ∷ 0 ∷ [])
    ∷ counted (0x03 ∷ 0x05 ∷ 0x02 ∷ []) (5 ∷ 1 ∷ 0 ∷ []) (1 ∷ 0 ∷ [])
    ∷ counted (0x07 ∷ 0x00 ∷ 0x00 ∷ 0x07 ∷ replicate 12 0xff) (0 ∷ 1 ∷ 3 ∷ []) (1 ∷ 3 ∷ [])
    -- what a session sent (the first list of SecrecyExamples): URLs in rising order, each with all of its requests
    ∷ counted sent_with_hidden (0 ∷ 2 ∷ 1 ∷ 1 ∷ 2 ∷ 1 ∷ 2 ∷ 1 ∷ 1 ∷ []) (5 ∷ 3 ∷ [])
    -- a document's, a script's and a picture's requests to one URL, and a picture's to another; what a session with pictures sent
    ∷ counted (
    0x03 ∷ 0x05 ∷ 0x02
    ∷ 0x0f ∷ 0x05 ∷ 0x02 ∷ 0x01 ∷ 0x00 ∷ 0x00 ∷ 0x00 ∷ 0x09 ∷ 0x0f
    ∷ 0x43 ∷ 0x05 ∷ 0x02
    ∷ 0x47 ∷ 0x03 ∷ 0x02 ∷ 0x81 ∷ 0x00 ∷ 0x00 ∷ 0x00 ∷ 0x09 ∷ 0x00 ∷ 0x00 ∷ 0x00 ∷ 0x08
    ∷ []) (3 ∷ 1 ∷ 2 ∷ 5 ∷ 3 ∷ 1 ∷ []) (4 ∷ 3 ∷ [])
    ∷ counted sent_with_hidden_picture (0 ∷ 2 ∷ 0 ∷ 1 ∷ 3 ∷ 1 ∷ []) (5 ∷ 1 ∷ [])
    -- the last URL, connection and handler; all eight keys
    ∷ counted (0x0b ∷ 0x3f ∷ 0x1f ∷ 0x0f ∷ []) (63 ∷ 1 ∷ 0 ∷ []) (1 ∷ 0 ∷ [])
    ∷ counted (0x0f ∷ 0x3f ∷ 0x1f ∷ 0xff ∷ (replicate 32 0x00 ++ (0x0f ∷ []))) (63 ∷ 1 ∷ 8 ∷ []) (1 ∷ 8 ∷ [])
    ∷ counted (0x47 ∷ 0x3f ∷ 0x1f ∷ 0xff ∷ replicate 32 0x00) (63 ∷ 1 ∷ 8 ∷ []) (1 ∷ 8 ∷ [])
    -- out of range: URL 64, connection 32, handler 16; also where all others are in range
    ∷ bad (0x03 ∷ 0x40 ∷ 0x00 ∷ [])
    ∷ bad (0x03 ∷ 0x00 ∷ 0x20 ∷ [])
    ∷ bad (0x0b ∷ 0x00 ∷ 0x00 ∷ 0x10 ∷ [])
    ∷ bad (0x43 ∷ 0x40 ∷ 0x00 ∷ [])
    ∷ bad (0x43 ∷ 0x00 ∷ 0x20 ∷ [])
    ∷ bad (0x03 ∷ 0x00 ∷ 0x00 ∷ 0x03 ∷ 0x40 ∷ 0x00 ∷ 0x03 ∷ 0x00 ∷ 0x00 ∷ [])
    -- not wholly requests: cut in the front, before the key map, in the values, before the handler; a byte too many
    ∷ bad (0x03 ∷ 0x00 ∷ [])
    ∷ bad (0x43 ∷ 0x00 ∷ [])
    ∷ bad (0x07 ∷ 0x00 ∷ 0x00 ∷ [])
    ∷ bad (0x07 ∷ 0x00 ∷ 0x00 ∷ 0x01 ∷ 0x00 ∷ 0x00 ∷ 0x00 ∷ [])
    ∷ bad (0x0b ∷ 0x00 ∷ 0x00 ∷ [])
    ∷ bad (0x03 ∷ 0x00 ∷ 0x00 ∷ 0x03 ∷ [])
    -- a picture's request has no handler, so that what follows it is a record of its own
    ∷ bad (0x43 ∷ 0x00 ∷ 0x00 ∷ 0x0f ∷ [])
    -- a key map of zero; the map of an input; no map
    ∷ bad (0x07 ∷ 0x00 ∷ 0x00 ∷ 0x00 ∷ [])
    ∷ bad (0x13 ∷ 0x00 ∷ 0x00 ∷ 0x00 ∷ 0x00 ∷ 0x00 ∷ 0x07 ∷ [])
    ∷ bad (0x00 ∷ 0x00 ∷ 0x00 ∷ [])
    ∷ []

abbrev pub TallyCases : Type 0
TallyCases = T (every gives tally_cases)
