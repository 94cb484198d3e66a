-- What is answered to a list: zeros where a test refuses it, and else its counts.
use Rattle.prelude.proofs.Kit.{ℕ, ◌≤◌, ◌<◌, true, false, not, List, map, ◌≡◌, sym, ◌∙◌, ap, length, le-ltb, lt-ltb}
use Rattle.prelude.specs.Refusals.{accepted}
use Rattle.prelude.proofs.Refusals.{first_is, none_applies}
use Rattle.records.specs.declared.Direction.TheVariants.{Request}
use Rattle.records.specs.declared.Record.{Record}
use Rattle.records.specs.Codec.{read_run}
use Rattle.usage.specs.Tally.{cookies_in, requests_to, urls, counts, list_bytes, list_bad, good, list_refusals, refused, tallied, LongerIsRefused}
use Rattle.usage.proofs.Weights.{weight, one, length_weight}
use Rattle.usage.proofs.Carried.{carried}

module _ (requests : List ℕ) where
  pub too_long : list_bytes < length requests → refused list_bad ≡ tallied requests
  unfolding tallied
  too_long l = rw (first_is accepted 0 (list_refusals requests) tt (lt-ltb list_bytes (length requests) l))

  pub not_good : length requests ≤ list_bytes → good (read_run Request requests) ≡ false → refused list_bad ≡ tallied requests
  unfolding tallied
  not_good l e = rw (first_is accepted 1 (list_refusals requests) (le-ltb list_bytes (length requests) l, tt) (ap not e))

  pub all_good : length requests ≤ list_bytes → good (read_run Request requests) ≡ true → counts (read_run Request requests).records ≡ tallied requests
  unfolding tallied
  all_good l e = rw (none_applies accepted (list_refusals requests) (le-ltb list_bytes (length requests) l, (ap not e, tt)))

-- counts by weight
pub weighed : (rs : List Record) {by carried_by : List ℕ} {n m : ℕ}
    → by ≡ map (λ u. weight one (requests_to u rs)) urls
    → carried_by ≡ map (λ u. weight carried (requests_to u rs)) urls
    → n ≡ weight one rs
    → m ≡ weight carried rs
    → record { number = accepted; records = by; cookies = carried_by; all_records = n; all_cookies = m } ≡ counts rs
unfolding counts cookies_in
weighed rs {by} {carried_by} {n} {m} eb ec en em =
    let same : map (λ u. weight one (requests_to u rs)) urls ≡ map (λ u. length (requests_to u rs)) urls = λ i. map (λ u. length_weight (requests_to u rs) i) urls in
    let records = eb ∙ same in
    let total = en ∙ length_weight rs in
    λ i. record { number = accepted; records = records i; cookies = ec i; all_records = total i; all_cookies = em i }

pub longer_is_refused : LongerIsRefused
longer_is_refused requests l = sym (too_long requests l)
