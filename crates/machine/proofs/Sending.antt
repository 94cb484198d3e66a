-- Every request that a call sends is carriable, and no call sends more than there is room for, so the counted bytes read back as the
-- requests sent.
use Rattle.prelude.proofs.Kit.{ℕ, ◌≤◌, ◌<◌, ◌^◌, ◌*◌, zero-lt-suc, arith, not, List, ◌∷◌, [], map, ◌≡◌, refl, T, eqb, ltb, eqb→eq}
use Rattle.prelude.proofs.Kit.{ltb→lt, length, are_bytes}
use native.Mathlib.Nat.{one-le-pow, mul-le-mul_right, le_trans}
use Rattle.prelude.specs.Choice.{branch}
use Rattle.prelude.proofs.Choices.{parts, one}
use Rattle.records.specs.declared.Direction.TheVariants.{Request}
use Rattle.records.specs.declared.Record.{Record}
use Rattle.records.specs.Bytes.{bit}
use Rattle.records.specs.Layout.{key_numbers, document_request, script_request, picture_request, with_cookies, longest, widths, values}
use Rattle.records.specs.Codec.{is_one_of, no_key_set, carriable}
use Rattle.records.specs.RoundTrips.{EightCookies}
use Rattle.records.proofs.RoundTrips.{AllCarriable, none, more}
use Rattle.records.proofs.Carriable.{Fit, carriable_by}
use Rattle.records.proofs.Runs.{carriable_read}
use Rattle.machine.specs.Policy.{host_keys, connections, cookie_index, url_host}
use Rattle.machine.specs.Session.{cookie_value, key_map, has, script_kind, plain_request, attaches, request_map, request, Effects}
use Rattle.machine.specs.Scripts.{step_limit, stopped}
use Rattle.machine.specs.Machine.{outcome, feed}
use Rattle.machine.specs.Guarantees.{are_words, SentReadsBack}
use Rattle.machine.proofs.Lists.{Each}
use Rattle.machine.proofs.KeyMaps.{has_map, map_below_lem}
use Rattle.machine.proofs.Accepted.{either_way}
use Rattle.machine.proofs.SoundStates.{Sound, open_fields, fields_bytes, no_handler}
use Rattle.machine.proofs.WordSizes.{Word, words_good}

-- ---- a request

module _ (p s : List ℕ) (n kind handler u : ℕ) (values-small : (k : ℕ) → k < host_keys → cookie_value s (cookie_index (url_host p u) k) < 2 ^ 32)
    (lu : u < 256) (ln : n < 256) (lh : handler < 256) (bare : T (not (eqb kind script_kind)) → handler ≡ 0) where
  abbrev keys : ℕ
  keys = key_map (attaches p s u)

  abbrev cookie : ℕ → ℕ
  cookie k = branch (attaches p s u k) (cookie_value s (cookie_index (url_host p u) k)) 0

  abbrev made : ℕ → Record
  made m = record { map = m; url = u; connection = n; keys = keys; cookies = map cookie key_numbers; script = handler; value = 0; target = 0 }

  abbrev Carried : ℕ → Type 0
  Carried m = T (carriable Request (made m))

  -- an attached cookie has its four bytes, and any other is 0
  cookie_fits : (k : ℕ) → k < host_keys → cookie k < 256 ^ (4 * bit keys k)
  unfolding has
  cookie_fits k l =
      one (λ (v : ℕ). v < 256 ^ (4 * bit keys k)) (attaches p s u k)
      (λ t. let e : bit keys k ≡ 1 = eqb→eq (bit keys k) 1 (rw (has_map host_keys (attaches p s u) k l) t) in rw e (values-small k l))
      (λ _. one-le-pow (4 * bit keys k) 256 (zero-lt-suc 255))

  cookies_fit : Fit (map (λ k. 4 * bit keys k) key_numbers) (map cookie key_numbers)
  cookies_fit =
      let c : (k : ℕ) → T (ltb k host_keys) → cookie k < 256 ^ (4 * bit keys k) = λ k t. cookie_fits k (ltb→lt k host_keys t) in
      (c 0 tt, (c 1 tt, (c 2 tt, (c 3 tt, (c 4 tt, (c 5 tt, (c 6 tt, (c 7 tt, tt))))))))

  request_carriable : T (carriable Request (request p s n kind handler u))
  unfolding request request_map plain_request is_one_of no_key_set widths values
  request_carriable =
      let cs = cookies_fit in
      let l : keys < 256 = map_below_lem host_keys (attaches p s u) in
      let zero-keys : T (eqb keys 0) → keys ≡ 0 = eqb→eq keys 0 in
      one Carried _
      (λ z. one Carried _ (λ _. carriable_by Request (made script_request) tt tt (omega (arith, zero-keys z)))
      (λ t. one Carried _ (λ _. carriable_by Request (made picture_request) tt tt (omega (arith, zero-keys z, bare t)))
      (λ _. carriable_by Request (made document_request) tt tt (omega (arith, zero-keys z, bare t)))))
      (λ z. one (λ m. Carried (with_cookies m)) _ (λ _. carriable_by Request (made (with_cookies script_request)) tt z (omega arith))
      (λ t. one (λ m. Carried (with_cookies m)) _ (λ _. carriable_by Request (made (with_cookies picture_request)) tt z (omega (arith, bare t)))
      (λ _. carriable_by Request (made (with_cookies document_request)) tt z (omega (arith, bare t)))))

-- ---- a call

-- a request that encoding accepts
abbrev Writable : Record → Type 0
Writable r = EightCookies r × T (carriable Request r)

writable : (p s : List ℕ) (n k o h u : ℕ) → Sound p Word s → n < connections → T (open_fields p n k o h u) → Writable (request p s n k h u)
unfolding request
writable p s n k o h u good l t =
    let (lo, lh, lu) = fields_bytes p n k o h u t in
    (refl, request_carriable p s n k h u (λ j lj. good.values (cookie_index (url_host p u) j) (omega arith)) lu (omega arith) lh (no_handler p k o h (search parts)))

all_carriable : (rs : List Record) → Each Writable rs → AllCarriable Request rs
all_carriable [] all = none
all_carriable (r ∷ rs) all = more all.0.0 all.0.1 (all_carriable rs all.1)

-- what is sent can be written, there is room for it, and it is no more than the steps of a script
abbrev Fits : List ℕ → Effects → Type 0
Fits out e = AllCarriable Request e.sent × (length e.sent * longest Request ≤ length out) × (length e.sent ≤ step_limit)

pub sent_fits : (p scripts s bytes out : List ℕ) → T (are_bytes scripts) → T (are_words s) → T (are_bytes bytes) → Fits out (outcome p scripts s bytes out).effects
unfolding stopped
sent_fits p scripts s bytes out ts ws bs =
    either_way (Fits out) p scripts s bytes out
    (λ ok.
    let (_, sent, few) = words_good p Writable (writable p) scripts s bytes out ts ws bs ok in
    (all_carriable _ sent, le_trans (mul-le-mul_right (longest Request) few) ok.room, few))
    (none, omega arith, omega arith)

pub sent_reads_back : SentReadsBack
unfolding feed
sent_reads_back p scripts s bytes out ts ws bs =
    let f = sent_fits p scripts s bytes out ts ws bs in
    carriable_read Request f.0 out f.1
