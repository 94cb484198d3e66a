-- The loop over a list of requests: what is counted so far, and what the rest of the list has, make the whole.
use Rattle.prelude.proofs.Kit.{ℕ, ◌≤◌, ◌<◌, ◌+◌, ◌*◌, zero-add, arith, true, Bool, false, ◌&&◌, List, ◌∷◌, [], map, ◌≡◌, sym, ◌∙◌}
use Rattle.prelude.proofs.Kit.{refl, ap, T, eqb, ltb, ltb→lt, and_l, length, drop, get_or, set, length-set, eq-eqb, subst, true≢false, ne_eqb, drop_of_length-le}
use mathlib.Core.Bool.{and-false}
use lib.ListN.{replicate, length-replicate, get_or-replicate}
use lib.Seq.{get_or-set_same, get_or-set_other, ext_get_or}
use borrow.Author.Tests.{eqb-true}
use Rattle.prelude.specs.Choice.{keep, every}
use Rattle.prelude.specs.Lists.{numbers}
use Rattle.prelude.specs.Refusals.{accepted}
use Rattle.records.specs.declared.Direction.TheVariants.{Request}
use Rattle.std.specs.Prelude.{Ok}
use Rattle.records.specs.declared.First.{First as FirstRead}
use Rattle.records.specs.Answers.{First}
use Rattle.records.specs.Results.{first_as}
use Rattle.records.specs.declared.Record.{Record}
use Rattle.records.specs.Codec.{decoded_first, Run, read_run}
use Rattle.records.proofs.ReadRuns.{followed, nothing, first_bytes, first_size, run_end, run_none, run_more}
use Rattle.machine.specs.Policy.{url_rows, is_connection}
use Rattle.machine.specs.Scripts.{is_script}
use Rattle.usage.specs.Tally.{requests_to, urls, in_range, all_in_range, good}
use Rattle.usage.proofs.Weights.{weight, one, at_url, to_it, to_another, part_weighs}
use Rattle.usage.proofs.Carried.{carried, none_carried, records_weigh, cookies_weigh}

module _ (w : Record → ℕ) where
  -- of the requests of a list, `rest` are still to be counted
  pub record Counted (all rest : List Record) (counts : List ℕ) (total : ℕ) : Type 0 where
    pub rows : length counts ≡ url_rows
    pub each : (u : ℕ) → u < url_rows → get_or counts u 0 + weight w (requests_to u rest) ≡ weight w (requests_to u all)
    pub whole : total + weight w rest ≡ weight w all

  counted_begins : (all : List Record) → Counted all all (replicate url_rows 0) 0
  counted_begins all = record {
    rows = length-replicate {A = ℕ} url_rows 0;
    each = λ u l. omega (arith, get_or-replicate {A = ℕ} url_rows u 0 0 l);
    whole = zero-add (weight w all);
  }

  module _ {all rest : List Record} {r : Record} {counts : List ℕ} {total : ℕ} (c : Counted all (r ∷ rest) counts total) (url : r.url < url_rows) where
    own : get_or counts r.url 0 + (w r + weight w (requests_to r.url rest)) ≡ weight w (requests_to r.url all)
    own = ap (λ (n : ℕ). get_or counts r.url 0 + n) (sym (to_it w r rest r.url (eq-eqb r.url r.url refl))) ∙ c.each r.url url

    -- no count passes what the whole list weighs
    counts_fit : (get_or counts r.url 0 + w r ≤ weight w all) × (total + w r ≤ weight w all)
    counts_fit = (omega (arith, own, part_weighs w r.url all), omega (arith, c.whole))

    counted_goes_on : Counted all rest (set counts r.url (get_or counts r.url 0 + w r)) (total + w r)
    counted_goes_on = record {
      rows = length-set counts r.url (get_or counts r.url 0 + w r) ∙ c.rows;
      each = λ u l. go u l (eqb r.url u) refl;
      whole = omega (arith, c.whole);
    }
      where
        after : List ℕ
        after = set counts r.url (get_or counts r.url 0 + w r)

        go : (u : ℕ) → u < url_rows → (b : Bool) → eqb r.url u ≡ b → get_or after u 0 + weight w (requests_to u rest) ≡ weight w (requests_to u all)
        go u l true e =
            subst (λ (k : ℕ). get_or after k 0 + weight w (requests_to k rest) ≡ weight w (requests_to k all)) (eqb-true r.url u e)
            (omega (arith, own, get_or-set_same counts r.url (get_or counts r.url 0 + w r) 0 (omega (arith, c.rows, url))))
        go u l false e =
            let other = get_or-set_other counts r.url u (get_or counts r.url 0 + w r) 0 (λ q. true≢false (sym (eq-eqb r.url u (sym q)) ∙ e)) in
            omega (arith, other, c.each u l, to_another w r rest u e)

  -- a request that weighs nothing may be passed over
  counted_passes : {all rest : List Record} {r : Record} {counts : List ℕ} {total : ℕ} → w r ≡ 0 → Counted all (r ∷ rest) counts total → Counted all rest counts total
  counted_passes {all} {rest} {r} {counts} {total} none c = record {
    rows = c.rows;
    each = λ u l. go u l (eqb r.url u) refl;
    whole = omega (arith, c.whole, none);
  }
    where
      go : (u : ℕ) → u < url_rows → (b : Bool) → eqb r.url u ≡ b → get_or counts u 0 + weight w (requests_to u rest) ≡ weight w (requests_to u all)
      go u l true e = omega (arith, c.each u l, to_it w r rest u e, none)
      go u l false e = omega (arith, c.each u l, to_another w r rest u e)

  counted_ends : {all : List Record} {counts : List ℕ} {total : ℕ} → Counted all [] counts total
      → (counts ≡ map (λ u. weight w (requests_to u all)) urls) × (total ≡ weight w all)
  unfolding urls numbers requests_to keep
  counted_ends {all} {counts} {total} c = (
    ext_get_or 0 counts (map (λ u. weight w (requests_to u all)) urls) c.rows
        (λ i l. here i (omega (arith, l, c.rows))),
    omega (arith, c.whole),
  )
    where
      here : (i : ℕ) → i < url_rows → get_or counts i 0 ≡ get_or (map (λ u. weight w (requests_to u all)) urls) i 0
      here i l = omega (arith, c.each i l, at_url (λ u. weight w (requests_to u all)) i l)

-- ---- the list of bytes

-- the requests that are left to count are read off the bytes that are left
pub record Counting (requests by_url carried_by_url : List ℕ) (records_in_all cookies_in_all : ℕ) (left : List ℕ) : Type 0 where
  pub same : good (read_run Request left) ≡ good (read_run Request requests)
  pub records : Counted one (read_run Request requests).records (read_run Request left).records by_url records_in_all
  pub cookies : Counted carried (read_run Request requests).records (read_run Request left).records carried_by_url cookies_in_all

module _ {requests : List ℕ} where
  pub counting_begins : Counting requests (replicate url_rows 0) (replicate url_rows 0) 0 0 requests
  counting_begins =
      let all = (read_run Request requests).records in
      record { same = refl; records = counted_begins one all; cookies = counted_begins carried all }

  module _ {by_url carried_by_url left : List ℕ} {records_in_all cookies_in_all : ℕ} (c : Counting requests by_url carried_by_url records_in_all cookies_in_all left) where
    -- nothing is left of the bytes
    pub counting_ends : length left ≡ 0
        → (good (read_run Request requests) ≡ true)
        × (by_url ≡ map (λ u. weight one (requests_to u (read_run Request requests).records)) urls)
        × (carried_by_url ≡ map (λ u. weight carried (requests_to u (read_run Request requests).records)) urls)
        × (records_in_all ≡ weight one (read_run Request requests).records)
        × (cookies_in_all ≡ weight carried (read_run Request requests).records)
    unfolding good every
    counting_ends h =
        let end : read_run Request left ≡ nothing [] = ap (read_run Request) (drop_of_length-le left {i = 0} (omega arith)) ∙ run_end Request in
        let records = counted_ends one (subst (λ (run : Run). Counted one (read_run Request requests).records run.records by_url records_in_all) end c.records) in
        let cookies = counted_ends carried (subst (λ (run : Run). Counted carried (read_run Request requests).records run.records carried_by_url cookies_in_all) end c.cookies) in
        (sym c.same ∙ ap good end, records.0, cookies.0, records.1, cookies.1)

    -- the next bytes are not a request
    pub none_next : (length left ≡ 0 → ⊥) → ((decoded_first Request left).number ≡ accepted → ⊥) → good (read_run Request requests) ≡ false
    unfolding good
    none_next some ne = sym c.same ∙ ap good (run_none Request left ne) ∙ ap (λ (b : Bool). b && all_in_range []) (ne_eqb (length left) 0 some)

    module _ {f : FirstRead} (read : first_as (Ok f) ≡ decoded_first Request left) where
      first_ok : (decoded_first Request left).number ≡ accepted
      first_ok = sym (ap (λ (r : First). r.number) read)

      rest : List ℕ
      rest = drop f.length left

      next : read_run Request left ≡ followed f.fields (read_run Request rest)
      unfolding rest
      next = rw (← read) at (run_more Request left first_ok)

      pub bytes_next : (1 ≤ f.length) × (f.length ≤ length left)
      bytes_next = rw (← read) at (first_bytes Request left first_ok)

      -- the shortest request carries no cookies
      shortest_carries_none : f.length ≡ 3 → carried f.fields ≡ 0
      shortest_carries_none e =
          let size = rw (← read) at (first_size left first_ok) in
          none_carried f.fields (omega (arith, e, size))

      good_next : good (read_run Request requests) ≡ eqb (length (read_run Request rest).left) 0 && (in_range f.fields && all_in_range (read_run Request rest).records)
      unfolding good every
      good_next = sym c.same ∙ ap good next

      -- it is a request that is not in range
      pub out_of_range : in_range f.fields ≡ false → good (read_run Request requests) ≡ false
      out_of_range e = good_next ∙ rw e (and-false (eqb (length (read_run Request rest).left) 0))

      records_left : Counted one (read_run Request requests).records (f.fields ∷ (read_run Request rest).records) by_url records_in_all
      records_left = subst (λ (run : Run). Counted one (read_run Request requests).records run.records by_url records_in_all) next c.records

      cookies_left : Counted carried (read_run Request requests).records (f.fields ∷ (read_run Request rest).records) carried_by_url cookies_in_all
      cookies_left = subst (λ (run : Run). Counted carried (read_run Request requests).records run.records carried_by_url cookies_in_all) next c.cookies

      module _ (e : in_range f.fields ≡ true) where
        pub url_next : f.fields.url < url_rows
        url_next =
            let r = f.fields in
            ltb→lt r.url url_rows (and_l (ltb r.url url_rows) (is_connection r.connection && is_script r.script) (subst T (sym e) tt))

        -- no count passes 32 bits
        pub counts_small :
            (get_or by_url f.fields.url 0 + 1 ≤ length requests)
            × (get_or carried_by_url f.fields.url 0 + carried f.fields ≤ 8 * length requests)
            × (records_in_all + 1 ≤ length requests)
            × (cookies_in_all + carried f.fields ≤ 8 * length requests)
        counts_small =
            let r = counts_fit one records_left url_next in
            let k = counts_fit carried cookies_left url_next in
            let few = records_weigh requests in
            let most = cookies_weigh requests in
            (omega (arith, r.0, few), omega (arith, k.0, most), omega (arith, r.1, few), omega (arith, k.1, most))

        pub counting_passes : f.length ≡ 3
            → Counting requests (set by_url f.fields.url (get_or by_url f.fields.url 0 + 1)) carried_by_url (records_in_all + 1) cookies_in_all (drop f.length left)
        unfolding rest good
        counting_passes short = record {
          same = sym (good_next ∙ rw e);
          records = counted_goes_on one records_left url_next;
          cookies = counted_passes carried (shortest_carries_none short) cookies_left;
        }

        pub counting_goes_on :
            Counting requests
            (set by_url f.fields.url (get_or by_url f.fields.url 0 + 1))
            (set carried_by_url f.fields.url (get_or carried_by_url f.fields.url 0 + carried f.fields))
            (records_in_all + 1)
            (cookies_in_all + carried f.fields)
            (drop f.length left)
        unfolding rest good
        counting_goes_on = record {
          same = sym (good_next ∙ rw e);
          records = counted_goes_on one records_left url_next;
          cookies = counted_goes_on carried cookies_left url_next;
        }
