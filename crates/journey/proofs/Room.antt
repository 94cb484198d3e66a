-- How much room the pieces of a line take at most, and what is printed by what is answered.
use Rattle.prelude.proofs.Kit.{ℕ, ◌≤◌, ◌+◌, arith, true, Bool, false, cond, List, ◌++◌, ◌≡◌, sym, ◌∙◌, refl, ap, ap₂, length, length-append, get_or, eqb, eq-eqb, ne_eqb}
use Rattle.prelude.specs.Choice.{branch}
use Rattle.prelude.specs.Refusals.{accepted}
use Rattle.prelude.proofs.Choices.{is_false}
use Rattle.text.specs.Text.{ascii, decimal}
use Rattle.text.proofs.Decimals.{decimal_ten, number_room}
use Rattle.machine.specs.Policy.{connections}
use Rattle.machine.specs.Machine.{readers_forbid, Verdict}
use Rattle.std.specs.Prelude.{Option, Some, None, not, T}
use Rattle.prelude.proofs.Kit.{subst}
use Rattle.prelude.specs.Refusals.{first_of}
use Rattle.journeys.specs.declared.Found.{Found}
use Rattle.journeys.specs.declared.Stop.{Stop}
use Rattle.journeys.specs.declared.error.JourneyError.{JourneyError}
use Rattle.journeys.specs.declared.error.JourneyError.TheVariants.{PolicyBad, JourneyBad, ConnectionUnknown}
use Rattle.journeys.specs.declared.failure.Failure.{Failure}
use Rattle.journeys.specs.Answers.{number_of, halted}
use Rattle.policy.specs.Forbidden.{forbids}
use Rattle.journeys.proofs.Stopping.{stop_failing}
use Rattle.journeys.specs.Journey.{url_at, judged, carries, journey_refusals, found, fails_at, of_url_number, stop, stop_at}
use Rattle.journeys.proofs.Guarantees.{carries_none, none_is_told, fails_where, found_refused}
use Rattle.journey.specs.Report.{labelled, head_text, place_text, set_text, owner_text, lack_text, why_text, failure_text, none_text, refusal_text, found_text, report, NoneCarries, line_room}

-- words and a number
pub labelled_room : (words : List ℕ) (n : ℕ) → length (words ++ decimal n) ≤ length words + 10
labelled_room words n = omega (arith, length-append words (decimal n), decimal_ten n)

pub head_room : (c number : ℕ) → length (head_text c number) ≤ 30
head_room c number =
    omega (arith, number_room c 0x3a, labelled_room (ascii " refused ") number, length-append (decimal c ++ ascii ":") (labelled " refused " number))

pub place_room : (u nth count : ℕ) → length (place_text u nth count) ≤ 44
place_room u nth count =
    omega (
      arith,
      labelled_room (ascii " at URL ") u,
      labelled_room (ascii " (") nth,
      labelled_room (ascii " of ") count,
      length-append (labelled " at URL " u) (labelled " (" nth ++ labelled " of " count),
      length-append (labelled " (" nth) (labelled " of " count),
    )

pub set_room : (number : ℕ) → length (set_text number) ≤ 33
set_room number = go (eqb number readers_forbid)
  where
    go : (b : Bool) → length (cond b (ascii " is missing among the readers of ") (ascii " is missing among the writers of ")) ≤ 33
    go true = omega arith
    go false = omega arith

pub owner_room : (b : Bool) (u c : ℕ) → length (owner_text b u c) ≤ 21
owner_room true u c = omega (arith, labelled_room (ascii "URL ") u)
owner_room false u c = omega (arith, labelled_room (ascii "connection ") c)

lack_room : (v : Verdict) (b : Bool) (u c : ℕ) → length (lack_text v b u c) ≤ 77
lack_room v b u c =
    let rest = owner_text b u c ++ ascii "\n" in
    omega (
      arith,
      labelled_room (ascii "): endpoint ") v.missing,
      set_room v.number,
      owner_room b u c,
      length-append (labelled "): endpoint " v.missing) (set_text v.number ++ rest),
      length-append (set_text v.number) rest,
      length-append (owner_text b u c) (ascii "\n"),
    )

why_room : (c u nth count : ℕ) (v : Verdict) (b : Bool) (asked : ℕ) → length (why_text c u nth count v b asked) ≤ line_room
why_room c u nth count v b asked =
    omega (
      arith,
      head_room c v.number,
      place_room u nth count,
      lack_room v b asked c,
      length-append (head_text c v.number) (place_text u nth count ++ lack_text v b asked c),
      length-append (place_text u nth count) (lack_text v b asked c),
    )

is_digit_lem : (b : Bool) → eqb (branch b 1 0) 1 ≡ b
unfolding branch
is_digit_lem true = refl
is_digit_lem false = refl

module _ (p urls : List ℕ) where
  pub line_room_lem : (c : ℕ) → length (failure_text p urls c) ≤ line_room
  unfolding failure_text
  line_room_lem c =
      let i = fails_at p urls c in
      let v = judged p urls c i in
      why_room c (get_or urls i 0) (i + 1) (length urls) v (of_url_number p c (url_at p urls i) v) (url_at p urls i)

  line_of : (c : ℕ) (s : Stop) → s ≡ stop_at p urls c (fails_at p urls c)
      → why_text c (get_or urls s.place 0) (s.place + 1) (length urls) (record { number = s.refusal; missing = s.missing }) (eqb s.of_url 1) s.url
      ≡ failure_text p urls c
  unfolding failure_text
  line_of c s e = let i = fails_at p urls c in rw (e, is_digit_lem (of_url_number p c (url_at p urls i) (judged p urls c i)))

  -- the line, by the stop that the code has found
  pub line_is : (c : ℕ) (f : Failure) → halted urls (Some f) ≡ stop_at p urls c (fails_at p urls c)
      → why_text c (get_or urls f.place 0) (f.place + 1) (length urls) (forbids f.forbidden) f.of_url f.url ≡ failure_text p urls c
  line_is c f e =
      ap (λ b. why_text c (get_or urls f.place 0) (f.place + 1) (length urls) (forbids f.forbidden) b f.url) (sym (is_digit_lem f.of_url))
      ∙ line_of c (halted urls (Some f)) e

  -- a connection that does not carry the journey stops, and where it fails
  pub stops_at : (c : ℕ) (r : Option Failure) → carries p urls c ≡ false → halted urls r ≡ stop p urls c → halted urls r ≡ stop_at p urls c (fails_at p urls c)
  stops_at c r e h = h ∙ stop_failing p urls c e

  pub stops : (c : ℕ) (r : Option Failure) → r ≡ None → carries p urls c ≡ false → halted urls r ≡ stop p urls c → ⊥
  stops c r n e h =
      let there : halted urls None ≡ stop_at p urls c (fails_at p urls c) = subst (λ (r : Option Failure). halted urls r ≡ stop_at p urls c (fails_at p urls c)) n (stops_at c r e h) in
      omega (arith, ap (λ (s : Stop). s.place) there, fails_where p urls c (subst (λ (b : Bool). T (not b)) (sym e) tt))

  -- ---- what is printed

  module _ (r : Found) where
    pub report_by : r ≡ found p urls → report p urls ≡ found_text p urls r
    unfolding report
    report_by e = ap (found_text p urls) (sym e)

    pub none_carries : r ≡ found p urls → r.number ≡ accepted → r.connection ≡ connections → NoneCarries p urls
    none_carries e n k =
        let (_, each) = (none_is_told p urls).0 (sym e ∙ ap₂ (λ (number connection : ℕ). record { number = number; connection = connection }) n k) in
        λ c l. is_false (carries p urls c) (carries_none p urls c (each c l))

    pub refused_text : (r.number ≡ accepted → ⊥) → found_text p urls r ≡ refusal_text r.number
    refused_text ne = rw (ne_eqb r.number accepted ne)

    pub none_text_lem : r.number ≡ accepted → r.connection ≡ connections → found_text p urls r ≡ none_text p urls
    none_text_lem e n = rw (eq-eqb r.number accepted e, eq-eqb r.connection connections n)

    pub found_text_lem : r.number ≡ accepted → (r.connection ≡ connections → ⊥) → found_text p urls r ≡ decimal r.connection ++ ascii "\n"
    found_text_lem e n = rw (eq-eqb r.number accepted e, ne_eqb r.connection connections n)

    -- what is found with 0 is no journey that is refused
    pub none_refused : (e : JourneyError) → r ≡ found p urls → r.number ≡ accepted → number_of e ≡ first_of (journey_refusals p urls) accepted → ⊥
    none_refused e f n h = refuses e (ap (λ (g : Found). g.number) (found_refused p urls e h ∙ sym f) ∙ n)
      where
        refuses : (e : JourneyError) → number_of e ≡ accepted → ⊥
        refuses PolicyBad k = omega (arith, k)
        refuses JourneyBad k = omega (arith, k)
        refuses ConnectionUnknown k = omega (arith, k)
