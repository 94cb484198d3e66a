-- The loop over the URLs: the lines of those that are left make the whole, and there is room for them.
use Rattle.prelude.proofs.Kit.{ℕ, ◌≤◌, ◌<◌, ◌+◌, ◌-◌, ◌*◌, suc, add-one, arith, true, Bool, false, List, ◌∷◌, [], ◌++◌, map, ◌≡◌, refl}
use Rattle.prelude.proofs.Kit.{length, length-append, lt-ltb, ne_eqb, eq-eqb}
use Rattle.prelude.specs.Choice.{branch, keep}
use Rattle.prelude.specs.Refusals.{accepted}
use Rattle.prelude.specs.Lists.{numbers}
use Rattle.machine.specs.Policy.{url_rows}
use Rattle.text.specs.declared.Writer.{Writer}
use Rattle.text.specs.Writing.{HasRoom, Writes}
use Rattle.text.proofs.Decimals.{numbers_room}
use Rattle.text.proofs.Writing.{Leads, leads_on, leads_end}
use Rattle.usage.specs.declared.Tally.{Tally}
use Rattle.usage.specs.Tally.{urls}
use Rattle.usage.specs.Lines.{Line, line_of, has_any, lines_of, lines}
use Rattle.tally.specs.Report.{line_text, line_room, line_if_any, lines_text, last_line, bad_line, report}

-- ---- one line

module _ (l : Line) where
  pub no_line : l.records ≡ 0 → line_if_any l ≡ []
  unfolding branch
  no_line e = rw e

  pub its_line : (l.records ≡ 0 → ⊥) → line_if_any l ≡ line_text l
  unfolding branch
  its_line ne = rw (lt-ltb 0 l.records (omega (arith, ne)))

  line_short : length (line_if_any l) ≤ line_room
  unfolding branch
  line_short = go (has_any l)
    where
      go : (b : Bool) → length (branch b (line_text l) []) ≤ line_room
      go false = omega arith
      go true = numbers_room (l.url ∷ l.records ∷ l.cookies ∷ []) (omega arith)

-- ---- the lines from a URL on

module _ (records cookies : List ℕ) where
  pub rest : ℕ → List ℕ
  rest u = lines_text (keep has_any (map (line_of records cookies) (numbers u (url_rows - u))))

  all_lines : lines_text (lines_of records cookies) ≡ rest 0
  unfolding lines_of urls rest
  all_lines = refl

  rest_more : (u : ℕ) → u < url_rows → rest u ≡ line_if_any (line_of records cookies u) ++ rest (u + 1)
  unfolding rest keep lines_text branch numbers
  rest_more u l =
      let left : url_rows - u ≡ suc (url_rows - suc u) = omega arith in
      rw (left, add-one u) (go (has_any (line_of records cookies u)))
    where
      later : List Line
      later = keep has_any (map (line_of records cookies) (numbers (suc u) (url_rows - suc u)))

      go : (b : Bool) → lines_text (branch b (line_of records cookies u ∷ later) later) ≡ branch b (line_text (line_of records cookies u)) [] ++ lines_text later
      go true = refl
      go false = refl

  -- each line has room for ten digits three times
  few_lines : (us : List ℕ) → length (lines_text (keep has_any (map (line_of records cookies) us))) ≤ line_room * length us
  unfolding keep lines_text branch
  few_lines [] = omega arith
  few_lines (u ∷ us) = go (has_any (line_of records cookies u)) (few_lines us) (line_short (line_of records cookies u))
    where
      later : List Line
      later = keep has_any (map (line_of records cookies) us)

      go : (b : Bool) → length (lines_text later) ≤ line_room * length us → length (branch b (line_text (line_of records cookies u)) []) ≤ line_room
          → length (lines_text (branch b (line_of records cookies u ∷ later) later)) ≤ line_room * suc (length us)
      go true l k = omega (arith, l, k, length-append (line_text (line_of records cookies u)) (lines_text later))
      go false l k = omega (arith, l)

  pub lines_short : length (lines_text (lines_of records cookies)) ≤ url_rows * line_room
  unfolding lines_of urls numbers
  lines_short = few_lines urls

  rest_none : (u : ℕ) → url_rows ≤ u → rest u ≡ []
  unfolding rest keep lines_text numbers
  rest_none u l =
      let none : url_rows - u ≡ 0 = omega arith in
      rw none

  -- the lines before URL `u` are written
  pub record Listing (first now : Writer) (u : ℕ) : Type 0 where
    pub room : HasRoom now (line_room * (url_rows - u))
    pub leads : Leads first (lines_text (lines_of records cookies)) now (rest u)

  pub listing_begins : (w : Writer) → HasRoom w (url_rows * line_room) → Listing w w 0
  listing_begins w h = record { room = omega arith; leads = λ last f. rw all_lines f }

  module _ {first now : Writer} {u : ℕ} (p : Listing first now u) where
    pub listing_ends : url_rows ≤ u → Writes first (lines_text (lines_of records cookies)) now
    listing_ends l = leads_end p.leads (rest_none u l)

    pub room_here : u < url_rows → HasRoom now line_room
    room_here l = omega (arith, p.room)

    pub listing_goes_on : {next : Writer} → u < url_rows → Writes now (line_if_any (line_of records cookies u)) next → Listing first next (u + 1)
    listing_goes_on l w = record {
      room = omega (arith, p.room, w.wrote.place, w.same_length, line_short (line_of records cookies u));
      leads = leads_on p.leads (rest_more u l) w;
    }

-- ---- the report

module _ (t : Tally) where
  pub bad_report : (t.number ≡ accepted → ⊥) → report t ≡ bad_line
  unfolding report
  bad_report ne = rw (ne_eqb t.number accepted ne)

  pub good_report : t.number ≡ accepted → report t ≡ lines_text (lines t) ++ last_line t.all_records t.all_cookies
  unfolding report
  good_report e = rw (eq-eqb t.number accepted e)
