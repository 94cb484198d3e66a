-- `count` meets its contract: what is counted and what is left make the whole, and at each return the tests say what is answered.
use Rattle.prelude.proofs.Kit.{◌≤◌, ◌<◌, ◌+◌, ◌*◌, arith, true, ◌≡◌, sym, ◌∙◌, ap, rules, length, length-drop, get_or, drop}
use Rattle.std.specs.Prelude.{Ok}
use Rattle.prelude.proofs.Lists.{rest_is}
use Rattle.records.specs.declared.Direction.TheVariants.{Request}
use Rattle.records.specs.Answers.{First}
use Rattle.records.specs.Codec.{decoded_first, read_run}
use Rattle.records.specs.Results.{first_as}
use Rattle.records.proofs.Numbers.{error_refused}
use Rattle.machine.specs.Policy.{url_rows}
use Rattle.usage.specs.Tally.{in_range}
use Rattle.usage.proofs.Carried.{carried, ones_carried}
use Rattle.usage.proofs.Counting.{counting_begins, counting_ends, none_next, bytes_next, out_of_range, url_next, counts_small, counting_passes, counting_goes_on}
use Rattle.usage.proofs.Answers.{not_good, all_good, weighed}
use Rattle.usage.proofs.count.Goals.{After-count_keys-carried, Else-not-in_range}
use Rattle.usage.proofs.count.Goals as goal

-- ---- what is known of a request in range

read : (m : Else-not-in_range) → first_as (Ok m.in-Ok.first) ≡ decoded_first Request m.loop-left.left.now
read m = m.in-Ok.ensures

ranged : (m : Else-not-in_range) → in_range m.in-Ok.first.fields ≡ true
ranged m = sym m.in_range.ensures ∙ m.if-not-in_range.false

url : (m : Else-not-in_range) → m.in-Ok.first.fields.url < url_rows
url m = url_next m.loop-left.invariant.counting (read m) (ranged m)

bytes : (m : Else-not-in_range) → (1 ≤ m.in-Ok.first.length) × (m.in-Ok.first.length ≤ length m.loop-left.left.now)
bytes m = bytes_next m.loop-left.invariant.counting (read m)

small : (m : Else-not-in_range) →
    (get_or m.loop-left.tally.records m.in-Ok.first.fields.url 0 + 1 ≤ length m.args.requests.now)
    × (get_or m.loop-left.tally.cookies m.in-Ok.first.fields.url 0 + carried m.in-Ok.first.fields ≤ 8 * length m.args.requests.now)
    × (m.loop-left.all_records + 1 ≤ length m.args.requests.now)
    × (m.loop-left.all_cookies + carried m.in-Ok.first.fields ≤ 8 * length m.args.requests.now)
small m = counts_small m.loop-left.invariant.counting (read m) (ranged m)

its_cookies : (c : After-count_keys-carried) → c.count_keys-carried.result ≡ carried c.in-Ok.first.fields
its_cookies c = c.count_keys-carried.ensures.0 ∙ ones_carried c.in-Ok.first.fields (search rules)

-- ---- the needs

pub loop-left-init : goal.loop-left-init
loop-left-init c = rw c.nothing-tally.ensures record { none_refused = search rules; counting = counting_begins }

pub returns-in_default : goal.returns-in_default
returns-in_default c =
    let bad = none_next c.loop-left.invariant.counting (search rules) (λ ok. error_refused c.in_default.field-0 (ap (λ (r : First). r.number) c.in_default.ensures ∙ ok)) in
    c.nothing.ensures ∙ not_good c.args.requests.now c.requires bad

pub returns-then-not-in_range : goal.returns-then-not-in_range
returns-then-not-in_range c =
    c.nothing-then-not-in_range.ensures
    ∙ not_good c.args.requests.now c.requires (out_of_range c.loop-left.invariant.counting c.in-Ok.ensures (sym c.in_range.ensures ∙ c.if-not-in_range.true))

pub overflow_add-tally : goal.overflow_add-tally
overflow_add-tally c = record { fits = omega (arith, (small (goal.at.overflow_add-tally c).Else-not-in_range).0, c.requires) }

pub overflow_add-all_records : goal.overflow_add-all_records
overflow_add-all_records c = record { fits = omega (arith, (small (goal.at.overflow_add-all_records c).Else-not-in_range).2, c.requires) }

pub slice_bounds-left-count : goal.slice_bounds-left-count
slice_bounds-left-count c = omega (arith, (bytes (goal.at.slice_bounds-left-count c).Else-not-in_range).1, c.if-first-eq-SHORTEST_REQUEST.true)

pub slice_bounds-left-start : goal.slice_bounds-left-start
slice_bounds-left-start c = let l = slice_bounds-left-count c in search rules

pub loop-left-preserved-then-first-eq-SHORTEST_REQUEST : goal.loop-left-preserved-then-first-eq-SHORTEST_REQUEST
loop-left-preserved-then-first-eq-SHORTEST_REQUEST c =
    let m = (goal.at.loop-left-preserved-then-first-eq-SHORTEST_REQUEST c).Else-not-in_range in
    let left = c.loop-left.left.now in
    let short = c.if-first-eq-SHORTEST_REQUEST.true in
    record {
      none_refused = c.loop-left.invariant.none_refused;
      counting = rw (rest_is left 3) (rw short at (counting_passes c.loop-left.invariant.counting (read m) (ranged m) short));
    }

pub overflow_add-tally-in-loop-left : goal.overflow_add-tally-in-loop-left
overflow_add-tally-in-loop-left c =
    let at = goal.at.overflow_add-tally-in-loop-left c in
    record { fits = omega (arith, (small at.Else-not-in_range).1, its_cookies at.After-count_keys-carried, c.requires) }

pub overflow_add-all_cookies : goal.overflow_add-all_cookies
overflow_add-all_cookies c =
    let at = goal.at.overflow_add-all_cookies c in
    record { fits = omega (arith, (small at.Else-not-in_range).3, its_cookies at.After-count_keys-carried, c.requires) }

pub slice_bounds-left-count-in-loop-left : goal.slice_bounds-left-count-in-loop-left
slice_bounds-left-count-in-loop-left c = (bytes (goal.at.slice_bounds-left-count-in-loop-left c).Else-not-in_range).1

pub slice_bounds-left-start-in-loop-left : goal.slice_bounds-left-start-in-loop-left
slice_bounds-left-start-in-loop-left c = let l = slice_bounds-left-count-in-loop-left c in search rules

pub loop-left-smaller : goal.loop-left-smaller
loop-left-smaller c =
    let left = c.loop-left.left.now in
    let n = c.in-Ok.first.length in
    let size = bytes (goal.at.loop-left-smaller c).Else-not-in_range in
    let shorter : length (drop n left) < length left = simp length-drop (omega (arith, size.0, size.1)) in
    rw (rest_is left n) shorter

pub loop-left-preserved : goal.loop-left-preserved
loop-left-preserved c =
    let at = goal.at.loop-left-preserved c in
    let m = at.Else-not-in_range in
    record {
      none_refused = c.loop-left.invariant.none_refused;
      counting =
          rw (rest_is c.loop-left.left.now c.in-Ok.first.length, its_cookies at.After-count_keys-carried)
          (counting_goes_on c.loop-left.invariant.counting (read m) (ranged m));
    }

pub returns : goal.returns
returns c =
    let t = c.loop-left.tally in
    let all = (read_run Request c.args.requests.now).records in
    let done = counting_ends c.loop-left.invariant.counting (search rules) in
    let number = c.loop-left.invariant.none_refused in
    (λ i. record { number = number i; records = t.records; cookies = t.cookies; all_records = c.loop-left.all_records; all_cookies = c.loop-left.all_cookies })
    ∙ weighed all done.1 done.2 done.3 done.4 ∙ all_good c.args.requests.now c.requires done.0
