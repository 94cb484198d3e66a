-- The words of the state stay below 2^32: those of a sound state do where its cookie values do, and no value of a record or script is larger.
use Rattle.prelude.proofs.Kit.{ℕ, ◌≤◌, ◌<◌, ◌+◌, ◌-◌, ◌^◌, ◌*◌, pred, zero-lt-suc, arith, List, ◌∷◌, [], ⊎_elim, ◌≡◌, ap, T, eqb, ltb}
use Rattle.prelude.proofs.Kit.{eqb→eq, ltb→lt, lt→ltb, and_i, length, drop, get_or, are_bytes}
use native.Mathlib.Decide.{dec_lt}
use native.Mathlib.Nat.{le_trans, pow-le-pow_right}
use Rattle.prelude.specs.Refusals.{accepted}
use Rattle.prelude.proofs.Choices.{parts}
use Rattle.labels.proofs.Below.{or_cases}
use Rattle.records.specs.declared.Direction.TheVariants.{Input}
use Rattle.records.specs.declared.Record.{Record}
use Rattle.records.specs.Layout.{widths, values, fit_widths}
use Rattle.records.specs.Codec.{decoded}
use Rattle.records.proofs.Encoding.{counted, fitting}
use Rattle.records.proofs.Carriable.{decoded_carriable}
use Rattle.machine.specs.Policy.{connections}
use Rattle.machine.specs.Session.{presence_at, connections_at, free, kind_of, origin_of, handler_of, url_of, connection_sound, request, Effects}
use Rattle.machine.specs.Scripts.{step_limit, stopped, script_at, script_bytes}
use Rattle.machine.specs.Machine.{event_in, feed, perform}
use Rattle.machine.specs.Guarantees.{are_words, WordsKept}
use Rattle.machine.proofs.Lists.{Each, each_take, each_drop, each_at, each_of}
use Rattle.machine.proofs.ConnectionWords.{below_kind}
use Rattle.machine.proofs.Accepted.{Passed, either_way}
use Rattle.machine.proofs.SoundStates.{Sound, open_fields, kind_bytes}
use Rattle.machine.proofs.Kept.{Good, Any, TableValues, accepted_good}

abbrev pub Word : ℕ → Type 0
Word w = w < 2 ^ 32

abbrev Byte : ℕ → Type 0
Byte b = b < 256

-- to and from the tests
words_each : (ws : List ℕ) → T (are_words ws) → Each Word ws
words_each [] t = tt
words_each (w ∷ ws) t = (ltb→lt w (2 ^ 32) (search parts), words_each ws (search parts))

each_words : (ws : List ℕ) → Each Word ws → T (are_words ws)
each_words [] all = tt
each_words (w ∷ ws) all = and_i (ltb w (2 ^ 32)) (are_words ws) (lt→ltb w (2 ^ 32) all.0) (each_words ws all.1)

bytes_each : (bs : List ℕ) → T (are_bytes bs) → Each Byte bs
bytes_each [] t = tt
bytes_each (b ∷ bs) t = (ltb→lt b 256 (search parts), bytes_each bs (search parts))

-- ---- a sound state
connection_word_lem : (p : List ℕ) (n w : ℕ) → T (connection_sound p n w) → Word w
unfolding connection_sound
connection_word_lem p n w t =
    ⊎_elim (λ z. let e = eqb→eq w free z in omega arith)
    (λ r. below_kind w (kind_bytes p (kind_of w) (origin_of w) (handler_of w) (search parts)).0)
    (or_cases (eqb w free) (open_fields p n (kind_of w) (origin_of w) (handler_of w) (url_of w)) t)

state_words_lem : (p s : List ℕ) → Sound p Word s → T (are_words s)
state_words_lem p s good = each_words s (each_of Word 0 s at)
  where
    -- word i of a part that begins at b
    part : (b i : ℕ) → b ≤ i → Word (get_or s (b + (i - b)) 0) → Word (get_or s i 0)
    part b i l h = let e : b + (i - b) ≡ i = omega arith in rw e at h

    at : (i : ℕ) → i < length s → Word (get_or s i 0)
    at i l = let whole = good.whole in elim (dec_lt i presence_at) [
      | yes a ↦ good.values i a
      | no na ↦ elim (dec_lt i connections_at) [
        | yes b ↦ part presence_at i (omega arith) (let k = good.keys (i - presence_at) (omega arith) in omega arith)
        | no nb ↦ part connections_at i (omega arith) (connection_word_lem p (i - connections_at) (get_or s (connections_at + (i - connections_at)) 0) (good.words (i - connections_at) (omega arith)))
      ]
    ]

-- ---- scripts
table_words : (scripts : List ℕ) → T (are_bytes scripts) → TableValues Word scripts
table_words scripts t x i =
    let code = each_take Byte script_bytes (drop (script_bytes * x) scripts) (each_drop Byte (script_bytes * x) scripts (bytes_each scripts t)) in
    let b = each_at Byte 0 (omega arith) (script_at scripts x) code (4 * i + 2) in
    let c = each_at Byte 0 (omega arith) (script_at scripts x) code (4 * i + 3) in
    omega arith

-- ---- records
fit_words : (ws vs : List ℕ) → length vs ≡ length ws → Each (λ w. w ≤ 4) ws → T (fit_widths ws vs) → Each Word vs
unfolding fit_widths
fit_words [] [] e small t = tt
fit_words [] (v ∷ vs) e small t = absurd (omega arith)
fit_words (w ∷ ws) [] e small t = tt
fit_words (w ∷ ws) (v ∷ vs) e small t =
    (le_trans (ltb→lt v (256 ^ w) (search parts)) (pow-le-pow_right (zero-lt-suc 255) small.0), fit_words ws vs (ap pred e) small.1 (search parts))

four_bytes : (m keys : ℕ) → Each (λ w. w ≤ 4) (widths m keys)
unfolding widths
four_bytes m keys = omega arith

-- the values of a record that is accepted
record_words : (bytes : List ℕ) → T (are_bytes bytes) → (decoded Input bytes).number ≡ accepted → Each Word (values (decoded Input bytes).fields)
record_words bytes bs e =
    let r = (decoded Input bytes).fields in
    fit_words (widths r.map r.keys) (values r) (counted r) (four_bytes r.map r.keys) (fitting Input r (decoded_carriable Input bytes bs e))

-- ---- a record that is accepted, with what holds of the requests of such states
module _ (p : List ℕ) (R : Record → Type 0)
    (asked : (s : List ℕ) (n k o h u : ℕ) → Sound p Word s → n < connections → T (open_fields p n k o h u) → R (request p s n k h u)) where
  pub words_good : (scripts s bytes out : List ℕ) → T (are_bytes scripts) → T (are_words s) → T (are_bytes bytes) → Passed p scripts s bytes out
      → Good p Word R step_limit (perform p scripts s (event_in p bytes))
  unfolding values
  words_good scripts s bytes out ts ws bs ok =
      let vs = values (decoded Input bytes).fields in
      let all = record_words bytes bs ok.read in
      accepted_good p Word R (record { none = omega arith; wrapped = λ x. omega arith; asked = λ s n k o h u g l t a. asked s n k o h u g l t }) scripts s bytes out
      (table_words scripts ts) (λ c l. each_at Word 0 (omega arith) s (words_each s ws) c)
      (each_take Word 8 (drop 3 vs) (each_drop Word 3 vs all)) (each_at Word 0 (omega arith) vs all 12) ok

pub words_kept : WordsKept
unfolding feed stopped
words_kept p scripts s bytes out ts ws bs =
    either_way (λ (e : Effects). T (are_words e.state)) p scripts s bytes out
    (λ ok. state_words_lem p (perform p scripts s (event_in p bytes)).state (words_good p Any (λ s n k o h u g l t. tt) scripts s bytes out ts ws bs ok).0)
    ws
