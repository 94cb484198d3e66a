-- What holds of every single call. The proofs are in proofs/Soundness.antt, Refusals.antt, WordSizes.antt, Sending.antt and Upgrading.antt.
use Rattle.std.specs.Prelude.{ℕ, ◌^◌, ◌≤◌, Bool, true, not, ◌&&◌, ◌||◌, List, [], ◌∷◌, ◌≡◌, T, ltb, eqb, length, take, drop}
use Rattle.std.proofs.Math.Pow.{are_bytes}
use Rattle.prelude.specs.Choice.{every}
use Rattle.prelude.specs.Refusals.{accepted}
use Rattle.labels.specs.Membership.{none_missing, is_none}
use Rattle.records.specs.declared.Direction.TheVariants.{Request}
use Rattle.records.specs.Codec.{read_run}
use Rattle.machine.specs.Policy.{is_replaced}
use Rattle.machine.specs.Session.{empty_state, sound}
use Rattle.machine.specs.Machine.{readers_forbid, writers_forbid, Verdict, outcome, Fed, feed}

-- Every record keeps a state sound, and the empty state is sound, under every policy.
abbrev pub SoundKept : Type 0
SoundKept = (p scripts s bytes out : List ℕ) → T (sound p s) → T (sound p (feed p scripts s bytes out).state)

abbrev pub EmptySound : Type 0
EmptySound = (p : List ℕ) → T (sound p empty_state)

-- the number and the missing endpoint of an answer
abbrev pub told_in : Fed → Verdict
told_in fed = record { number = fed.number; missing = fed.missing }

-- A refusal changes nothing: zero counts, the same state, the same buffer.
abbrev pub refused_with : Verdict → List ℕ → List ℕ → Fed
refused_with told s out = record { number = told.number; bytes = 0; steps = 0; missing = told.missing; state = s; buffer = out }

abbrev pub RefusalChangesNothing : Type 0
RefusalChangesNothing =
    (p scripts s bytes out : List ℕ) → ((feed p scripts s bytes out).number ≡ accepted → ⊥)
    → feed p scripts s bytes out ≡ refused_with (told_in (feed p scripts s bytes out)) s out

-- An endpoint is told of just where 8 or 9 refuses: every other answer has 32.
abbrev pub MissingIsTold : Type 0
MissingIsTold =
    (p scripts s bytes out : List ℕ)
    → ((feed p scripts s bytes out).missing ≤ none_missing)
    × (is_none (feed p scripts s bytes out).missing
    ≡ not (eqb (feed p scripts s bytes out).number readers_forbid || eqb (feed p scripts s bytes out).number writers_forbid))

-- The counted bytes are in the buffer, and past them it is the old one.
abbrev pub PastIsKept : Type 0
PastIsKept =
    (p scripts s bytes out : List ℕ)
    → ((feed p scripts s bytes out).bytes ≤ length out)
    × (length (feed p scripts s bytes out).buffer ≡ length out)
    × (drop (feed p scripts s bytes out).bytes (feed p scripts s bytes out).buffer ≡ drop (feed p scripts s bytes out).bytes out)

-- What the types of the code say of a list: words are below 2^32 (and bytes below 256, `are_bytes`).
abbrev pub are_words : List ℕ → Bool
are_words [] = true
are_words (w ∷ ws) = ltb w (2 ^ 32) && are_words ws

abbrev pub WordsKept : Type 0
WordsKept =
    (p scripts s bytes out : List ℕ) → T (are_bytes scripts) → T (are_words s) → T (are_bytes bytes)
    → T (are_words (feed p scripts s bytes out).state)

-- The counted bytes are wholly request records: the ones sent.
abbrev pub SentReadsBack : Type 0
SentReadsBack =
    (p scripts s bytes out : List ℕ) → T (are_bytes scripts) → T (are_words s) → T (are_bytes bytes)
    → read_run Request (take (feed p scripts s bytes out).bytes (feed p scripts s bytes out).buffer)
    ≡ record { records = (outcome p scripts s bytes out).effects.sent; left = [] }

-- No request goes by http to a host that is always https, whatever the state that was lent.
abbrev pub AlwaysHttps : Type 0
AlwaysHttps = (p scripts s bytes out : List ℕ) → T (every (λ r. not (is_replaced p r.url)) (outcome p scripts s bytes out).effects.sent)
