-- The sets of an address's endpoints: what is missing of one is the endpoint, just where a set does not hold it. And the words of a host's endpoints.
use Rattle.prelude.proofs.Kit.{ℕ, ◌≤◌, ◌<◌, ◌+◌, ◌^◌, ◌%◌, arith, true, false, Bool, ◌&&◌, cond, ◌≡◌, refl, T, ltb, ltb→lt, and_l, and_r, lt-ltb, le-ltb, ne_eqb, not_T}
use Rattle.prelude.proofs.Kit.{⊎_elim}
use mathlib.Core.Bool.{and-false}
use Rattle.std.proofs.lemmas.Bool.{agree_below, agree_below_at}
use lib.Dec.{nltb→le}
use Rattle.prelude.proofs.Choices.{either, is_true, is_false}
use Rattle.labels.specs.Membership.{Membership, endpoints, all_below, subset, lowest_missing, missing_one}
use Rattle.labels.specs.Sets.{holds, only, empty, word_of}
use Rattle.labels.specs.Addresses.{hosts, message_endpoint, event_endpoint, message_set, event_set, host_endpoints}
use Rattle.labels.proofs.Below.{all_at}
use Rattle.labels.proofs.Words.{only_missing, only_within, empty_holds, word_holds}

-- an address is its own message endpoint, and above 31 its singleton is empty as well
pub message_only : (a : ℕ) → only a ≡ message_set a
unfolding message_set only
message_only a = cond_idempotent (ltb a endpoints) (2 ^ a) empty
  where
    cond_idempotent : (b : Bool) (x y : ℕ) → cond b x y ≡ cond b (cond b x y) y
    cond_idempotent true x y = refl
    cond_idempotent false x y = refl

-- its event endpoint is its host, and above 31 there is none
pub event_only : (a : ℕ) → a < endpoints → only (a % hosts) ≡ event_set a
unfolding event_set
event_only a l = rw (lt-ltb a endpoints l)

pub event_none : (a : ℕ) {s : Membership} → endpoints ≤ a → s ≡ holds empty → s ≡ holds (event_set a)
unfolding event_set
event_none a l e = rw (le-ltb a endpoints l) e

-- what is missing of either set is the endpoint
pub message_missing : (a : ℕ) (t : Membership) → a < endpoints → lowest_missing (holds (message_set a)) t ≡ missing_one t (message_endpoint a)
message_missing a t l = rw (← message_only a) (only_missing a t l)

pub event_missing : (a : ℕ) (t : Membership) → a < endpoints → lowest_missing (holds (event_set a)) t ≡ missing_one t (event_endpoint a)
event_missing a t l = rw (← event_only a l) (only_missing (event_endpoint a) t (omega arith))

-- so either is within just the sets that hold it
pub message_within : (a : ℕ) (t : Membership) → a < endpoints → subset (holds (message_set a)) t ≡ t (message_endpoint a)
message_within a t l = rw (← message_only a) (only_within a t l)

pub event_within : (a : ℕ) (t : Membership) → a < endpoints → subset (holds (event_set a)) t ≡ t (event_endpoint a)
event_within a t l = rw (← event_only a l) (only_within (event_endpoint a) t (omega arith))

-- ---- the words of a host's endpoints: one computed test of all 16 hosts and 32 endpoints

abbrev https : ℕ → ℕ
https h = 2 ^ (hosts + h)

abbrev both : ℕ → ℕ
both h = https h + 2 ^ h

-- the word holds the host's endpoints, https alone or both
right_for : ℕ → ℕ → Bool → Bool
right_for w h alone = agree_below (holds w) (host_endpoints h alone) endpoints

right : ℕ → Bool
right h = ltb (both h) (2 ^ 32) && (right_for (https h) h true && right_for (both h) h false)

computed : T (all_below hosts right)
unfolding right right_for all_below holds host_endpoints
computed = tt

endpoint_or_not : {A : Type 0} (a : ℕ) → (a < endpoints → A) → (endpoints ≤ a → A) → A
endpoint_or_not a f g = ⊎_elim (λ t. f (ltb→lt a endpoints t)) (λ t. g (nltb→le a endpoints t)) (either (ltb a endpoints))

module _ (h : ℕ) (l : h < hosts) where
  one_right : T (right h)
  one_right = all_at hosts right computed h l

  pub both_below : both h < 2 ^ 32
  unfolding right
  both_below = ltb→lt (both h) (2 ^ 32) (and_l (ltb (both h) (2 ^ 32)) _ one_right)

  -- a number above 31 is in no word, and no endpoint of a host
  none_above : (w a : ℕ) (b : Bool) → endpoints ≤ a → holds w a ≡ host_endpoints h b a
  unfolding holds host_endpoints
  none_above w a b k =
      rw (le-ltb a endpoints k, lt-ltb h hosts l, ne_eqb a (hosts + h) (λ e. omega (arith, e, k, l)), ne_eqb a h (λ e. omega (arith, e, k, l)), and-false)

  held : (w : ℕ) (alone : Bool) → T (right_for w h alone) → (a : ℕ) → holds w a ≡ host_endpoints h alone a
  unfolding right_for
  held w alone t a = endpoint_or_not a (agree_below_at (holds w) (host_endpoints h alone) endpoints a (is_true _ t)) (none_above w a alone)

  pub https_holds : (a : ℕ) → holds (https h) a ≡ host_endpoints h true a
  unfolding right
  https_holds = held (https h) true (and_l (right_for (https h) h true) _ (and_r (ltb (both h) (2 ^ 32)) _ one_right))

  pub both_hold : (a : ℕ) → holds (both h) a ≡ host_endpoints h false a
  unfolding right
  both_hold = held (both h) false (and_r (right_for (https h) h true) _ (and_r (ltb (both h) (2 ^ 32)) _ one_right))

  -- the word of either holds just these, of all numbers
  pub host_word : (b : Bool) (a : ℕ) → holds (word_of (host_endpoints h b)) a ≡ host_endpoints h b a
  host_word b a = endpoint_or_not a (word_holds (host_endpoints h b) a) (none_above (word_of (host_endpoints h b)) a b)

-- a number that is no host has no endpoints
pub no_host : (h : ℕ) (b : Bool) → hosts ≤ h → (a : ℕ) → holds 0 a ≡ host_endpoints h b a
unfolding host_endpoints empty
no_host h b l a = rw (le-ltb h hosts l) (is_false (holds 0 a) (not_T (holds 0 a) (empty_holds a)))
