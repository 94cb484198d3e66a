-- The observer of secrecy: a set of endpoints sees what has a reader in it. It has the laws of an observer, each by a condition of the policy's tests
-- that speaks of readers.
use Rattle.prelude.proofs.Kit.{ℕ, ◌<◌, List, T}
use Rattle.prelude.proofs.Choices.{parts}
use Rattle.labels.specs.Sets.{holds, within, meets}
use Rattle.labels.proofs.Below.{all_at}
use Rattle.labels.proofs.Membership.{share_mono, share_member}
use Rattle.labels.proofs.Words.{holds_below}
use Rattle.machine.specs.Policy.{connections, cookie_index, url_readers, cookie_readers, connection_readers, script_readers, url_host, url_message, url_event, connection_well_formed, well_formed, may_store, may_carry, may_read, may_write, may_send}
use Rattle.machine.proofs.Observer.{Observer, Laws}
use Rattle.machine.proofs.Missing.{loaded, redirected, event_held}

unfoldable pub readers : ℕ → List ℕ → Observer
readers set p = record {
  sees_cookie = λ c. meets (cookie_readers p c) set;
  sees_connection = λ n. meets (connection_readers p n) set;
  sees_script = λ n. meets (script_readers p n) set;
  sees_load = λ u. meets (url_readers p u) set;
  sees_request = λ u. holds set (url_event p u);
  sees_attached = λ u k. holds set (url_message p u);
}

module _ (set : ℕ) (p : List ℕ) (good : T (well_formed p)) where
  -- what meets a set meets every set around it; an endpoint of both makes two sets meet
  around : (s t : ℕ) → T (within s t) → T (meets s set) → T (meets t set)
  around s t = share_mono (holds s) (holds t) (holds set)

  shares : (s a : ℕ) → T (holds s a) → T (holds set a) → T (meets s set)
  shares s a = share_member (holds s) (holds set) (holds_below s) a

  -- ---- a policy that is well formed

  script_within : (n : ℕ) → n < connections → T (within (script_readers p n) (connection_readers p n))
  unfolding well_formed connection_well_formed
  script_within n l = all_at connections (connection_well_formed p) (search parts) n l

  -- ---- the conditions

  stored : (n c : ℕ) → T (may_store p n c) → T (within (cookie_readers p c) (connection_readers p n))
  unfolding may_store
  stored n c t = search parts

  carried : (u k : ℕ) → T (may_carry p u k) → T (holds (cookie_readers p (cookie_index (url_host p u) k)) (url_message p u))
  unfolding may_carry
  carried u k t = t

  read : (n c : ℕ) → T (may_read p n c) → T (within (script_readers p n) (cookie_readers p c))
  unfolding may_read
  read n c t = search parts

  written : (n c : ℕ) → T (may_write p n c) → T (within (cookie_readers p c) (script_readers p n))
  unfolding may_write
  written n c t = search parts

  sent : (n u m : ℕ) → T (may_send p n u m) → T (holds (script_readers p n) (url_event p u)) × T (within (connection_readers p m) (script_readers p n))
  unfolding may_send
  sent n u m t = (search parts, search parts)

  pub readers_laws : Laws p (readers set p)
  unfolding readers
  readers_laws = record {
    stores = λ n c t. around (cookie_readers p c) (connection_readers p n) (stored n c t);
    scripts = λ n l. around (script_readers p n) (connection_readers p n) (script_within n l);
    reads = λ n c t. around (script_readers p n) (cookie_readers p c) (read n c t);
    writes = λ n c t. around (cookie_readers p c) (script_readers p n) (written n c t);
    sends = λ n u m t. shares (script_readers p n) (url_event p u) (sent n u m t).0;
    opens = λ n u m t. around (connection_readers p m) (script_readers p n) (sent n u m t).1;
    attaches = λ u k t seen. shares (cookie_readers p (cookie_index (url_host p u) k)) (url_message p u) (carried u k t);
    loads = λ n u t. around (connection_readers p n) (url_readers p u) (loaded p n u t);
    requests = λ u t. shares (url_readers p u) (url_event p u) (event_held p good u t);
    redirects = λ n t r w. shares (connection_readers p n) (url_event p t) (redirected p n t r);
  }
