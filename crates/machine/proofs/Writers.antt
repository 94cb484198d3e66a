-- The observer of integrity: whoever trusts what a set of endpoints may not have shaped. It sees every load, and of the rest what has no writer in
-- the set. It has the laws of an observer: six by a condition of the policy's tests that speaks of writers, the others by what it sees.
use Rattle.prelude.proofs.Kit.{ℕ, true, not, List, subst, T, T_not}
use Rattle.prelude.proofs.Choices.{parts, one}
use Rattle.labels.specs.Membership.{is_none}
use Rattle.labels.specs.Sets.{holds, within, missing, misses}
use Rattle.labels.proofs.Membership.{none_missing_lem, miss_subset}
use Rattle.machine.specs.Policy.{cookie_index, is_entry, url_writers, cookie_writers, connection_writers, url_host, may_store, may_read, may_write, may_send, reach_missing_writer}
use Rattle.machine.specs.Integrity.{guarded}
use Rattle.machine.proofs.Observer.{Observer, Laws}
use Rattle.machine.proofs.Missing.{redirect_led}

unfoldable pub writers : ℕ → List ℕ → Observer
writers set p = record {
  sees_cookie = λ c. misses (cookie_writers p c) set;
  sees_connection = λ n. misses (connection_writers p n) set;
  sees_script = λ n. misses (connection_writers p n) set;
  sees_load = λ u. true;
  sees_request = λ u. guarded set p u;
  sees_attached = λ u k. misses (cookie_writers p (cookie_index (url_host p u) k)) set;
}

module _ (set : ℕ) (p : List ℕ) where
  -- what misses a set misses it within every set
  inside : (s t : ℕ) → T (within s t) → T (misses t set) → T (misses s set)
  inside s t = miss_subset (holds s) (holds t) (holds set)

  -- ---- the conditions

  stored : (n c : ℕ) → T (may_store p n c) → T (within (connection_writers p n) (cookie_writers p c))
  unfolding may_store
  stored n c t = search parts

  read : (n c : ℕ) → T (may_read p n c) → T (within (cookie_writers p c) (connection_writers p n))
  unfolding may_read
  read n c t = search parts

  written : (n c : ℕ) → T (may_write p n c) → T (within (connection_writers p n) (cookie_writers p c))
  unfolding may_write
  written n c t = search parts

  opened : (n u m : ℕ) → T (may_send p n u m) → T (within (connection_writers p n) (connection_writers p m))
  unfolding may_send
  opened n u m t = search parts

  -- whoever may lead to a URL that is no entry is among its writers
  reached : (s u : ℕ) → T (is_none (reach_missing_writer p s u)) → T (not (is_entry p u)) → T (within s (url_writers p u))
  unfolding reach_missing_writer
  reached s u none guards =
      subst T (none_missing_lem (holds s) (holds (url_writers p u)))
      (one (λ (m : ℕ). T (is_none m) → T (is_none (missing s (url_writers p u)))) (is_entry p u)
      (λ entry _. absurd (T_not (is_entry p u) guards entry)) (λ _ m. m) none)

  led : (s u : ℕ) → T (is_none (reach_missing_writer p s u)) → T (guarded set p u) → T (misses s set)
  unfolding guarded
  led s u none g = inside s (url_writers p u) (reached s u none (search parts)) (search parts)

  sent : (n u m : ℕ) → T (may_send p n u m) → T (is_none (reach_missing_writer p (connection_writers p n) u))
  unfolding may_send
  sent n u m t = search parts

  pub writers_laws : Laws p (writers set p)
  unfolding writers
  writers_laws = record {
    stores = λ n c t. inside (connection_writers p n) (cookie_writers p c) (stored n c t);
    scripts = λ n l seen. seen;
    reads = λ n c t. inside (cookie_writers p c) (connection_writers p n) (read n c t);
    writes = λ n c t. inside (connection_writers p n) (cookie_writers p c) (written n c t);
    sends = λ n u m t. led (connection_writers p n) u (sent n u m t);
    opens = λ n u m t. inside (connection_writers p n) (connection_writers p m) (opened n u m t);
    attaches = λ u k t seen attached. attached;
    loads = λ n u t seen. tt;
    requests = λ u t seen. tt;
    redirects = λ n t r w. led (connection_writers p n) t (redirect_led p n t w);
  }
