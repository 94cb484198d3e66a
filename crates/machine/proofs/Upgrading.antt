-- Under a well formed policy a URL is asked for in place of a URL, and no URL that is asked for is by http at a host that is always https, so no request goes to one.
use Rattle.prelude.proofs.Kit.{ℕ, ◌+◌, arith, ◌&&◌, Bool, not, List, ⊎_elim, sym, subst, T, eqb, ltb, eqb→eq, ltb→lt, T_not, not_T}
use Rattle.prelude.specs.Choice.{every}
use Rattle.prelude.proofs.Choices.{parts, joined, either, one, branch_true, branch_false}
use Rattle.labels.specs.Addresses.{hosts}
use Rattle.labels.specs.Sets.{holds}
use Rattle.labels.proofs.Below.{all_at}
use Rattle.records.specs.declared.Record.{Record}
use Rattle.machine.specs.Policy.{url_rows, url_address, url_host, https_hosts, url_partner, no_partner, is_url, is_replaced, is_partner, partner_well_formed, well_formed, upgraded}
use Rattle.machine.specs.Session.{request, url_sound, Effects}
use Rattle.machine.specs.Scripts.{stopped}
use Rattle.machine.specs.Machine.{event_in, perform}
use Rattle.machine.specs.Guarantees.{AlwaysHttps}
use Rattle.machine.proofs.Lists.{each_every}
use Rattle.machine.proofs.Accepted.{either_way}
use Rattle.machine.proofs.Kept.{Any, accepted_good}

module _ (p : List ℕ) (good : T (well_formed p)) where
  -- a partner is by https
  partner_https : (u v : ℕ) → T (is_partner p u v) → T (not (is_replaced p v))
  unfolding is_partner is_replaced
  partner_https u v t =
      let e = eqb→eq (url_address p v) (hosts + url_host p u) (search parts) in
      not_T (ltb (url_address p v) hosts && holds (https_hosts p) (url_host p v)) (λ r. absurd (omega (arith, e, ltb→lt (url_address p v) hosts (search parts))))

  module _ (u : ℕ) (row : T (ltb u url_rows)) where
    abbrev v : ℕ
    v = url_partner p u

    formed : T (partner_well_formed p u)
    unfolding well_formed
    formed = all_at url_rows (partner_well_formed p) (search parts) u (ltb→lt u url_rows row)

    -- what is replaced has a partner, and nothing else has one
    has_partner : T (is_replaced p u) → T (is_partner p u v)
    unfolding partner_well_formed
    has_partner r = subst T (branch_true (is_replaced p u) (is_partner p u v) (eqb v no_partner) r) formed

    has_none : T (not (is_replaced p u)) → T (eqb v no_partner)
    unfolding partner_well_formed
    has_none r = subst T (branch_false (is_replaced p u) (is_partner p u v) (eqb v no_partner) r) formed

    partner_is : T (not (eqb v no_partner)) → T (is_partner p u v)
    partner_is n = ⊎_elim has_partner (λ r. absurd (T_not (eqb v no_partner) n (has_none r))) (either (is_replaced p u))

    partner_kept : T (not (eqb v no_partner)) → T (not (is_replaced p v))
    partner_kept n = partner_https u v (partner_is n)

    -- there is no URL 255
    none_kept : T (eqb v no_partner) → T (not (is_replaced p u))
    unfolding is_partner is_url
    none_kept n =
        not_T (is_replaced p u)
        (λ r. let t = has_partner r in absurd (omega (arith, eqb→eq v no_partner n, ltb→lt v url_rows (search parts))))

  -- in place of a URL a URL is asked for
  pub upgraded_url : (u : ℕ) → T (is_url p u) → T (is_url p (upgraded p u))
  unfolding upgraded is_partner
  upgraded_url u url =
      one (λ v. T (is_url p v)) (ltb u url_rows && not (eqb (url_partner p u) no_partner))
      (λ t. let is : T (is_partner p u (url_partner p u)) = partner_is u (search parts) (search parts) in search parts)
      (λ _. url)

  -- a URL that is asked for
  url_kept : (u : ℕ) → T (is_url p (upgraded p u)) → T (not (is_replaced p (upgraded p u)))
  unfolding upgraded is_url
  url_kept u =
      one (λ v. T (is_url p v) → T (not (is_replaced p v))) (ltb u url_rows && not (eqb (url_partner p u) no_partner))
      (λ t _. partner_kept u (search parts) (search parts))
      (λ t n. let row : T (ltb u url_rows) = search parts in
      ⊎_elim (λ e. none_kept u row e) (λ e. absurd (T_not (ltb u url_rows && not (eqb (url_partner p u) no_partner)) t (search joined))) (either (eqb (url_partner p u) no_partner)))

-- ---- the requests of a call

abbrev not_replaced : List ℕ → Record → Bool
not_replaced p r = not (is_replaced p r.url)

pub always_https_lem : AlwaysHttps
unfolding stopped every request url_sound
always_https_lem p scripts s bytes out =
    either_way (λ (e : Effects). T (every (not_replaced p) e.sent)) p scripts s bytes out
    (λ ok. each_every (not_replaced p) (perform p scripts s (event_in p bytes)).sent
    (accepted_good p Any (λ r. T (not_replaced p r))
    (record { none = tt; wrapped = λ x. tt; asked = λ s n k o h u g l t a. subst (λ v. T (is_url p v) → T (not (is_replaced p v))) (sym a.1) (url_kept p ok.policy a.0) (search parts) })
    scripts s bytes out (λ x i. tt) (λ c l. tt) (search) tt ok).1) tt
