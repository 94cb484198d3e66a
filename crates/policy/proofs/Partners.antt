-- The partners of a policy's URLs: how the code's tests of an address and of a number are those of the definitions.
use Rattle.prelude.proofs.Kit.{ℕ, Bool, not, refl, ◌≤◌, ◌<◌, ◌+◌, arith, true, false, List, ◌≡◌, sym, ◌∙◌, subst, ne_eqb, le-ltb, lt-ltb, T, eqb, ltb→lt, not_T}
use mathlib.Core.Bool.{and-false}
use Rattle.prelude.proofs.Choices.{parts, branch_false}
use Rattle.prelude.specs.Choice.{branch}
use Rattle.std.specs.Prelude.{Option, Some, None, is_some, unwrap_or}
use Rattle.labels.proofs.Below.{not_alike}
use Rattle.labels.specs.Membership.{endpoints}
use Rattle.labels.specs.Sets.{holds, within}
use Rattle.labels.specs.Addresses.{hosts, event_set}
use Rattle.labels.proofs.Endpoints.{event_within}
use Rattle.labels.proofs.Words.{empty_word, empty_holds}
use Rattle.machine.specs.Policy.{url_rows, address_word, url_address, url_host, https_hosts, url_partner, no_address, no_partner, empty_row, is_url, is_replaced, is_partner, partner_well_formed, upgraded}
use Rattle.policy.proofs.Rows.{named_full}

module _ (p : List ℕ) (u : ℕ) where
  -- a URL that is replaced has an address
  pub replaced_named : is_replaced p u ≡ true → url_address p u < endpoints
  unfolding is_replaced
  replaced_named e = let t = subst T (sym e) tt in let l = ltb→lt (url_address p u) hosts (search parts) in omega arith

  -- a URL that is not by http
  pub kept_https : hosts ≤ url_address p u → false ≡ is_replaced p u
  unfolding is_replaced
  kept_https l = rw (le-ltb (url_address p u) hosts l)

  -- a URL by http
  pub replaced_http : url_address p u < hosts → within (event_set (url_address p u)) (https_hosts p) ≡ is_replaced p u
  unfolding is_replaced
  replaced_http l = event_within (url_address p u) (holds (https_hosts p)) (omega arith) ∙ rw (lt-ltb (url_address p u) hosts l)

  -- a number without a row, and one with a row
  pub partner_beyond : (v : ℕ) → url_rows ≤ v → false ≡ is_partner p u v
  unfolding is_partner is_url
  partner_beyond v l = rw (le-ltb v url_rows l)

  pub partner_unnamed : (v : ℕ) → endpoints ≤ url_address p v → false ≡ is_partner p u v
  unfolding is_partner
  partner_unnamed v l = rw (ne_eqb (url_address p v) (hosts + url_host p u) (λ e. absurd (omega arith)), and-false)

  pub partner_row : (v : ℕ) → v < url_rows → url_address p v < endpoints → eqb (url_address p v) (hosts + url_host p u) ≡ is_partner p u v
  unfolding is_partner is_url empty_row
  partner_row v l a = rw (lt-ltb v url_rows l, ne_eqb (address_word p v) no_address (named_full p v a))

  -- where no host is listed
  pub none_listed : (b : Bool) (r : Option ℕ) → https_hosts p ≡ 0 → is_some r ≡ not (eqb (url_partner p u) no_partner) → is_some r ≡ not b → b ≡ partner_well_formed p u
  unfolding partner_well_formed is_replaced
  none_listed b r e some none =
      not_alike b (eqb (url_partner p u) no_partner) (sym none ∙ some)
      ∙ sym (branch_false (is_replaced p u) (is_partner p u (url_partner p u)) (eqb (url_partner p u) no_partner)
      (not_T (is_replaced p u) (λ r. empty_holds (url_host p u) (subst (λ (s : ℕ). T (holds s (url_host p u))) (e ∙ sym empty_word) (search parts)))))

  -- a row with a partner, at a URL that is replaced or not, and a row without
  pub replaced_partner : (v : ℕ) (b : Bool) → v ≡ url_partner p u → true ≡ is_replaced p u → b ≡ is_partner p u v → b ≡ partner_well_formed p u
  unfolding partner_well_formed branch
  replaced_partner v b e r f = rw (← e, ← r) f

  pub kept_partner : true ≡ not (eqb (url_partner p u) no_partner) → false ≡ is_replaced p u → false ≡ partner_well_formed p u
  unfolding partner_well_formed branch
  kept_partner some r = rw (← r) (not_alike false (eqb (url_partner p u) no_partner) some)

  pub no_partner_lem : no_partner ≡ url_partner p u → not (is_replaced p u) ≡ partner_well_formed p u
  unfolding partner_well_formed branch
  no_partner_lem e = rw (← e) (go (is_replaced p u))
    where
      go : (b : Bool) → not b ≡ branch b (is_partner p u no_partner) (eqb no_partner no_partner)
      go true = partner_beyond no_partner (omega arith)
      go false = refl

  -- what is asked for in place of a number with a row
  pub upgraded_row : (r : Option ℕ) → u < url_rows → unwrap_or r no_partner ≡ url_partner p u → is_some r ≡ not (eqb (url_partner p u) no_partner)
      → unwrap_or r u ≡ upgraded p u
  unfolding upgraded branch
  upgraded_row None l told some = rw (lt-ltb u url_rows l, ← some)
  upgraded_row (Some v) l told some = rw (lt-ltb u url_rows l, ← some) told
