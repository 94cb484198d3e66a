-- Requests counted with a weight: 1 for each, or its cookies. What a list weighs is what the requests to each URL weigh together.
use Rattle.prelude.proofs.Kit.{ℕ, ◌≤◌, ◌<◌, ◌+◌, suc, zero, zero-add, arith, true, Bool, false, ◌&&◌, cond, List, ◌∷◌, [], map}
use Rattle.prelude.proofs.Kit.{◌≡◌, ◌∙◌, refl, ap, T, eqb, ltb, ltb→lt, and_l, and_r, length, get_or, ne_eqb, eq-eqb, ℕ_discrete}
use Rattle.prelude.specs.Choice.{branch, keep, every}
use Rattle.prelude.specs.Lists.{numbers}
use Rattle.prelude.proofs.Lists.{map_at}
use Rattle.records.specs.declared.Record.{Record}
use Rattle.records.specs.Layout.{sum}
use Rattle.machine.specs.Policy.{url_rows, is_connection}
use Rattle.machine.specs.Scripts.{is_script}
use Rattle.usage.specs.Tally.{requests_to, urls, in_range, all_in_range}

abbrev pub weight : (Record → ℕ) → List Record → ℕ
weight w rs = sum (map w rs)

-- each request weighs 1
abbrev pub one : Record → ℕ
one r = 1

pub length_weight : (rs : List Record) → weight one rs ≡ length rs
length_weight [] = refl
length_weight (r ∷ rs) = ap (λ (n : ℕ). 1 + n) (length_weight rs) ∙ omega arith

-- ---- sums

sum_none : (us : List ℕ) → sum (map (λ u. 0) us) ≡ 0
sum_none [] = refl
sum_none (u ∷ us) = omega (arith, sum_none us)

sum_add : (f g : ℕ → ℕ) (us : List ℕ) → sum (map (λ u. f u + g u) us) ≡ sum (map f us) + sum (map g us)
sum_add f g [] = refl
sum_add f g (u ∷ us) = omega (arith, sum_add f g us)

sum_same : (f g : ℕ → ℕ) → ((u : ℕ) → f u ≡ g u) → (us : List ℕ) → sum (map f us) ≡ sum (map g us)
sum_same f g e [] = refl
sum_same f g e (u ∷ us) = omega (arith, e u, sum_same f g e us)

-- something at one of the numbers in a row, and nothing at the others
at : ℕ → ℕ → ℕ → ℕ
at k c u = cond (eqb k u) c 0

before : (k c n from : ℕ) → k < from → sum (map (at k c) (numbers from n)) ≡ 0
unfolding numbers at
before k c zero from l = refl
before k c (suc n) from l =
    let rest = before k c n (suc from) (omega arith) in
    rw (ne_eqb k from (λ e. omega (arith, e, l))) (omega (arith, rest))

once : (k c n from : ℕ) → from ≤ k → k < from + n → sum (map (at k c) (numbers from n)) ≡ c
unfolding numbers at
once k c zero from l h = absurd (omega arith)
once k c (suc n) from l h = elim (ℕ_discrete k from) [
  | yes e ↦ let rest = before k c n (suc from) (omega (arith, e)) in rw (eq-eqb k from e) (omega (arith, rest))
  | no ne ↦ let rest = once k c n (suc from) (omega (arith, ne)) (omega arith) in rw (ne_eqb k from ne) (omega (arith, rest))
]

-- what is made of all URLs, at one of them
pub at_url : (f : ℕ → ℕ) (u : ℕ) → u < url_rows → get_or (map f urls) u 0 ≡ f u
unfolding urls
at_url f u l = map_at f url_rows 0 u l ∙ ap f (zero-add u)

-- one of the URLs is a request's own
its_url : (k c : ℕ) → k < url_rows → sum (map (at k c) urls) ≡ c
unfolding urls
its_url k c l = once k c url_rows 0 (omega arith) (omega arith)

-- ---- the requests to a URL

module _ (w : Record → ℕ) where
  module _ (r : Record) (rs : List Record) (u : ℕ) where
    pub to_it : eqb r.url u ≡ true → weight w (requests_to u (r ∷ rs)) ≡ w r + weight w (requests_to u rs)
    unfolding requests_to keep branch
    to_it e = rw e

    pub to_another : eqb r.url u ≡ false → weight w (requests_to u (r ∷ rs)) ≡ weight w (requests_to u rs)
    unfolding requests_to keep branch
    to_another e = rw e

    to_any : weight w (requests_to u (r ∷ rs)) ≡ at r.url (w r) u + weight w (requests_to u rs)
    unfolding at
    to_any = go (eqb r.url u) refl
      where
        go : (b : Bool) → eqb r.url u ≡ b → weight w (requests_to u (r ∷ rs)) ≡ cond b (w r) 0 + weight w (requests_to u rs)
        go true e = to_it e
        go false e = to_another e ∙ omega arith

  -- they weigh no more than the list
  pub part_weighs : (u : ℕ) (rs : List Record) → weight w (requests_to u rs) ≤ weight w rs
  unfolding requests_to keep
  part_weighs u [] = omega arith
  part_weighs u (r ∷ rs) = go (eqb r.url u) refl (part_weighs u rs)
    where
      go : (b : Bool) → eqb r.url u ≡ b → weight w (requests_to u rs) ≤ weight w rs → weight w (requests_to u (r ∷ rs)) ≤ w r + weight w rs
      go true e rest = omega (arith, to_it r rs u e, rest)
      go false e rest = omega (arith, to_another r rs u e, rest)

  -- those to each URL weigh together what the list weighs, where each is to some URL
  pub parts_weigh : (rs : List Record) → T (all_in_range rs) → sum (map (λ u. weight w (requests_to u rs)) urls) ≡ weight w rs
  unfolding every requests_to keep
  parts_weigh [] t = sum_none urls
  parts_weigh (r ∷ rs) t =
      let range = and_l (in_range r) (all_in_range rs) t in
      let url = ltb→lt r.url url_rows (and_l (ltb r.url url_rows) (is_connection r.connection && is_script r.script) range) in
      sum_same (λ u. weight w (requests_to u (r ∷ rs))) (λ u. at r.url (w r) u + weight w (requests_to u rs)) (to_any r rs) urls
      ∙ sum_add (at r.url (w r)) (λ u. weight w (requests_to u rs)) urls
      ∙ omega (arith, its_url r.url (w r) url, parts_weigh rs (and_r (in_range r) (all_in_range rs) t))
