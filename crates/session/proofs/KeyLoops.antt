-- The loops over a host's eight keys: what remains to be done from a key on.
use Rattle.prelude.proofs.Kit.{ℕ, ◌≤◌, ◌<◌, ◌+◌, suc, add-one, arith, true, Bool, false, List, ◌∷◌, ◌++◌, map, append_assoc, append-nil}
use Rattle.prelude.proofs.Kit.{◌≡◌, sym, ◌∙◌, refl, ap, length, take, drop, get_or, set, length-set, take_all}
use lib.Seq.{take-suc-set}
use Rattle.prelude.specs.Choice.{branch, keep}
use Rattle.records.specs.Layout.{key_numbers}
use Rattle.records.proofs.Cookies.{keys_from}
use Rattle.policy.proofs.KeyBits.{none_has}
use Rattle.machine.specs.Policy.{host_keys}
use Rattle.machine.specs.Session.{has, Cookie, store_cookie, store_cookies}
use Rattle.session.specs.Delivered.{cookie, delivered}

-- ---- delivered cookies are stored

module _ (p : List ℕ) (n h keys : ℕ) (values : List ℕ) where
  abbrev delivered_from : List ℕ → List Cookie
  delivered_from ks = map (λ k. cookie k (get_or values k 0)) (keep (has keys) ks)

  store_next : (k : ℕ) (ks s : List ℕ)
      → store_cookies p n h (delivered_from (k ∷ ks)) s ≡ store_cookies p n h (delivered_from ks) (branch (has keys k) (store_cookie p n h (cookie k (get_or values k 0)) s) s)
  unfolding keep branch store_cookies
  store_next k ks s = go (has keys k)
    where
      go : (b : Bool)
          → store_cookies p n h (map (λ k. cookie k (get_or values k 0)) (branch b (k ∷ keep (has keys) ks) (keep (has keys) ks))) s
          ≡ store_cookies p n h (delivered_from ks) (branch b (store_cookie p n h (cookie k (get_or values k 0)) s) s)
      go true = refl
      go false = refl

-- what is stored from a key on
abbrev pub stored_from : (p : List ℕ) (n h keys : ℕ) (values : List ℕ) (key : ℕ) (s : List ℕ) → List ℕ
stored_from p n h keys values key s = store_cookies p n h (delivered_from p n h keys values (drop key key_numbers)) s

-- one key more
pub storing_goes_on : (p q : List ℕ) (n h keys : ℕ) (values s after : List ℕ) (key : ℕ) → key < host_keys → q ≡ p
    → after ≡ branch (has keys key) (store_cookie p n h (cookie key (get_or values key 0)) s) s
    → stored_from q n h keys values (key + 1) after ≡ stored_from p n h keys values key s
storing_goes_on p q n h keys values s after key l same e =
    rw (same, e, add-one key)
    (sym (store_next p n h keys values key (drop (suc key) key_numbers) s)
    ∙ ap (λ (ks : List ℕ). store_cookies p n h (delivered_from p n h keys values ks) s) (sym (keys_from key l)))

-- a record without cookies brings none
pub none_stored : (p : List ℕ) (n h keys : ℕ) (values s : List ℕ) → keys ≡ 0 → s ≡ store_cookies p n h (delivered keys values) s
unfolding store_cookies keep branch
none_stored p n h keys values s e = rw (e, none_has 0, none_has 1, none_has 2, none_has 3, none_has 4, none_has 5, none_has 6, none_has 7)

-- past the last key none is left
pub all_stored : (p : List ℕ) (n h keys : ℕ) (values s : List ℕ) (key : ℕ) → key ≡ host_keys → stored_from p n h keys values key s ≡ s
unfolding store_cookies keep
all_stored p n h keys values s key e = rw e refl

-- ---- the values that a request carries

module _ (f : ℕ → ℕ) where
  pub record Filling (values : List ℕ) (key : ℕ) : Type 0 where
    pub below : key ≤ host_keys
    pub eight : length values ≡ host_keys
    pub remains : take key values ++ map f (drop key key_numbers) ≡ map f key_numbers

  pub filling_goes_on : (values : List ℕ) (key v : ℕ) → key < host_keys → Filling values key → v ≡ f key → Filling (set values key v) (key + 1)
  filling_goes_on values key v l r e =
      rw (add-one key) (record {
        below = l;
        eight = length-set values key v ∙ r.eight;
        remains =
            rw (take-suc-set values key v (rw r.eight l), e, append_assoc (take key values))
            (ap (λ (ks : List ℕ). take key values ++ map f ks) (sym (keys_from key l)) ∙ r.remains);
      })

  pub filling_ends : (values : List ℕ) → Filling values host_keys → values ≡ map f key_numbers
  filling_ends values r = sym (take_all host_keys values (omega (arith, r.eight))) ∙ sym (append-nil (take host_keys values)) ∙ r.remains
