-- What stands in the state after a cookie or a connection was set: the new there, the old elsewhere.
use Rattle.prelude.proofs.Kit.{ℕ, ◌<◌, ◌+◌, arith, true, Bool, ◌||◌, List, ◌≡◌, sym, ◌∙◌, refl, ap, subst, ne_eqb, eq-eqb, eqb, length, set}
use Rattle.prelude.proofs.Kit.{length-set, ℕ_discrete}
use lib.Seq.{get_or-set_same, get_or-set_other}
use Rattle.labels.specs.Addresses.{hosts}
use Rattle.machine.specs.Policy.{host_keys, connections, cookie_index}
use Rattle.machine.specs.Session.{presence_at, connections_at, state_words, cookie_value, presence, connection_word, has, present, key_map, set_cookie, set_connection}
use Rattle.machine.proofs.KeyMaps.{has_map}

pub length_cookie : (h k v : ℕ) (s : List ℕ) → length (set_cookie h k v s) ≡ length s
unfolding set_cookie
length_cookie h k v s = length-set (set s (cookie_index h k) v) (presence_at + h) _ ∙ length-set s (cookie_index h k) v

pub length_connection : (n w : ℕ) (s : List ℕ) → length (set_connection n w s) ≡ length s
unfolding set_connection
length_connection n w s = length-set s (connections_at + n) w

-- ---- a cookie set
module _ (s : List ℕ) (whole : length s ≡ state_words) (h k v : ℕ) (lh : h < hosts) (lk : k < host_keys) where
  abbrev after : List ℕ
  after = set_cookie h k v s

  pub value_here : cookie_value after (cookie_index h k) ≡ v
  unfolding set_cookie
  value_here =
      get_or-set_other (set s (cookie_index h k) v) (presence_at + h) (cookie_index h k) _ 0 (λ e. omega arith)
      ∙ get_or-set_same s (cookie_index h k) v 0 (omega arith)

  pub value_elsewhere : (c : ℕ) → c < presence_at → (c ≡ cookie_index h k → ⊥) → cookie_value after c ≡ cookie_value s c
  unfolding set_cookie
  value_elsewhere c l ne =
      get_or-set_other (set s (cookie_index h k) v) (presence_at + h) c _ 0 (λ e. omega arith)
      ∙ get_or-set_other s (cookie_index h k) c v 0 ne

  pub presence_here : presence after h ≡ key_map (λ j. eqb j k || present s h j)
  unfolding set_cookie
  presence_here =
      get_or-set_same (set s (cookie_index h k) v) (presence_at + h) (key_map (λ j. eqb j k || present s h j)) 0
      (subst (λ (x : ℕ). presence_at + h < x) (sym (length-set s (cookie_index h k) v ∙ whole)) (omega arith))

  pub presence_elsewhere : (g : ℕ) → (g ≡ h → ⊥) → presence after g ≡ presence s g
  unfolding set_cookie
  presence_elsewhere g ne =
      get_or-set_other (set s (cookie_index h k) v) (presence_at + h) (presence_at + g) _ 0 (λ e. ne (omega arith))
      ∙ get_or-set_other s (cookie_index h k) (presence_at + g) v 0 (λ e. omega arith)

  keys_here : (j : ℕ) → j < host_keys → present after h j ≡ eqb j k || present s h j
  keys_here j l = ap (λ (x : ℕ). has x j) presence_here ∙ has_map host_keys (λ j. eqb j k || present s h j) j l

  pub present_here : present after h k ≡ true
  present_here = keys_here k lk ∙ ap (λ (b : Bool). b || present s h k) (eq-eqb k k refl)

  pub present_elsewhere : (g j : ℕ) → j < host_keys → (cookie_index g j ≡ cookie_index h k → ⊥) → present after g j ≡ present s g j
  present_elsewhere g j l ne = elim (ℕ_discrete g h) [
    | yes e ↦ rw e (keys_here j l ∙ ap (λ (b : Bool). b || present s h j) (ne_eqb j k (λ q. ne (omega (arith, e, q)))))
    | no other ↦ ap (λ (x : ℕ). has x j) (presence_elsewhere g other)
  ]

  pub connection_past_cookie : (n : ℕ) → connection_word after n ≡ connection_word s n
  unfolding set_cookie
  connection_past_cookie n =
      get_or-set_other (set s (cookie_index h k) v) (presence_at + h) (connections_at + n) _ 0 (λ e. omega arith)
      ∙ get_or-set_other s (cookie_index h k) (connections_at + n) v 0 (λ e. omega arith)

-- ---- a connection set
module _ (s : List ℕ) (n w : ℕ) where
  pub connection_here : length s ≡ state_words → n < connections → connection_word (set_connection n w s) n ≡ w
  unfolding set_connection
  connection_here whole l = get_or-set_same s (connections_at + n) w 0 (omega arith)

  pub connection_elsewhere : (m : ℕ) → (m ≡ n → ⊥) → connection_word (set_connection n w s) m ≡ connection_word s m
  unfolding set_connection
  connection_elsewhere m ne = get_or-set_other s (connections_at + n) (connections_at + m) w 0 (λ e. ne (omega arith))

  pub value_past_connection : (c : ℕ) → c < presence_at → cookie_value (set_connection n w s) c ≡ cookie_value s c
  unfolding set_connection
  value_past_connection c l = get_or-set_other s (connections_at + n) c w 0 (λ e. omega arith)

  pub presence_past_connection : (h : ℕ) → h < hosts → presence (set_connection n w s) h ≡ presence s h
  unfolding set_connection
  presence_past_connection h l = get_or-set_other s (connections_at + n) (presence_at + h) w 0 (λ e. omega arith)
