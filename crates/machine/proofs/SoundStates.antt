-- Sound states word by word, with what holds of each cookie value besides: the empty state, and states after a cookie or a connection was set.
use Rattle.prelude.proofs.Kit.{ℕ, ◌<◌, ◌+◌, ◌^◌, arith, ◌&&◌, Bool, not, ◌||◌, List, ⊎_elim, ◌≡◌, ◌∙◌, subst, T, eqb, ltb, eqb→eq, ltb→lt, T_not}
use Rattle.prelude.proofs.Kit.{lt→ltb, length, get_or, ℕ_discrete}
use lib.ListN.{length-replicate, get_or-replicate}
use lib.Ieee.Fits.{eq→eqb}
use Rattle.prelude.proofs.Choices.{parts, joined}
use Rattle.labels.specs.Addresses.{hosts}
use Rattle.labels.proofs.Below.{all_at, all_of, or_cases, or_r}
use Rattle.machine.specs.Policy.{url_rows, host_keys, connections, cookie_index, is_url}
use Rattle.machine.specs.Session.{presence_at, connections_at, state_words, empty_state, cookie_value, presence, connection_word, present, free, document_kind, script_kind, picture_kind, packed, kind_of, origin_of, handler_of, url_of, script_count, cookie_sound, host_sound, script_fields, bare_fields, kind_sound, url_sound, connection_sound, sound, set_cookie, set_connection}
use Rattle.machine.proofs.KeyMaps.{map_below_lem}
use Rattle.machine.proofs.StateWords.{length_cookie, length_connection, value_here, value_elsewhere, presence_here, presence_elsewhere, present_here, present_elsewhere, connection_past_cookie, connection_here, connection_elsewhere, value_past_connection, presence_past_connection}
use Rattle.machine.proofs.ConnectionWords.{kind_packed, origin_packed, handler_packed, url_packed}

-- a sound state, and Q of each cookie value
pub record Sound (p : List ℕ) (Q : ℕ → Type 0) (s : List ℕ) : Type 0 where
  pub whole : length s ≡ state_words
  pub keys : (h : ℕ) → h < hosts → presence s h < 2 ^ host_keys
  pub absent : (h k : ℕ) → h < hosts → k < host_keys → T (cookie_sound s h k)
  pub words : (n : ℕ) → n < connections → T (connection_sound p n (connection_word s n))
  pub values : (c : ℕ) → c < presence_at → Q (cookie_value s c)

-- to and from the test
module _ (p : List ℕ) (Q : ℕ → Type 0) (s : List ℕ) where
  pub sound_of : T (sound p s) → ((c : ℕ) → c < presence_at → Q (cookie_value s c)) → Sound p Q s
  unfolding sound host_sound
  sound_of t values = record {
    whole = eqb→eq (length s) state_words (search parts);
    keys = λ h l. let t = host h l in ltb→lt (presence s h) (2 ^ host_keys) (search parts);
    absent = λ h k l m. let t = host h l in all_at host_keys (cookie_sound s h) (search parts) k m;
    words = all_at connections (λ n. connection_sound p n (connection_word s n)) (search parts);
    values = values;
  }
    where
      host : (h : ℕ) → h < hosts → T (host_sound s h)
      host = all_at hosts (host_sound s) (search parts)

  pub of_sound : Sound p Q s → T (sound p s)
  unfolding sound host_sound
  of_sound good =
      let whole = eq→eqb good.whole in
      let cookies = all_of hosts (host_sound s) host in
      let words = all_of connections (λ n. connection_sound p n (connection_word s n)) good.words in
      search joined
    where
      host : (h : ℕ) → h < hosts → T (host_sound s h)
      host h l =
          let keys = lt→ltb (presence s h) (2 ^ host_keys) (good.keys h l) in
          let absent = all_of host_keys (cookie_sound s h) (λ k m. good.absent h k l m) in
          search joined

-- the empty state
pub empty_good : (p : List ℕ) (Q : ℕ → Type 0) → Q 0 → Sound p Q empty_state
unfolding cookie_sound connection_sound
empty_good p Q q = record {
  whole = length-replicate {A = ℕ} state_words 0;
  keys = λ h l. rw (zeros (presence_at + h) (omega arith)) (omega arith);
  absent = λ h k l m. or_r (present empty_state h k) (eqb (cookie_value empty_state (cookie_index h k)) 0) (eq→eqb (zeros (cookie_index h k) (omega arith)));
  words = λ n l. rw (zeros (connections_at + n) (omega arith)) tt;
  values = λ c l. rw (zeros c (omega arith)) q;
}
  where
    zeros : (i : ℕ) → i < state_words → get_or empty_state i 0 ≡ 0
    zeros i l = get_or-replicate state_words i 0 0 l

-- a cookie set, a connection set
module _ (p : List ℕ) (Q : ℕ → Type 0) (s : List ℕ) (good : Sound p Q s) where
  pub cookie_kept : (h k v : ℕ) → h < hosts → k < host_keys → Q v → Sound p Q (set_cookie h k v s)
  unfolding cookie_sound
  cookie_kept h k v lh lk q = record {
    whole = length_cookie h k v s ∙ w;
    keys = λ g l. elim (ℕ_discrete g h) [
      | yes e ↦ rw (e, presence_here s w h k v lh lk) (map_below_lem host_keys (λ j. eqb j k || present s h j))
      | no ne ↦ rw (presence_elsewhere s w h k v lh lk g ne) (good.keys g l)
    ];
    absent = λ g j l m. elim (ℕ_discrete (cookie_index g j) (cookie_index h k)) [
      | yes e ↦ let eg : g ≡ h = omega arith in let ej : j ≡ k = omega arith in rw (eg, ej, present_here s w h k v lh lk) tt
      | no ne ↦ rw (present_elsewhere s w h k v lh lk g j m ne, value_elsewhere s w h k v lh lk (cookie_index g j) (omega arith) ne) (good.absent g j l m)
    ];
    words = λ n l. rw (connection_past_cookie s w h k v lh lk n) (good.words n l);
    values = λ c l. elim (ℕ_discrete c (cookie_index h k)) [
      | yes e ↦ rw (e, value_here s w h k v lh lk) q
      | no ne ↦ rw (value_elsewhere s w h k v lh lk c l ne) (good.values c l)
    ];
  }
    where
      w : length s ≡ state_words
      w = good.whole

  pub connection_kept : (n w : ℕ) → n < connections → T (connection_sound p n w) → Sound p Q (set_connection n w s)
  unfolding cookie_sound
  connection_kept n w ln t = record {
    whole = length_connection n w s ∙ good.whole;
    keys = λ g l. rw (presence_past_connection s n w g l) (good.keys g l);
    absent = λ g j l m. rw (presence_past_connection s n w g l, value_past_connection s n w (cookie_index g j) (omega arith)) (good.absent g j l m);
    words = λ m l. elim (ℕ_discrete m n) [
      | yes e ↦ rw (e, connection_here s n w good.whole ln) t
      | no ne ↦ rw (connection_elsewhere s n w m ne) (good.words m l)
    ];
    values = λ c l. rw (value_past_connection s n w c l) (good.values c l);
  }

  pub connection_freed : (n : ℕ) → n < connections → Sound p Q (set_connection n free s)
  unfolding connection_sound
  connection_freed n l = connection_kept n free l tt

-- ---- the four fields of an open connection
abbrev pub open_fields : List ℕ → ℕ → ℕ → ℕ → ℕ → ℕ → Bool
open_fields p n k o h u = kind_sound p k o h && url_sound p n u

module _ (p : List ℕ) where
  pub url_byte : (u : ℕ) → T (is_url p u) → u < 256
  unfolding is_url
  url_byte u t = let l = ltb→lt u url_rows (search parts) in omega arith

  -- a sound word that is not free has such fields
  pub word_fields : (n w : ℕ) → T (connection_sound p n w) → T (not (eqb w free)) → T (open_fields p n (kind_of w) (origin_of w) (handler_of w) (url_of w))
  unfolding connection_sound
  word_fields n w t ne =
      ⊎_elim (λ z. absurd (T_not (eqb w free) ne z)) (λ r. r) (or_cases (eqb w free) (open_fields p n (kind_of w) (origin_of w) (handler_of w) (url_of w)) t)

  module _ (k o h : ℕ) (t : T (kind_sound p k o h)) where
    pub kind_bytes : (k < 256) × (o < 256) × (h < 256)
    unfolding kind_sound
    kind_bytes =
        ⊎_elim
        (λ b. let lk : k < 256 = ⊎_elim (λ d. omega (arith, eqb→eq k document_kind d)) (λ d. omega (arith, eqb→eq k picture_kind d)) (or_cases (eqb k document_kind) (eqb k picture_kind) (search parts)) in let eo = eqb→eq o 0 (search parts) in let eh = eqb→eq h 0 (search parts) in (lk, omega arith, omega arith))
        (λ s. let ek = eqb→eq k script_kind (search parts) in let lh = ltb→lt h script_count (search parts) in (omega arith, url_byte o (search parts), omega arith))
        (or_cases (bare_fields k o h) (script_fields p k o h) t)

    -- a script's request has a page and a handler; no other kind has a handler
    pub script_fields_lem : T (eqb k script_kind) → T (is_url p o) × T (ltb h script_count)
    unfolding kind_sound
    script_fields_lem e =
        let t : T (is_url p o && ltb h script_count) = subst (λ (x : ℕ). T (bare_fields x o h || script_fields p x o h)) (eqb→eq k script_kind e) t in
        (search parts, search parts)

    pub no_handler : T (not (eqb k script_kind)) → h ≡ 0
    unfolding kind_sound
    no_handler ne =
        ⊎_elim (λ b. eqb→eq h 0 (search parts)) (λ s. absurd (T_not (eqb k script_kind) ne (search parts)))
        (or_cases (bare_fields k o h) (script_fields p k o h) t)

  module _ (n k o h u : ℕ) (t : T (open_fields p n k o h u)) where
    pub fields_bytes : (o < 256) × (h < 256) × (u < 256)
    unfolding url_sound
    fields_bytes = let (_, lo, lh) = kind_bytes k o h (search parts) in (lo, lh, url_byte u (search parts))

    -- a word packed of such fields is sound
    pub fields_word : T (connection_sound p n (packed k o h u))
    unfolding connection_sound
    fields_word =
        let (lo, lh, lu) = fields_bytes in
        let w = packed k o h u in
        or_r (eqb w free) (open_fields p n (kind_of w) (origin_of w) (handler_of w) (url_of w))
        (rw (kind_packed k o h u lo lh lu, origin_packed k o h u lo lh lu, handler_packed k o h u lo lh lu, url_packed k o h u lo lh lu) t)

    -- the same with another URL that fits
    pub fields_moved : (v : ℕ) → T (url_sound p n v) → T (open_fields p n k o h v)
    fields_moved v z = search joined
