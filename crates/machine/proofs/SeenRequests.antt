-- A request looks the same to an observer from states that agree, and of one that it does not see there is no observation.
use Rattle.prelude.proofs.Kit.{ℕ, ◌<◌, suc, zero, arith, ◌&&◌, Bool, not, List, ◌∷◌, [], map, ⊎_elim, ◌≡◌, sym, ◌∙◌, refl, ap}
use Rattle.prelude.proofs.Kit.{ap₂, T, eqb, get_or, and_r}
use mathlib.Core.Bool.{and_comm}
use Rattle.prelude.specs.Choice.{branch, keep}
use Rattle.prelude.proofs.Choices.{either, and_alike, one, two, branch_false, keep_one, keep_none}
use Rattle.records.specs.declared.Record.{Record}
use Rattle.records.specs.Layout.{key_numbers, document_request, script_request, picture_request, with_cookies}
use Rattle.machine.specs.Policy.{host_keys, cookie_index, url_host, may_carry}
use Rattle.machine.specs.Session.{script_kind, picture_kind, plain_request, cookie_value, present, has, key_map, Cookie, attaches, request_map, request}
use Rattle.machine.specs.Machine.{plain_map, cookies_of}
use Rattle.machine.specs.Runs.{Observation}
use Rattle.machine.proofs.Lists.{Each}
use Rattle.machine.proofs.KeyMaps.{has_map}
use Rattle.machine.proofs.Observer.{Observer, Laws, Agree, observation_by, observations_by}

-- the kind of a request does not go by its cookies
plain_map_lem : (kind keys : ℕ) → plain_map (request_map kind keys) ≡ plain_request kind
unfolding request_map plain_request
plain_map_lem kind keys =
    one Kept (eqb kind script_kind) (λ _. either_way script_request refl refl)
    (λ _. one Kept (eqb kind picture_kind) (λ _. either_way picture_request refl refl) (λ _. either_way document_request refl refl))
  where
    Kept : ℕ → Type 0
    Kept m = plain_map (branch (eqb keys 0) m (with_cookies m)) ≡ m

    either_way : (m : ℕ) → plain_map m ≡ m → plain_map (with_cookies m) ≡ m → Kept m
    either_way m e f = one (λ n. plain_map n ≡ m) (eqb keys 0) (λ _. e) (λ _. f)

-- ---- the cookies of two records that are alike where a test looks

abbrev cookie_with : List ℕ → ℕ → Cookie
cookie_with values k = record { key = k; value = get_or values k 0 }

module _ (see : ℕ → Bool) (keys keys' : ℕ) (values values' : List ℕ)
    (keys_same : (k : ℕ) → k < host_keys → T (see k) → has keys k ≡ has keys' k)
    (values_same : (k : ℕ) → k < host_keys → T (see k) → T (has keys k) → get_or values k 0 ≡ get_or values' k 0) where
  abbrev looks : Cookie → Bool
  looks c = see c.key

  skips : (k : ℕ) (b : Bool) (vs ks : List ℕ) → T (not (see k)) → keep looks (map (cookie_with vs) (branch b (k ∷ ks) ks)) ≡ keep looks (map (cookie_with vs) ks)
  unfolding keep
  skips k b vs ks t =
      one (λ (l : List ℕ). keep looks (map (cookie_with vs) l) ≡ keep looks (map (cookie_with vs) ks)) b
      (λ _. branch_false (see k) (cookie_with vs k ∷ keep looks (map (cookie_with vs) ks)) (keep looks (map (cookie_with vs) ks)) t) (λ _. refl)

  alike : (ks : List ℕ) → Each (λ k. k < host_keys) ks
      → keep looks (map (cookie_with values) (keep (has keys) ks)) ≡ keep looks (map (cookie_with values') (keep (has keys') ks))
  unfolding keep
  alike [] below = refl
  alike (k ∷ ks) below =
      let rest = alike ks below.1 in
      ⊎_elim
      (λ (t : T (see k)). two (λ (l m : List ℕ). keep looks (map (cookie_with values) l) ≡ keep looks (map (cookie_with values') m)) (has keys k) (has keys' k) (keys_same k below.0 t)
      (λ b. ap₂ (λ (v : ℕ) (l : List Cookie). branch (see k) (record { key = k; value = v } ∷ l) l) (values_same k below.0 t b) rest)
      (λ _. rest))
      (λ (t : T (not (see k))). skips k (has keys k) values (keep (has keys) ks) t ∙ rest ∙ sym (skips k (has keys' k) values' (keep (has keys') ks) t))
      (either (see k))

  cookies_alike : keep looks (map (cookie_with values) (keep (has keys) key_numbers)) ≡ keep looks (map (cookie_with values') (keep (has keys') key_numbers))
  cookies_alike = alike key_numbers (omega arith)

-- a value for each key, by its key
at_key : (f : ℕ → ℕ) (k : ℕ) → k < host_keys → get_or (map f key_numbers) k 0 ≡ f k
at_key f zero l = refl
at_key f (suc zero) l = refl
at_key f (suc (suc zero)) l = refl
at_key f (suc (suc (suc zero))) l = refl
at_key f (suc (suc (suc (suc zero)))) l = refl
at_key f (suc (suc (suc (suc (suc zero))))) l = refl
at_key f (suc (suc (suc (suc (suc (suc zero)))))) l = refl
at_key f (suc (suc (suc (suc (suc (suc (suc zero))))))) l = refl
at_key f (suc (suc (suc (suc (suc (suc (suc (suc k)))))))) l = absurd (omega arith)

both_and : (x y b : Bool) → (T b → x ≡ y) → x && b ≡ y && b
both_and x y b f = and_comm x b ∙ and_alike b f ∙ and_comm b y

-- ---- requests

module _ (p : List ℕ) (v : Observer) (laws : Laws p v) (s t : List ℕ) (a : Agree v s t) (n kind handler u : ℕ) (seen : T (v.sees_request u)) where
  abbrev h : ℕ
  h = url_host p u

  equal : (k : ℕ) → k < host_keys → T (v.sees_attached u k) → T (may_carry p u k)
      → (present s h k ≡ present t h k) × (cookie_value s (cookie_index h k) ≡ cookie_value t (cookie_index h k))
  equal k l see m = a.cookies h k (omega arith) l (laws.attaches u k m seen see)

  attached_alike : (k : ℕ) → k < host_keys → T (v.sees_attached u k) → attaches p s u k ≡ attaches p t u k
  unfolding attaches
  attached_alike k l see = both_and (present s h k) (present t h k) (may_carry p u k) (λ m. (equal k l see m).0)

  keys_alike : (k : ℕ) → k < host_keys → T (v.sees_attached u k) → has (key_map (attaches p s u)) k ≡ has (key_map (attaches p t u)) k
  keys_alike k l see = has_map host_keys (attaches p s u) k l ∙ attached_alike k l see ∙ sym (has_map host_keys (attaches p t u) k l)

  abbrev values : List ℕ → ℕ → ℕ
  values w k = branch (attaches p w u k) (cookie_value w (cookie_index h k)) 0

  values_alike : (k : ℕ) → k < host_keys → T (v.sees_attached u k) → T (has (key_map (attaches p s u)) k)
      → get_or (map (values s) key_numbers) k 0 ≡ get_or (map (values t) key_numbers) k 0
  unfolding attaches
  values_alike k l see b =
      at_key (values s) k l
      ∙ two (λ (x y : ℕ). x ≡ y) (attaches p s u k) (attaches p t u k) (attached_alike k l see) (λ on. (equal k l see (and_r (present s h k) (may_carry p u k) on)).1) (λ _. refl)
      ∙ sym (at_key (values t) k l)

  observation_alike : observation_by v (request p s n kind handler u) ≡ observation_by v (request p t n kind handler u)
  unfolding observation_by request cookies_of
  observation_alike = ap₂ (λ (m : ℕ) (cs : List Cookie). record { kind = m; url = u; connection = n; handler = handler; cookies = cs })
      (plain_map_lem kind (key_map (attaches p s u)) ∙ sym (plain_map_lem kind (key_map (attaches p t u))))
      (cookies_alike (v.sees_attached u) (key_map (attaches p s u)) (key_map (attaches p t u)) (map (values s) key_numbers) (map (values t) key_numbers) keys_alike values_alike)

-- one request sent
module _ (p : List ℕ) (v : Observer) (n kind handler u : ℕ) where
  one_observation : (s : List ℕ) → T (v.sees_request u) → observations_by v (request p s n kind handler u ∷ []) ≡ observation_by v (request p s n kind handler u) ∷ []
  unfolding observations_by request
  one_observation s t = ap (map (observation_by v)) (keep_one (λ (r : Record). v.sees_request r.url) (request p s n kind handler u) t)

  pub unseen_request : (s : List ℕ) → T (not (v.sees_request u)) → observations_by v (request p s n kind handler u ∷ []) ≡ []
  unfolding observations_by request
  unseen_request s t = ap (map (observation_by v)) (keep_none (λ (r : Record). v.sees_request r.url) (request p s n kind handler u) t)

  pub same_request : Laws p v → (s t : List ℕ) → Agree v s t
      → observations_by v (request p s n kind handler u ∷ []) ≡ observations_by v (request p t n kind handler u ∷ [])
  same_request laws s t a =
      ⊎_elim
      (λ (seen : T (v.sees_request u)). one_observation s seen ∙ ap (λ (x : Observation). x ∷ []) (observation_alike p v laws s t a n kind handler u seen) ∙ sym (one_observation t seen))
      (λ (hidden : T (not (v.sees_request u))). unseen_request s hidden ∙ sym (unseen_request t hidden))
      (either (v.sees_request u))
