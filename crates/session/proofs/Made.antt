-- The fields that the code gives a request are those of the definition.
use Rattle.prelude.proofs.Kit.{ℕ, ◌<◌, Bool, List, ◌∷◌, [], map, ◌≡◌, refl, ap, lit<}
use Rattle.prelude.specs.Choice.{branch}
use Rattle.records.specs.Layout.{key_numbers}
use Rattle.machine.specs.Policy.{host_keys, cookie_index, url_host}
use Rattle.machine.specs.Session.{cookie_value, has, key_map, attaches, request_map, request}
use Rattle.machine.proofs.KeyMaps.{has_map}
use Rattle.machine.proofs.Lists.{Each}

-- the keys of a map are those that its test passes
values_alike : (test : ℕ → Bool) (v : ℕ → ℕ) (ks : List ℕ) → Each (λ k. k < host_keys) ks
    → map (λ k. branch (has (key_map test) k) (v k) 0) ks ≡ map (λ k. branch (test k) (v k) 0) ks
values_alike test v [] all = refl
values_alike test v (k ∷ ks) all =
    rw (has_map host_keys test k all.0) (ap (λ (l : List ℕ). branch (test k) (v k) 0 ∷ l) (values_alike test v ks all.1))

below_eight : Each (λ k. k < host_keys) key_numbers
below_eight = (lit< tt, (lit< tt, (lit< tt, (lit< tt, (lit< tt, (lit< tt, (lit< tt, (lit< tt, tt))))))))

pub made : (p s : List ℕ) (n kind handler u : ℕ) {v h m keys : ℕ} {cookies : List ℕ} → v ≡ u → h ≡ url_host p v
    → keys ≡ key_map (attaches p s v) → cookies ≡ map (λ k. branch (has keys k) (cookie_value s (cookie_index h k)) 0) key_numbers → m ≡ request_map kind keys
    → record {
      map = m;
      url = u;
      connection = n;
      keys = keys;
      cookies = cookies;
      script = handler;
      value = 0;
      target = 0;
    } ≡ request p s n kind handler u
unfolding request
made p s n kind handler u eu eh ek ec em =
    rw (em, ec, eh, ek, eu, values_alike (attaches p s u) (λ k. cookie_value s (cookie_index (url_host p u) k)) key_numbers below_eight)
