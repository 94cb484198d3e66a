-- A cookie that is read, and a picture that is requested.
use Rattle.prelude.proofs.Kit.{ℕ, ◌<◌, ◌+◌, suc, add-one, true, ◌&&◌, Bool, List, ◌≡◌, ap, ◌∙◌, lt-ltb, set}
use mathlib.Core.Bool.{and_comm}
use Rattle.prelude.proofs.Choices.{chosen}
use Rattle.machine.specs.Policy.{host_keys, cookie_index, url_host, upgraded, may_read}
use Rattle.machine.specs.Session.{picture_kind, cookie_value, present}
use Rattle.machine.specs.Scripts.{Step, is_register, is_key, read_cookie, send_picture, goes_on, requested, step}
use Rattle.session.specs.Output.{Output}
use Rattle.scripts.specs.Reached.{Reached, after}

module _ (p : List ℕ) (n page i : ℕ) (rs s : List ℕ) where
  -- step 3, where the code's test passes
  pub read_goes_on : (a k : ℕ) {r j h v : ℕ} {may there : Bool} → r ≡ a → j ≡ k → j < host_keys → h ≡ url_host p page
      → may ≡ may_read p n (cookie_index h j) → there ≡ present s h j → is_register r && (there && may) ≡ true → v ≡ cookie_value s (cookie_index h j)
      → goes_on (i + 1) (set rs r v) s ≡ step p n page (read_cookie a k) i rs s
  unfolding step
  read_goes_on a k {r} {j} {h} {v} {may} {there} er ej l eh em et t ev =
      rw (← er, ← ej, add-one i)
      (chosen (is_register r && (there && may)) _ _ _ tests t
      (ap (λ (x : ℕ). goes_on (suc i) (set rs r x) s) (ev ∙ ap (λ (x : ℕ). cookie_value s (cookie_index x j)) eh)))
    where
      tests : is_register r && (there && may) ≡ is_register r && (is_key j && (may_read p n (cookie_index (url_host p page) j) && present s (url_host p page) j))
      tests = rw (lt-ltb j host_keys l, ← eh, em, et) (ap (λ (b : Bool). is_register r && b) (and_comm (present s h j) (may_read p n (cookie_index h j))))

  -- step 7 requests what has the picture's kind, and neither origin nor handler, of the URL that is asked for in place of its own
  pub pictured : (u m : ℕ) (o : Output) {x : Reached} {told : Step} {kind origin h url : ℕ} → x ≡ after (requested p n kind origin h url m i rs s) o
      → kind ≡ picture_kind → origin ≡ 0 → h ≡ 0 → url ≡ upgraded p u → send_picture u m ≡ told → x ≡ after (step p n page told i rs s) o
  unfolding step
  pictured u m o e ek eo eh eu et = e ∙ rw (ek, eo, eh, eu, ← et)
