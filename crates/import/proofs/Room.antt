-- The text of a line by its answer, and how much room its pieces take at most.
use Rattle.prelude.proofs.Kit.{ℕ, ◌≤◌, ◌<◌, ◌+◌, ◌*◌, arith, true, false, Bool, List, ◌∷◌, [], ◌++◌, ◌≡◌, sym, ◌∙◌, ap, subst, length, length-append, eq-eqb, ne_eqb}
use Rattle.prelude.specs.Refusals.{accepted}
use Rattle.labels.specs.Addresses.{hosts}
use Rattle.machine.specs.Policy.{cookie_labels_at, cookie_index, host_keys}
use Rattle.text.specs.Text.{ascii, space, decimal, hex_word}
use Rattle.text.proofs.Decimals.{decimal_ten, number_room}
use Rattle.cookie.specs.declared.Imported.{Imported}
use Rattle.cookie.specs.Import.{imported}
use Rattle.cookie.proofs.Guarantees.{lowest_key_is_told, readers_are_the_hosts}
use Rattle.import.specs.Report.{word_text, key_and_value, flag_text, settled_text, refusal_text, answer_text, word_room}

pub word_room_lem : (host key readers : ℕ) → length (word_text host key readers) ≤ word_room
word_room_lem host key readers =
    let word = cookie_labels_at + 2 * cookie_index host key in
    omega (arith, number_room word space, length-append (decimal word ++ (space ∷ [])) (ascii "= 0x" ++ hex_word readers))

pub pair_room : (key value : ℕ) → length (key_and_value key value) ≤ 34
pair_room key value = omega (arith, decimal_ten key, decimal_ten value, length-append (decimal key) (ascii ", value " ++ decimal value))

pub flag_room : (on : Bool) (text : List ℕ) → length (flag_text on text) ≤ length text
flag_room true text = omega arith
flag_room false text = omega arith

-- ---- what is printed, by whether the line is refused

module _ (nth host : ℕ) (r : Imported) where
  pub refused_text : (r.number ≡ accepted → ⊥) → answer_text nth host r ≡ (decimal nth ++ (0x3a ∷ [])) ++ (ascii " " ++ refusal_text r.number)
  refused_text ne = rw (ne_eqb r.number accepted ne)

  pub settled_text_lem : r.number ≡ accepted → answer_text nth host r ≡ (decimal nth ++ (0x3a ∷ [])) ++ (ascii " " ++ settled_text host r)
  settled_text_lem e = rw (eq-eqb r.number accepted e)

-- a line that is accepted settles a key of the host
pub settles : (host : ℕ) (names text : List ℕ) {r : Imported} → r ≡ imported host names text → r.number ≡ accepted → (host < hosts) × (r.key < host_keys)
settles host names text {r} e ok =
    let accepts = sym (ap (λ (a : Imported). a.number) e) ∙ ok in
    ((readers_are_the_hosts host names text accepts).0, subst (λ (a : Imported). a.key < host_keys) (sym e) (lowest_key_is_told host names text accepts).0)
