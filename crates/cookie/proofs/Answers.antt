-- What is answered where a test refuses a line, and where none does.
use Rattle.prelude.proofs.Kit.{ℕ, ◌≤◌, ◌<◌, ◌^◌, suc, arith, true, false, Bool, not, cond, List, ◌≡◌, sym, ◌∙◌, refl, ap, ap₂, length, eqb, T, eqb→eq, lt-ltb, le-ltb, eq-eqb, ne_eqb, eqb·suc_zero}
use borrow.Author.Tests.{eqb-false}
use Rattle.prelude.proofs.Lowest.{lowest_most}
use Rattle.prelude.specs.Refusals.{accepted, first_of}
use Rattle.prelude.proofs.Refusals.{first_is, none_applies}
use Rattle.labels.specs.Addresses.{hosts}
use Rattle.machine.specs.Policy.{host_keys}
use Rattle.text.specs.Numbers.{number_of, is_number, number_read}
use Rattle.std.specs.Prelude.{Option, Some, None}
use Rattle.std.proofs.lemmas.Option.{same_Some, none-some}
use Rattle.std.proofs.lemmas.Bool.{eqb-true}
use Rattle.cookie.specs.declared.attributes.Flags.{Flags}
use Rattle.cookie.specs.Parts.{has, before, after, behind, trim}
use Rattle.cookie.specs.SetCookie.{equals, pair_of, name_of, value_of, flags_of}
use Rattle.cookie.specs.Import.{names_bytes, is_named, key_named, key_of_name, host_unknown, no_name, no_key, no_number, import_refusals, refused, answer, imported}

module _ (host : ℕ) (names line : List ℕ) where
  abbrev first : ℕ
  first = first_of (import_refusals host names (pair_of line)) accepted

  refused_by_lem : (n : ℕ) → first ≡ suc n → imported host names line ≡ refused (suc n)
  unfolding imported
  refused_by_lem n e = rw (e, eqb·suc_zero n)

  pub no_host : hosts ≤ host → imported host names line ≡ refused host_unknown
  no_host l = refused_by_lem 5 (first_is accepted 0 (import_refusals host names (pair_of line)) tt (rw (le-ltb host hosts l)))

  module _ (l : host < hosts) where
    pub no_equals : has equals (pair_of line) ≡ false → imported host names line ≡ refused no_name
    no_equals e = refused_by_lem 13 (first_is accepted 1 (import_refusals host names (pair_of line)) (rw (lt-ltb host hosts l), tt) (rw e))

    module _ (e : has equals (pair_of line) ≡ true) where
      pub no_name_lem : length (name_of (pair_of line)) ≡ 0 → imported host names line ≡ refused no_name
      no_name_lem n = refused_by_lem 13 (first_is accepted 2 (import_refusals host names (pair_of line)) (rw (lt-ltb host hosts l), (rw e, tt)) (eq-eqb (length (name_of (pair_of line))) 0 n))

      module _ (n : length (name_of (pair_of line)) ≡ 0 → ⊥) where
        pub no_names : (length names ≡ names_bytes → ⊥) → imported host names line ≡ refused no_key
        no_names ne =
            refused_by_lem 14 (first_is accepted 3 (import_refusals host names (pair_of line)) (rw (lt-ltb host hosts l), (rw e, (ne_eqb (length (name_of (pair_of line))) 0 n, tt)))
            (rw (ne_eqb (length names) names_bytes ne)))

        module _ (m : length names ≡ names_bytes) where
          pub no_key_lem : key_named names (name_of (pair_of line)) ≡ host_keys → imported host names line ≡ refused no_key
          no_key_lem k =
              refused_by_lem 14 (first_is accepted 4 (import_refusals host names (pair_of line))
              (rw (lt-ltb host hosts l), (rw e, (ne_eqb (length (name_of (pair_of line))) 0 n, (rw (eq-eqb (length names) names_bytes m), tt))))
              (eq-eqb (key_named names (name_of (pair_of line))) host_keys k))

          module _ (k : key_named names (name_of (pair_of line)) ≡ host_keys → ⊥) where
            pub no_number_lem : number_read (value_of (pair_of line)) ≡ None → imported host names line ≡ refused no_number
            no_number_lem v =
                refused_by_lem 15 (first_is accepted 5 (import_refusals host names (pair_of line))
                (rw (lt-ltb host hosts l), (rw e, (ne_eqb (length (name_of (pair_of line))) 0 n, (rw (eq-eqb (length names) names_bytes m), (ne_eqb (key_named names (name_of (pair_of line))) host_keys k, tt)))))
                (go (is_number (value_of (pair_of line))) v))
              where
                go : (b : Bool) → cond b (Some (number_of (value_of (pair_of line)))) None ≡ None → not b ≡ true
                go true v = let z : ◌≡◌ {A = ℕ} 0 1 = cc in absurd (omega arith)
                go false v = refl

            pub is_number_lem : (value : ℕ) → number_read (value_of (pair_of line)) ≡ Some value
                → imported host names line ≡ answer host (key_named names (name_of (pair_of line))) value (flags_of line)
            unfolding imported
            is_number_lem value v = rw (none, sym (go (is_number (value_of (pair_of line))) v).1)
              where
                go : (b : Bool) → cond b (Some (number_of (value_of (pair_of line)))) None ≡ Some value → (not b ≡ false) × (number_of (value_of (pair_of line)) ≡ value)
                go true v = (refl, cc)
                go false v = let z : ◌≡◌ {A = ℕ} 0 1 = cc in absurd (omega arith)

                none : first ≡ accepted
                none =
                    none_applies accepted (import_refusals host names (pair_of line))
                    (rw (lt-ltb host hosts l), (rw e, (ne_eqb (length (name_of (pair_of line))) 0 n, (rw (eq-eqb (length names) names_bytes m), (ne_eqb (key_named names (name_of (pair_of line))) host_keys k, ((go (is_number (value_of (pair_of line))) v).0, tt))))))

-- ---- a line, as it is taken apart

no_behind : (pair : List ℕ) → behind equals pair ≡ None → has equals pair ≡ false
no_behind pair e = go (has equals pair) e
  where
    go : (b : Bool) → cond b (Some (after equals pair)) None ≡ None → b ≡ false
    go true e = absurd (none-some _ (sym e))
    go false e = refl

is_behind : (pair value : List ℕ) → behind equals pair ≡ Some value → (has equals pair ≡ true) × (after equals pair ≡ value)
is_behind pair value e = go (has equals pair) e
  where
    go : (b : Bool) → cond b (Some (after equals pair)) None ≡ Some value → (b ≡ true) × (after equals pair ≡ value)
    go true e = (refl, same_Some _ _ e)
    go false e = absurd (none-some _ e)

pub pair_without : (host : ℕ) (names line : List ℕ) → host < hosts → {pair : List ℕ} {back : Option (List ℕ)} → pair ≡ pair_of line → back ≡ behind equals pair → back ≡ None
    → imported host names line ≡ refused no_name
pair_without host names line l p b e = no_equals host names line l (ap (has equals) (sym p) ∙ no_behind _ (sym b ∙ e))

-- the name of a pair, and what stands behind its first equals sign
pub record Parsed (line name value : List ℕ) : Type 0 where
  pub has_equals : has equals (pair_of line) ≡ true
  pub name_is : name ≡ name_of (pair_of line)
  pub value_is : value ≡ after equals (pair_of line)

pub parsed : {line pair front name value : List ℕ} {back : Option (List ℕ)} → pair ≡ pair_of line → front ≡ before equals pair → back ≡ behind equals pair → back ≡ Some value
    → name ≡ trim front → Parsed line name value
parsed {line} {pair} {name = name} {value = value} p f b e n =
    let is = is_behind pair value (sym b ∙ e) in
    record {
      has_equals = ap (has equals) (sym p) ∙ is.0;
      name_is = n ∙ ap trim (f ∙ ap (before equals) p);
      value_is = sym is.1 ∙ ap (after equals) p;
    }

-- the key is `None` just where no key has the name
key_none : (names name : List ℕ) → key_of_name names name ≡ None → key_named names name ≡ host_keys
key_none names name e = go (eqb (key_named names name) host_keys) (eqb→eq (key_named names name) host_keys) e
  where
    go : (b : Bool) → (T b → key_named names name ≡ host_keys) → cond b None (Some (key_named names name)) ≡ None → key_named names name ≡ host_keys
    go true f e = f tt
    go false f e = absurd (none-some _ (sym e))

pub key_some : (names name : List ℕ) {key : ℕ} → key_of_name names name ≡ Some key → (key_named names name ≡ key) × (key < host_keys)
key_some names name {key} e = go (eqb (key_named names name) host_keys) (eqb-false (key_named names name) host_keys) e
  where
    go : (b : Bool) → (b ≡ false → key_named names name ≡ host_keys → ⊥) → cond b None (Some (key_named names name)) ≡ Some key → (key_named names name ≡ key) × (key < host_keys)
    go true f e = absurd (none-some _ e)
    go false f e =
        let is = same_Some _ _ e in
        (is, omega (arith, is, f refl, lowest_most host_keys (is_named names name)))

module _ (host : ℕ) (names : List ℕ) {line name value : List ℕ} (l : host < hosts) (p : Parsed line name value) where
  pub nameless : eqb (length name) 0 ≡ true → imported host names line ≡ refused no_name
  nameless e = no_name_lem host names line l p.has_equals (ap length (sym p.name_is) ∙ eqb-true (length name) 0 e)

  module _ (some : eqb (length name) 0 ≡ false) where
    named : length (name_of (pair_of line)) ≡ 0 → ⊥
    named e = eqb-false (length name) 0 some (ap length p.name_is ∙ e)

    pub other_names : (length names ≡ names_bytes → ⊥) → imported host names line ≡ refused no_key
    other_names ne = no_names host names line l p.has_equals named ne

    module _ (n : length names ≡ names_bytes) where
      pub keyless : {r : Option ℕ} → r ≡ key_of_name names name → r ≡ None → imported host names line ≡ refused no_key
      keyless k e = no_key_lem host names line l p.has_equals named n (key_none names (name_of (pair_of line)) (ap (key_of_name names) (sym p.name_is) ∙ sym k ∙ e))

      module _ {r : Option ℕ} {key : ℕ} (k : r ≡ key_of_name names name) (e : r ≡ Some key) where
        is_key : (key_named names (name_of (pair_of line)) ≡ key) × (key < host_keys)
        is_key = key_some names (name_of (pair_of line)) (ap (key_of_name names) (sym p.name_is) ∙ sym k ∙ e)

        known : key_named names (name_of (pair_of line)) ≡ host_keys → ⊥
        known z = omega (arith, z, is_key.0, is_key.1)

        pub key_small : key < 2 ^ 32
        key_small = omega (arith, is_key.1)

        module _ {text : List ℕ} (t : text ≡ trim value) {q : Option ℕ} (v : q ≡ number_read text) where
          read : number_read (value_of (pair_of line)) ≡ q
          read = ap (λ l. number_read (trim l)) (sym p.value_is) ∙ ap number_read (sym t) ∙ sym v

          pub numberless : q ≡ None → imported host names line ≡ refused no_number
          numberless z = no_number_lem host names line l p.has_equals named n known (read ∙ z)

          pub answered : {number : ℕ} → q ≡ Some number → {flags : Flags} → flags ≡ flags_of line → imported host names line ≡ answer host key number flags
          answered {number} z f =
              is_number_lem host names line l p.has_equals named n known number (read ∙ z)
              ∙ ap₂ (λ k f. answer host k number f) is_key.0 (sym f)
