-- The attributes of a line, one after another: those that were passed and those that are left make all.
use Rattle.prelude.proofs.Kit.{ℕ, ◌≤◌, suc, arith, true, Bool, false, ◌||◌, List, ◌∷◌, [], ◌≡◌, sym, ◌∙◌, refl, ap, ap₂, length, drop, eqb, cond}
use Rattle.std.specs.Prelude.{Option, Some, None}
use Rattle.std.specs.Option.{option_copied}
use denote.Ref.{Bor}
use Rattle.prelude.specs.Choice.{branch}
use Rattle.cookie.specs.Parts.{has, before, after, behind}
use Rattle.cookie.specs.SetCookie.{semicolon, attributes, is_called, some_called, secure_word, http_only_word, flags_of}
use Rattle.cookie.specs.declared.attributes.Flags.{Flags}

-- no attribute begins before the next `;`
pub no_attribute : (line : List ℕ) → attributes line ≡ attributes (drop (length (before semicolon line)) line)
unfolding attributes before branch
no_attribute [] = refl
no_attribute (x ∷ xs) = go (eqb x semicolon) refl (no_attribute xs)
  where
    go : (b : Bool) → eqb x semicolon ≡ b → attributes xs ≡ attributes (drop (length (before semicolon xs)) xs)
        → attributes (x ∷ xs) ≡ attributes (drop (length (branch b [] (x ∷ before semicolon xs))) (x ∷ xs))
    go true q e = refl
    go false q e = rw q e

-- so the flags of a line are those of what follows its pair
pub flags_after : (line : List ℕ) → flags_of (drop (length (before semicolon line)) line) ≡ flags_of line
unfolding flags_of
flags_after line = rw (← no_attribute line)

-- the attributes of what is left behind a `;`
abbrev pub in_left : Option (List ℕ) → List (List ℕ)
in_left None = []
in_left (Some rest) = before semicolon rest ∷ attributes rest

in_behind : (line : List ℕ) → attributes line ≡ in_left (behind semicolon line)
unfolding attributes has after branch
in_behind [] = refl
in_behind (x ∷ xs) = go (eqb x semicolon) (in_behind xs)
  where
    go : (b : Bool) → attributes xs ≡ in_left (behind semicolon xs)
        → branch b (before semicolon xs ∷ attributes xs) (attributes xs) ≡ in_left (cond (b || has semicolon xs) (Some (branch b xs (after semicolon xs))) None)
    go true e = refl
    go false e = e

-- it gets shorter
abbrev pub left_long : Option (List ℕ) → ℕ
left_long None = 0
left_long (Some rest) = suc (length rest)

pub behind_shorter : (line : List ℕ) → left_long (behind semicolon line) ≤ length line
unfolding has after branch
behind_shorter [] = omega arith
behind_shorter (x ∷ xs) = go (eqb x semicolon) (behind_shorter xs)
  where
    go : (b : Bool) → left_long (behind semicolon xs) ≤ length xs
        → left_long (cond (b || has semicolon xs) (Some (branch b xs (after semicolon xs))) None) ≤ suc (length xs)
    go true l = omega arith
    go false l = omega (arith, l)

-- the attributes that were passed raised the flags
pub record Flagging (line : List ℕ) (flags : Flags) (left : Option (List ℕ)) : Type 0 where
  pub secure : flags.secure || some_called secure_word (in_left left) ≡ some_called secure_word (attributes line)
  pub http_only_at : flags.http_only || some_called http_only_word (in_left left) ≡ some_called http_only_word (attributes line)

raised : (a b c : Bool) → (a || b) || c ≡ a || (b || c)
raised true b c = refl
raised false b c = refl

or-false : (a : Bool) → a || false ≡ a
or-false true = refl
or-false false = refl

pub nothing_left : (left : Option (Bor (List ℕ))) → ((rest : Bor (List ℕ)) → left ≡ Some rest → ⊥) → option_copied left ≡ None
nothing_left None none = refl
nothing_left (Some rest) none = absurd (none rest refl)

module _ (line : List ℕ) where
  pub flagging_begins : {flags : Flags} → flags.secure ≡ false → flags.http_only ≡ false → {left : Option (List ℕ)} → left ≡ behind semicolon line → Flagging line flags left
  flagging_begins {flags} s h {left} e = record {
    secure = rw (s, e) (ap (some_called secure_word) (sym (in_behind line)));
    http_only_at = rw (h, e) (ap (some_called http_only_word) (sym (in_behind line)));
  }

  module _ {flags : Flags} {left : Option (List ℕ)} (f : Flagging line flags left) where
    pub flagging_ends : left ≡ None → flags ≡ flags_of line
    unfolding flags_of some_called
    flagging_ends e = ap₂ (λ (s h : Bool). record { secure = s; http_only = h }) (sym (or-false flags.secure) ∙ (rw e at f.secure)) (sym (or-false flags.http_only) ∙ (rw e at f.http_only_at))

    module _ {rest attribute : List ℕ} {next : Option (List ℕ)} (l : left ≡ Some rest) (a : attribute ≡ before semicolon rest) (n : next ≡ behind semicolon rest) where
      called : (word : List ℕ) (b c : Bool) → c ≡ b || is_called word attribute
          → b || some_called word (in_left left) ≡ some_called word (attributes line)
          → c || some_called word (in_left next) ≡ some_called word (attributes line)
      unfolding some_called
      called word b c e g =
          rw (e, a, n, raised b (is_called word (before semicolon rest)) (some_called word (in_left (behind semicolon rest))))
          (ap (λ (all : List (List ℕ)). b || (is_called word (before semicolon rest) || some_called word all)) (sym (in_behind rest)) ∙ (rw l at g))

      pub flagging_goes_on : {later : Flags} → (later.secure ≡ flags.secure || is_called secure_word attribute)
          × (later.http_only ≡ flags.http_only || is_called http_only_word attribute) → Flagging line later next
      flagging_goes_on {later} e = record {
        secure = called secure_word flags.secure later.secure e.0 f.secure;
        http_only_at = called http_only_word flags.http_only later.http_only e.1 f.http_only_at;
      }
