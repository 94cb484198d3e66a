-- The lines of an input, one after another: those that are left are the last ones of all.
use Rattle.prelude.proofs.Kit.{ℕ, ◌≤◌, ◌<◌, ◌+◌, ◌-◌, ◌^◌, suc, arith, true, Bool, false, ◌||◌, cond, List, ◌∷◌, [], ◌≡◌, sym, ◌∙◌, refl, ap, length, drop, get_or, eqb, length-drop, drop-drop}
use denote.Ref.{Bor}
use lib.Seq.{get_or-drop}
use Rattle.std.specs.Prelude.{Option, Some, None}
use Rattle.std.specs.Option.{option_copied, unwrap_or}
use Rattle.prelude.specs.Choice.{branch}
use Rattle.text.specs.Text.{newline}
use Rattle.cookie.specs.Parts.{has, before, after, behind}
use Rattle.import.specs.Lines.{in_front, lines}

pub no_line : (text : List ℕ) → length text ≡ 0 → lines text ≡ []
unfolding lines
no_line [] e = refl
no_line (x ∷ xs) e = absurd (omega (arith, e))

-- what is left behind the first newline
abbrev left : Option (List ℕ) → List ℕ
left r = unwrap_or r []

first_line : (x : ℕ) (xs : List ℕ) → lines (x ∷ xs) ≡ before newline (x ∷ xs) ∷ lines (left (behind newline (x ∷ xs)))
unfolding lines before has after branch
first_line x [] = go (eqb x newline)
  where
    go : (b : Bool) → branch b ([] ∷ []) ((x ∷ []) ∷ []) ≡ branch b [] (x ∷ []) ∷ lines (left (cond (b || false) (Some (branch b [] [])) None))
    go true = refl
    go false = refl
first_line x (y ∷ ys) = go (eqb x newline) (first_line y ys)
  where
    go : (b : Bool) → lines (y ∷ ys) ≡ before newline (y ∷ ys) ∷ lines (left (behind newline (y ∷ ys)))
        → branch b ([] ∷ lines (y ∷ ys)) (in_front x (lines (y ∷ ys)))
        ≡ branch b [] (x ∷ before newline (y ∷ ys)) ∷ lines (left (cond (b || has newline (y ∷ ys)) (Some (branch b (y ∷ ys) (after newline (y ∷ ys)))) None))
    go true e = refl
    go false e = ap (in_front x) e

first_of : (text : List ℕ) → eqb (length text) 0 ≡ false → lines text ≡ before newline text ∷ lines (left (behind newline text))
first_of [] e = absurd (grind (arith, e))
first_of (x ∷ xs) e = first_line x xs

left_lent : (r : Option (Bor (List ℕ))) (none : Bor (List ℕ)) → none.now ≡ [] → (unwrap_or r none).now ≡ left (option_copied r)
left_lent None none e = e
left_lent (Some rest) none e = refl

-- the line that is cut off, and what is left
pub line_cut : (text : List ℕ) (r : Option (Bor (List ℕ))) (none : Bor (List ℕ)) {line : List ℕ} {rest : Bor (List ℕ)} → eqb (length text) 0 ≡ false → line ≡ before newline text
    → option_copied r ≡ behind newline text → rest ≡ unwrap_or r none → none.now ≡ [] → lines text ≡ line ∷ lines rest.now
line_cut text r none {line} {rest} e f b u n =
    first_of text e ∙ ap (λ l. l ∷ lines (left (behind newline text))) (sym f)
    ∙ ap (λ l. line ∷ lines l) (ap left (sym b) ∙ sym (left_lent r none n) ∙ ap (λ (l : Bor (List ℕ)). l.now) (sym u))

lines_most : (text : List ℕ) → length (lines text) ≤ length text
unfolding lines branch
lines_most [] = omega arith
lines_most (x ∷ xs) = go (eqb x newline) (lines xs) (lines_most xs)
  where
    go : (b : Bool) (rest : List (List ℕ)) → length rest ≤ length xs → length (branch b ([] ∷ rest) (in_front x rest)) ≤ suc (length xs)
    go true rest l = omega (arith, l)
    go false [] l = omega (arith, l)
    go false (line ∷ rest) l = omega (arith, l)

-- n lines were given, and those that are left are the other ones
pub record Splitting (input rest : List ℕ) (n : ℕ) : Type 0 where
  pub known : n ≤ length (lines input)
  pub remains : lines rest ≡ drop n (lines input)

module _ (input : List ℕ) where
  pub splitting_begins : {rest : List ℕ} → rest ≡ input → Splitting input rest 0
  splitting_begins e = record { known = omega arith; remains = ap lines e }

  module _ {rest : List ℕ} {n : ℕ} (s : Splitting input rest n) where
    pub splitting_ends : lines rest ≡ [] → n ≡ length (lines input)
    splitting_ends e = omega (arith, ap length (sym s.remains ∙ e), length-drop n (lines input), s.known)

    module _ {line : List ℕ} {others : List (List ℕ)} (e : lines rest ≡ line ∷ others) where
      here : drop n (lines input) ≡ line ∷ others
      here = sym s.remains ∙ e

      -- it is the next line
      pub line_is : line ≡ get_or (lines input) (n + 1 - 1) []
      line_is =
          let same : n + 1 - 1 ≡ n + 0 = omega arith in
          sym (ap (λ (i : ℕ). get_or (lines input) i []) same ∙ sym (get_or-drop n (lines input) 0 []) ∙ ap (λ (ls : List (List ℕ)). get_or ls 0 []) here)

      pub next_known : n + 1 ≤ length (lines input)
      next_known = omega (arith, ap length here, length-drop n (lines input))

      pub next_few : length input ≤ 65536 → n + 1 < 2 ^ 32
      next_few l = omega (arith, next_known, lines_most input, l)

    pub splitting_goes_on : {line next : List ℕ} → lines rest ≡ line ∷ lines next → Splitting input next (n + 1)
    splitting_goes_on e = record { known = next_known e; remains = sym (ap (drop 1) (here e)) ∙ drop-drop 1 n (lines input) }
