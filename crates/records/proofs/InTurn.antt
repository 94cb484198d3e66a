-- Fields written one after another are written as one list of bytes.
use Rattle.prelude.proofs.Kit.{ℕ, ◌≤◌, ◌<◌, ◌+◌, ◌*◌, pred, add-zero, zero-add, one-mul, ◌%◌, ◌/◌, ◌^◌, div-one, mod-eq_of_lt, arith, List, ◌∷◌, [], ◌++◌, append_assoc, append-nil, ◌≡◌, sym}
use Rattle.prelude.proofs.Kit.{◌∙◌, refl, ap, subst, length, length-append, take, drop, sets}
use lib.Seq.{length-sets, sets-eq}
use borrow.Rule.Slice.PartMut.{put_mid}
use Rattle.std.proofs.lemmas.Slice.{put_mid-paste}
use Rattle.std.proofs.lemmas.List.Edits.{paste_all}
use native.Mathlib.Nat.{add_assoc, zero-mul}
use Rattle.prelude.proofs.Lists.{sets_append}
use Rattle.records.specs.declared.Record.{Record}
use Rattle.records.specs.Bytes.{bit, digits}
use Rattle.records.specs.Layout.{widths, start, sum, join, values, size}
use Rattle.records.specs.Codec.{bytes_of}
use Rattle.records.specs.Places.{front_widths, cookie_widths, back_widths}
use Rattle.records.specs.Writing.{Wrote}
use Rattle.records.proofs.Joining.{spelt, spelt_is, with_cookies_lem}

module _ (at : ℕ) (out : List ℕ) where
  pub wrote : (bytes : List ℕ) {next : ℕ} {after : List ℕ} → next ≡ at + length bytes → after ≡ sets out at bytes → Wrote at out bytes next after
  wrote bytes p h = record { place = p; held = h; long = rw h (length-sets out at bytes) }

  -- what a copy into the part of the buffer from a place on leaves
  pub copied : (bytes after : List ℕ) (n : ℕ) → at + length bytes ≤ length out → n ≡ length bytes → after ≡ bytes → put_mid at n out after ≡ sets out at bytes
  copied bytes after n fit e same =
      let held : sets out at bytes ≡ take at out ++ (bytes ++ drop (at + length bytes) out) = sets-eq bytes out at fit ∙ append_assoc (take at out) bytes (drop (at + length bytes) out) in
      put_mid-paste at n out after bytes (length bytes) same (sym e) refl ∙ paste_all out at bytes (length bytes) refl ∙ sym held

  pub wrote_none : Wrote at out [] at out
  wrote_none = record { place = sym (add-zero at); held = refl; long = refl }

  pub wrote_twice : (xs ys : List ℕ) {n1 n2 : ℕ} {o1 o2 : List ℕ} → Wrote at out xs n1 o1 → Wrote n1 o1 ys n2 o2 → Wrote at out (xs ++ ys) n2 o2
  wrote_twice xs ys {n1} {n2} {o1} {o2} f g =
      wrote (xs ++ ys) (omega (arith, f.place, g.place, length-append xs ys))
      (g.held ∙ rw (f.held, f.place) (sym (sets_append xs ys out at)))

pub front_widths_lem : (m : ℕ) → front_widths m ≡ bit m 0 ∷ bit m 1 ∷ bit m 2 ∷ []
unfolding front_widths widths
front_widths_lem m = rw (one-mul (bit m 0), one-mul (bit m 1), one-mul (bit m 2))

pub front_end : (m keys : ℕ) → start 3 m keys ≡ 1 + bit m 0 + bit m 1 + bit m 2
unfolding start widths
front_end m keys = omega arith

pub back_widths_lem : (m : ℕ) → back_widths m ≡ bit m 3 ∷ 4 * bit m 4 ∷ bit m 5 ∷ []
unfolding back_widths widths
back_widths_lem m = rw (one-mul (bit m 3), one-mul (bit m 5))

-- ---- the whole record: what comes before the cookie values, those values, and what comes after them
sum_append : (a b : List ℕ) → sum (a ++ b) ≡ sum a + sum b
sum_append [] b = sym (zero-add (sum b))
sum_append (x ∷ a) b = ap (λ (n : ℕ). x + n) (sum_append a b) ∙ sym (add_assoc x (sum a) (sum b))

join_append : (ws us : List ℕ) (vs xs : List ℕ) → length vs ≡ length ws → join (ws ++ us) (vs ++ xs) ≡ join ws vs ++ join us xs
unfolding join
join_append [] us [] xs e = refl
join_append [] us (v ∷ vs) xs e = absurd (omega arith)
join_append (w ∷ ws) us [] xs e = absurd (omega arith)
join_append (w ∷ ws) us (v ∷ vs) xs e =
    ap (λ (l : List ℕ). digits w v ++ l) (join_append ws us vs xs (ap pred e)) ∙ sym (append_assoc (digits w v) (join ws vs) (join us xs))

-- the widths of the three, and 0 for the part without bytes
pub widths_split : (m keys : ℕ) → widths m keys ≡ front_widths m ++ (cookie_widths keys ++ (back_widths m ++ (0 ∷ [])))
unfolding widths front_widths cookie_widths back_widths
widths_split m keys = rw (zero-mul (bit m 6))

pub front_sum : (m keys : ℕ) → start 3 m keys ≡ 1 + sum (front_widths m)
unfolding start front_widths widths
front_sum m keys = refl

pub size_split : (m keys : ℕ) → size m keys ≡ start 3 m keys + sum (cookie_widths keys) + sum (back_widths m)
unfolding size
size_split m keys =
    rw (widths_split m keys, sum_append (front_widths m) (cookie_widths keys ++ (back_widths m ++ (0 ∷ []))), sum_append (cookie_widths keys) (back_widths m ++ (0 ∷ [])), sum_append (back_widths m) (0 ∷ []), front_sum m keys)
    (omega arith)

-- the place after the cookie values
script_split : (m keys : ℕ) → take 11 (widths m keys) ≡ front_widths m ++ cookie_widths keys
unfolding widths front_widths cookie_widths
script_split m keys = refl

pub script_start : (m keys : ℕ) → start 11 m keys ≡ start 3 m keys + sum (cookie_widths keys)
unfolding start
script_start m keys = rw (script_split m keys, sum_append (front_widths m) (cookie_widths keys)) (omega (arith, front_sum m keys))

module _ (r : Record) (eight : length r.cookies ≡ 8) where
  abbrev front : List ℕ
  front = r.map ∷ join (front_widths r.map) (r.url ∷ r.connection ∷ r.keys ∷ [])

  abbrev cookies : List ℕ
  cookies = join (cookie_widths r.keys) r.cookies

  abbrev back : List ℕ
  back = join (back_widths r.map) (r.script ∷ r.value ∷ r.target ∷ [])

  pub values_split : values r ≡ (r.url ∷ r.connection ∷ r.keys ∷ []) ++ (r.cookies ++ (r.script ∷ r.value ∷ r.target ∷ 0 ∷ []))
  unfolding values spelt with_cookies_lem
  values_split =
      subst (λ (cs : List ℕ). values (with_cookies_lem r cs) ≡ (r.url ∷ r.connection ∷ r.keys ∷ []) ++ (cs ++ (r.script ∷ r.value ∷ r.target ∷ 0 ∷ [])))
      (spelt_is 8 r.cookies eight) refl

  pub front_count : length (r.url ∷ r.connection ∷ r.keys ∷ []) ≡ length (front_widths r.map)
  unfolding front_widths widths
  front_count = refl

  pub cookie_count : length r.cookies ≡ length (cookie_widths r.keys)
  unfolding cookie_widths widths
  cookie_count = eight

  pub back_count : length (r.script ∷ r.value ∷ r.target ∷ []) ≡ length (back_widths r.map)
  unfolding back_widths widths
  back_count = refl

  -- the part without bytes is joined as nothing
  back_joined : join (back_widths r.map ++ (0 ∷ [])) (r.script ∷ r.value ∷ r.target ∷ 0 ∷ []) ≡ back
  unfolding join digits
  back_joined = join_append (back_widths r.map) (0 ∷ []) (r.script ∷ r.value ∷ r.target ∷ []) (0 ∷ []) back_count ∙ append-nil back

  bytes_split : bytes_of r ≡ front ++ (cookies ++ back)
  unfolding bytes_of
  bytes_split =
      rw (widths_split r.map r.keys, values_split, join_append (front_widths r.map) (cookie_widths r.keys ++ (back_widths r.map ++ (0 ∷ []))) (r.url ∷ r.connection ∷ r.keys ∷ []) (r.cookies ++ (r.script ∷ r.value ∷ r.target ∷ 0 ∷ [])) front_count, join_append (cookie_widths r.keys) (back_widths r.map ++ (0 ∷ [])) r.cookies (r.script ∷ r.value ∷ r.target ∷ 0 ∷ []) cookie_count, back_joined)

  abbrev m : ℕ
  m = r.map

  byte : (v : ℕ) → v < 256 → v / 256 ^ 0 % 256 ≡ v
  byte v l = rw (div-one v, mod-eq_of_lt l)

  -- the six that are written in turn, the first of them map, URL and connection
  pub in_turn : bit m 0 ≡ 1 → bit m 1 ≡ 1 → r.url < 256 → r.connection < 256
      → bytes_of r ≡ (m ∷ r.url ∷ r.connection ∷ []) ++ (digits (bit m 2) r.keys ++ (cookies
      ++ (digits (bit m 3) r.script ++ (digits (4 * bit m 4) r.value ++ digits (bit m 5) r.target))))
  unfolding join digits
  in_turn has_url has_connection u c =
      bytes_split
      ∙ rw (front_widths_lem m, back_widths_lem m, has_url, has_connection, append-nil (digits (bit m 5) r.target)) (rw (byte r.url u, byte r.connection c, append-nil (digits (bit m 2) r.keys)))

  pub turns_long : bit m 0 ≡ 1 → bit m 1 ≡ 1 → r.url < 256 → r.connection < 256
      → length (bytes_of r) ≡ 3 + (length (digits (bit m 2) r.keys) + (length cookies
      + (length (digits (bit m 3) r.script) + (length (digits (4 * bit m 4) r.value) + length (digits (bit m 5) r.target)))))
  turns_long has_url has_connection u c = ap length (in_turn has_url has_connection u c) ∙ simp length-append (omega arith)
