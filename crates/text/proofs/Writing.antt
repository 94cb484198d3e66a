-- Pieces written one after another are written as one, and what is written from place 0 on is at the front.
use Rattle.prelude.proofs.Kit.{ℕ, ◌≤◌, ◌+◌, zero-add, arith, List, [], ◌++◌, ◌≡◌, sym, ◌∙◌, refl, ap, length, take, drop}
use Rattle.prelude.proofs.Kit.{length-append, sets, take_all}
use lib.Seq.{take_at, length-sets, sets-eq}
use borrow.Rule.Slice.PartMut.{put_mid}
use Rattle.std.proofs.lemmas.Slice.{put_mid-paste}
use Rattle.prelude.proofs.Lists.{sets_append}
use Rattle.text.specs.declared.Writer.{Writer}
use Rattle.text.specs.Text.{AtFront, Wrote}
use Rattle.text.specs.Writing.{written, Writes}

pub wrote_then : {l m n x y : List ℕ} {i j k : ℕ} → Wrote l i x m j → Wrote m j y n k → Wrote l i (x ++ y) n k
wrote_then {l} {m} {n} {x} {y} {i} f g = record {
  place = omega (arith, f.place, g.place, length-append x y);
  within = omega (arith, g.within, ap length f.written, length-sets l i x);
  written = rw (sets_append x y l i, ← f.place, ← f.written) g.written;
}

pub at_front_lem : {l m x : List ℕ} {k : ℕ} → Wrote l 0 x m k → AtFront x l m k
at_front_lem {l} {m} {x} f = (
  f.place ∙ zero-add (length x),
  f.written ∙ sets-eq x l 0 (omega (arith, f.place, f.within)) ∙ ap (λ (i : ℕ). x ++ drop i l) (zero-add (length x)),
)

-- what is at the front of a text is its first bytes
pub front_is : (x l m : List ℕ) (k : ℕ) → AtFront x l m k → take k m ≡ x
front_is x l m k f = rw (f.0, f.1) (take_at x (drop (length x) l) (length x) refl)

-- ---- a writer

pub writes_nothing : (w : Writer) → Writes w [] w
writes_nothing w = record { same_memory = refl; same_length = refl; wrote = record { place = omega arith; within = w.within; written = refl } }

pub writes_then : {w v u : Writer} {x y : List ℕ} → Writes w x v → Writes v y u → Writes w (x ++ y) u
writes_then f g = record {
  same_memory = g.same_memory ∙ f.same_memory;
  same_length = g.same_length ∙ f.same_length;
  wrote = wrote_then f.wrote g.wrote;
}

-- what one that had written nothing has written
pub writes_all : {w v : Writer} {x : List ℕ} → w.end ≡ 0 → Writes w x v → written v ≡ x
writes_all {w} {v} {x} e f =
    let wrote : Wrote w.buffer.now 0 x v.buffer.now v.end = rw e at f.wrote in
    front_is x w.buffer.now v.buffer.now v.end (at_front_lem wrote)

-- In a loop: what is left to write leads to where all leads.
abbrev pub Leads : Writer → List ℕ → Writer → List ℕ → Type 0
Leads first whole now left = (last : Writer) → Writes now left last → Writes first whole last

module _ {first : Writer} {whole : List ℕ} {now : Writer} {left : List ℕ} (leads : Leads first whole now left) where
  pub leads_on : {next : Writer} {piece rest : List ℕ} → left ≡ piece ++ rest → Writes now piece next → Leads first whole next rest
  leads_on e f last g = leads last (rw e (writes_then f g))

  pub leads_end : left ≡ [] → Writes first whole now
  leads_end e = leads now (rw e (writes_nothing now))

-- ---- a copy into a part of a buffer

pub copied : (l ys bytes : List ℕ) (i k : ℕ) → i + length bytes ≤ length l → k ≡ length bytes → ys ≡ bytes → put_mid i k l ys ≡ sets l i bytes
copied l ys bytes i k h e f =
    put_mid-paste i k l ys bytes k f refl e
    ∙ rw (e, take_all (length bytes) bytes (omega arith)) (sym (sets-eq bytes l i h))
