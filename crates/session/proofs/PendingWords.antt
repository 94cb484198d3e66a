-- What a word packs: where it tells of something pending, the fields are the word's, and they pack it again.
use Rattle.prelude.proofs.Kit.{ℕ, ◌≡◌, refl, ne_eqb, sym}
use Rattle.std.proofs.Common.{inl, inr}
use Rattle.std.proofs.lemmas.Bool.{cases_eq}
use Rattle.std.specs.Prelude.{Option, Some, None, option_map}
use Rattle.machine.specs.Session.{document_kind, script_kind, picture_kind, kind_of, origin_of, handler_of, url_of}
use Rattle.session.specs.declared.kinds.Kind.{Kind}
use Rattle.session.specs.declared.pending.Pending.{Pending}
use Rattle.session.specs.Kinds.{number_of, kind_numbered}
use Rattle.session.specs.Pending.{word_of, pending_in}
use Rattle.session.proofs.ConnectionTests.{packed_fields}

-- no kind has the number
pub record NoKind (n : ℕ) : Type 0 where
  pub document : n ≡ document_kind → ⊥
  pub script : n ≡ script_kind → ⊥
  pub picture : n ≡ picture_kind → ⊥

abbrev pub Numbered : ℕ → Option Kind → Type 0
Numbered n None = NoKind n
Numbered n (Some k) = number_of k ≡ n

numbered : (n : ℕ) → Numbered n (kind_numbered n)
numbered n = elim (cases_eq n document_kind) [
  | inl d ↦ rw d refl
  | inr nd ↦ elim (cases_eq n script_kind) [
    | inl s ↦ rw s refl
    | inr ns ↦ elim (cases_eq n picture_kind) [
      | inl p ↦ rw p refl
      | inr np ↦ rw (ne_eqb n document_kind nd, ne_eqb n script_kind ns, ne_eqb n picture_kind np) (record { document = nd; script = ns; picture = np })
    ]
  ]
]

-- the fields are the word's
pub record Fields (w : ℕ) (p : Pending) : Type 0 where
  pub kind : number_of p.kind ≡ kind_of w
  pub origin : p.origin ≡ origin_of w
  pub handler : p.handler ≡ handler_of w
  pub url : p.url ≡ url_of w

abbrev pub Unpacked : ℕ → Option Pending → Type 0
Unpacked w None = NoKind (kind_of w)
Unpacked w (Some p) = Fields w p

pub unpacked : (w : ℕ) → Unpacked w (pending_in w)
unpacked w = go (kind_numbered (kind_of w)) (numbered (kind_of w))
  where
    go : (k : Option Kind) → Numbered (kind_of w) k
        → Unpacked w (option_map (λ k. record { kind = k; origin = origin_of w; handler = handler_of w; url = url_of w }) k)
    go None none = none
    go (Some k) e = record { kind = e; origin = refl; handler = refl; url = refl }

-- and they pack it again
pub packs : (w : ℕ) (p : Pending) → Fields w p → word_of p ≡ w
packs w p f = rw (f.kind, f.origin, f.handler, f.url) (sym (packed_fields w))
