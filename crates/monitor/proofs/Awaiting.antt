-- What is known of a connection on which a response or a redirect is awaited.
use Rattle.prelude.proofs.Kit.{ℕ, ◌<◌, true, ◌&&◌, ◌||◌, Bool, false, not, List, ◌≡◌, sym, refl, ap, subst, T, eqb, eqb→eq, ltb→lt, length, ne_eqb, ⊎_elim, arith}
use Rattle.std.proofs.Common.{inl, inr}
use Rattle.std.proofs.lemmas.Bool.{cases_eq}
use Rattle.prelude.proofs.Choices.{parts}
use Rattle.labels.proofs.Below.{or_cases}
use Rattle.machine.specs.Policy.{connections, well_formed}
use Rattle.machine.specs.Session.{free, state_words, connection_word, document_kind, script_kind, picture_kind, script_count, bare_fields, script_fields, kind_sound, kind_of, origin_of, handler_of, sound}
use Rattle.machine.specs.Machine.{Event, Arrival, pending, of_kind, awaited}
use Rattle.machine.specs.Machine as machine
use Rattle.machine.proofs.SoundStates.{sound_of, word_fields, script_fields_lem}
use Rattle.policy.specs.Given.{Url}
use Rattle.policy.proofs.Rows.{named_url}
use Rattle.records.specs.declared.Record.{Record}
use Rattle.session.specs.declared.kinds.Kind.{Kind}
use Rattle.session.specs.declared.kinds.Kind.TheVariants.{Document, Script, Picture}
use Rattle.session.specs.declared.pending.Pending.{Pending}
use Rattle.session.specs.Kinds.{number_of}
use Rattle.session.proofs.PendingWords.{NoKind, Fields}
use Rattle.monitor.specs.declared.arrived.Arrived.{Arrived}
use Rattle.monitor.specs.declared.arrived.Arrived.TheVariants.{DocumentResponse, ScriptResponse, PictureResponse, Redirect}
use Rattle.monitor.specs.Events.{told, arrival}
use Rattle.monitor.specs.Given.{Holds}

-- a kind that is sound is one of three
some_kind : (p : List ℕ) (k o h : ℕ) → NoKind k → T (kind_sound p k o h) → ⊥
unfolding kind_sound
some_kind p k o h none t =
    ⊎_elim
    (λ bare. let kinds : T (eqb k document_kind || eqb k picture_kind) = search parts in
    ⊎_elim (λ d. none.document (eqb→eq k document_kind d)) (λ q. none.picture (eqb→eq k picture_kind q)) (or_cases (eqb k document_kind) (eqb k picture_kind) kinds))
    (λ script. let is_script : T (eqb k script_kind) = search parts in none.script (eqb→eq k script_kind is_script))
    (or_cases (bare_fields k o h) (script_fields p k o h) t)

-- a word of no kind is a free connection's
word_free : (p s : List ℕ) (n : ℕ) → T (sound p s) → n < connections → NoKind (kind_of (connection_word s n)) → connection_word s n ≡ free
word_free p s n safe l none =
    let w = connection_word s n in
    elim (cases_eq w free) [
      | inl e ↦ e
      | inr ne ↦
          let is_open : T (not (eqb w free)) = subst T (sym (ap not (ne_eqb w free ne))) tt in
          let fields = word_fields p n w ((sound_of p (λ _. Unit {0}) s safe (λ _ _. tt)).words n l) is_open in
          let kind : T (kind_sound p (kind_of w) (origin_of w) (handler_of w)) = search parts in absurd (some_kind p (kind_of w) (origin_of w) (handler_of w) none kind)
    ]

-- nothing is awaited on one
pub none_awaited : (p s : List ℕ) (from : Record) (what : machine.Arrived) → T (sound p s) → from.connection < connections
    → NoKind (kind_of (connection_word s from.connection)) → awaited s (arrival from what) ≡ false
unfolding awaited pending
none_awaited p s from what safe l none = rw (word_free p s from.connection safe l none) refl

-- a word that packs something is not a free connection's
packs_open : (w : ℕ) (k : Kind) → number_of k ≡ kind_of w → eqb w free ≡ false
unfolding kind_of
packs_open w Document e = ne_eqb w free (λ z. omega arith)
packs_open w Script e = ne_eqb w free (λ z. omega arith)
packs_open w Picture e = ne_eqb w free (λ z. omega arith)

-- the test of the code
pub awaited_is : (s : List ℕ) (from : Record) (what : machine.Arrived) (q : Pending) → Fields (connection_word s from.connection) q
    → eqb q.url from.url && of_kind (number_of q.kind) what ≡ awaited s (arrival from what)
unfolding awaited pending
awaited_is s from what q f =
    rw (packs_open (connection_word s from.connection) q.kind f.kind, f.kind, f.url)

-- the connection that waits for something names what handles it
pub held : (p s : List ℕ) (from : Record) (q : Pending) (what : Arrived) → T (well_formed p) → T (sound p s) → from.connection < connections → Url p from.url
    → Fields (connection_word s from.connection) q → eqb q.url from.url && of_kind (number_of q.kind) (told what) ≡ true → Holds p q what
held p s from q (DocumentResponse script) formed safe l url f e =
    let t : T (eqb q.url from.url && eqb (number_of q.kind) document_kind) = subst T (sym e) tt in
    subst (Url p) (sym (eqb→eq q.url from.url (search parts))) url
held p s from q (ScriptResponse v) formed safe l url f e =
    let w = connection_word s from.connection in
    let t : T (eqb q.url from.url && eqb (number_of q.kind) script_kind) = subst T (sym e) tt in
    let is_script : T (eqb (kind_of w) script_kind) = rw f.kind at (let k : T (eqb (number_of q.kind) script_kind) = search parts in k) in
    let is_open : T (not (eqb w free)) = subst T (sym (ap not (packs_open w q.kind f.kind))) tt in
    let word = word_fields p from.connection w ((sound_of p (λ _. Unit {0}) s safe (λ _ _. tt)).words from.connection l) is_open in
    let fields = script_fields_lem p (kind_of w) (origin_of w) (handler_of w) (search parts) is_script in
    (subst (Url p) (sym f.origin) (named_url p (origin_of w) formed fields.0), rw f.handler (ltb→lt (handler_of w) script_count fields.1))
held p s from q PictureResponse formed safe l url f e = tt
held p s from q (Redirect t) formed safe l url f e = tt

-- a third test beside two
pub two_fail : (a b c : Bool) → a && b ≡ false → a && (b && c) ≡ false
two_fail true true c e = absurd (cc)
two_fail true false c e = refl
two_fail false b c e = refl

pub third_fails : (a b c : Bool) → c ≡ false → a && (b && c) ≡ false
third_fails true true c e = e
third_fails true false c e = refl
third_fails false b c e = refl

pub three_pass : (a b c : Bool) → a && b ≡ true → c ≡ true → a && (b && c) ≡ true
three_pass true true c e f = f
three_pass true false c e f = absurd (cc)
three_pass false b c e f = absurd (cc)

-- a sound state has all its words
pub sound_length : (p s : List ℕ) → sound p s ≡ true → length s ≡ state_words
sound_length p s e = (sound_of p (λ _. Unit {0}) s (subst T (sym e) tt) (λ _ _. tt)).whole
