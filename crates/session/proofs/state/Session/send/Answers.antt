-- `Session::send` meets its contract: the fields of the word are those that it packs.
use Rattle.prelude.proofs.Kit.{rules, ◌≡◌, ◌∙◌, refl}
use Rattle.machine.specs.Session.{kind_of, handler_of, url_of}
use Rattle.machine.proofs.ConnectionWords.{kind_packed, handler_packed, url_packed}
use Rattle.session.specs.Kinds.{number_of}
use Rattle.session.specs.Pending.{word_of}
use Rattle.session.proofs.state.Session.send.Goals as goal

pub send_word-requires : goal.send_word-requires
send_word-requires g c =
    let p = c.args.pending in
    let url : url_of (word_of p) ≡ p.url = url_packed (number_of p.kind) p.origin p.handler p.url (search rules) (search rules) (search rules) in
    rw (c.from.ensures, url) c.requires

pub returns-clause-written : goal.returns-clause-written
returns-clause-written g c =
    let p = c.args.pending in
    let kind : kind_of (word_of p) ≡ number_of p.kind = kind_packed (number_of p.kind) p.origin p.handler p.url (search rules) (search rules) (search rules) in
    let handler : handler_of (word_of p) ≡ p.handler = handler_packed (number_of p.kind) p.origin p.handler p.url (search rules) (search rules) (search rules) in
    let url : url_of (word_of p) ≡ p.url = url_packed (number_of p.kind) p.origin p.handler p.url (search rules) (search rules) (search rules) in
    c.send_word.ensures.written ∙ rw (c.from.ensures, kind, handler, url) refl
