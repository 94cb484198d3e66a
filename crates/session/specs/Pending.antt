-- What is pending on a connection, as the code has it, and the word that packs it.
use Rattle.std.specs.Prelude.{ℕ, Option, option_map}
use Rattle.machine.specs.Session.{packed, kind_of, origin_of, handler_of, url_of}
use Rattle.session.specs.declared.pending.Pending.{Pending}
use Rattle.session.specs.Kinds.{number_of, kind_numbered}

abbrev pub word_of : Pending → ℕ
word_of p = packed (number_of p.kind) p.origin p.handler p.url

-- None of a free connection's word, and of a word of no kind
abbrev pub pending_in : ℕ → Option Pending
pending_in w = option_map (λ k. record { kind = k; origin = origin_of w; handler = handler_of w; url = url_of w }) (kind_numbered (kind_of w))
