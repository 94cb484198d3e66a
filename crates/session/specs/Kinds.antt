-- The kinds of connection as the code has them, by their numbers; and the shapes of an open connection's word, whatever
-- the policy: its kind, and the other fields in their ranges.
use Rattle.std.specs.Prelude.{ℕ, Bool, ◌&&◌, ltb, eqb, ◌==◌, Option, Some, None, if◌then◌else◌}
use Rattle.machine.specs.Policy.{url_rows}
use Rattle.machine.specs.Session.{document_kind, script_kind, picture_kind, script_count, bare_fields, kind_of, origin_of, handler_of, url_of}
use Rattle.session.specs.declared.kinds.Kind.{Kind}
use Rattle.session.specs.declared.kinds.Kind.TheVariants.{Document, Script, Picture}

abbrev pub number_of : Kind → ℕ
number_of Document = document_kind
number_of Script = script_kind
number_of Picture = picture_kind

abbrev pub kind_numbered : ℕ → Option Kind
kind_numbered n =
    if n == document_kind then Some Document
    else if n == script_kind then Some Script
    else if n == picture_kind then Some Picture
    else None

-- of a document or a picture
unfoldable pub bare_shape : ℕ → Bool
bare_shape w = bare_fields (kind_of w) (origin_of w) (handler_of w) && ltb (url_of w) url_rows

-- of one of the two
unfoldable pub bare_word : ℕ → ℕ → Bool
bare_word kind w =
    eqb (kind_of w) kind
    && (eqb (origin_of w) 0
    && (eqb (handler_of w) 0
    && ltb (url_of w) url_rows))

-- of a script's request
unfoldable pub script_shape : ℕ → Bool
script_shape w =
    eqb (kind_of w) script_kind
    && (ltb (origin_of w) url_rows
    && (ltb (handler_of w) script_count
    && ltb (url_of w) url_rows))
