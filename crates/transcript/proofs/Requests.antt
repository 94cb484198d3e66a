-- The requests at the front of some bytes, one by one: where the first is one, its line comes first.
use Rattle.prelude.proofs.Kit.{ℕ, ◌≤◌, ◌<◌, ◌-◌, List, [], ◌++◌, ◌≡◌, sym, ◌∙◌, arith, ap, length, length-append, take, drop}
use Rattle.std.specs.Prelude.{Ok, Err, ◌≢◌}
use Rattle.prelude.specs.Refusals.{accepted}
use Rattle.prelude.proofs.Lists.{rest_is}
use Rattle.records.specs.declared.Direction.TheVariants.{Request}
use Rattle.records.specs.declared.Record.{Record}
use Rattle.records.specs.declared.First.{First as FirstRead}
use Rattle.records.specs.declared.errors.DecodeError.{DecodeError}
use Rattle.records.specs.Answers.{First}
use Rattle.records.specs.Results.{first_as}
use Rattle.records.proofs.Numbers.{error_refused}
use Rattle.records.specs.Codec.{decoded_first, Run}
use Rattle.records.proofs.ReadRuns.{first_bytes, first_size, run_none, run_more}
use Rattle.text.specs.Text.{space}
use Rattle.text.proofs.Decimals.{byte_room}
use Rattle.transcript.specs.Lines.{request_line, request_lines, sent_lines}

-- no request is at the front of some bytes, or this one, of so many bytes, which are all there
abbrev pub NoRequest : List ℕ → Type 0
NoRequest bytes = (decoded_first Request bytes).number ≢ accepted

pub record IsRequest (bytes : List ℕ) (r : Record) (n : ℕ) : Type 0 where
  pub read : decoded_first Request bytes ≡ record { number = accepted; fields = r; length = n }
  pub least : 3 ≤ n
  pub within : n ≤ length bytes

module _ (bytes : List ℕ) where
  pub request_read : {first : FirstRead} → first_as (Ok first) ≡ decoded_first Request bytes → IsRequest bytes first.fields first.length
  request_read {first} read =
      let ok : (decoded_first Request bytes).number ≡ accepted = sym (ap (λ (f : First). f.number) read) in
      let size : first.length ≡ (decoded_first Request bytes).length = ap (λ (f : First). f.length) read in record {
        read = sym read;
        least = omega (arith, size, first_size bytes ok);
        within = omega (arith, size, (first_bytes Request bytes ok).1);
      }

  pub request_missing : (e : DecodeError) → first_as (Err e) ≡ decoded_first Request bytes → NoRequest bytes
  request_missing e read ok = error_refused e (ap (λ (f : First). f.number) read ∙ ok)

lines_of : Run → List ℕ
lines_of run = request_lines run.records

pub lines_none : (bytes : List ℕ) → NoRequest bytes → sent_lines bytes ≡ []
unfolding sent_lines request_lines lines_of
lines_none bytes ne = ap lines_of (run_none Request bytes ne)

pub lines_more : {bytes : List ℕ} {r : Record} {n : ℕ} → IsRequest bytes r n
    → sent_lines bytes ≡ request_line r.url r.connection r.keys ++ sent_lines (take (length bytes - n) (drop n bytes))
unfolding sent_lines request_lines lines_of
lines_more {bytes} {r} {n} is = ap lines_of (run_more Request bytes (ap (λ (f : First). f.number) is.read)) ∙ rw (is.read, rest_is bytes n)

-- its line has at most 13
pub request_room : (url connection keys : ℕ) → url < 256 → connection < 256 → length (request_line url connection keys) ≤ 13
request_room url connection keys u c =
    simp length-append (omega (arith, simp length-append at (byte_room url space u), simp length-append at (byte_room connection space c)))
