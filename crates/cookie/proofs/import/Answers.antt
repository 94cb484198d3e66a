-- `import` meets its contract: at each return the tests before it say what is answered.
use Rattle.std.proofs.Common.{rules, Err}
use Rattle.prelude.proofs.Kit.{◌≡◌, sym, ◌∙◌, ap, arith, length, drop}
use Rattle.std.specs.Option.{option_copied}
use Rattle.std.specs.Result.{result_ok}
use Rattle.cookie.specs.declared.ImportError.TheVariants.{NoName, NoKey, NoNumber}
use Rattle.prelude.specs.Refusals.{accepted}
use Rattle.prelude.proofs.Lists.{rest_is}
use Rattle.labels.specs.Addresses.{host_endpoints}
use Rattle.labels.proofs.Words.{word_is}
use Rattle.cookie.specs.SetCookie.{semicolon, flags_of}
use Rattle.cookie.specs.Import.{told}
use Rattle.cookie.proofs.Finding.{before_most}
use Rattle.cookie.proofs.Flagging.{flags_after}
use Rattle.cookie.proofs.Answers.{no_host, pair_without, Parsed, parsed, nameless, other_names, keyless, key_small, numberless, answered}
use Rattle.cookie.proofs.import.Goals.{After-is_empty}
use Rattle.cookie.proofs.import.Goals as goal

line_is : (c : After-is_empty) → Parsed c.args.line.now c.trim-name.result.now c.in_ok-value.value.now
line_is c =
    parsed c.cut.ensures.front c.cut-2.ensures.front c.cut-2.ensures.back (ap option_copied (c.ok_or.ensures.ok_part ∙ ap result_ok c.in_ok-value.was)) c.trim-name.ensures

pub returns-then-host-ge-HOSTS : goal.returns-then-host-ge-HOSTS
returns-then-host-ge-HOSTS c = sym (no_host _ _ _ c.if-host-ge-HOSTS.true)

pub returns-in_err-value : goal.returns-in_err-value
returns-in_err-value c =
    let is : c.from_residual.result ≡ Err NoName = search rules in
    ap told is ∙ sym (pair_without _ _ _ c.if-host-ge-HOSTS.false c.cut.ensures.front c.cut-2.ensures.back (ap option_copied (c.ok_or.ensures.ok_part ∙ ap result_ok c.in_err-value.was)))

pub returns-then-is_empty : goal.returns-then-is_empty
returns-then-is_empty c = sym (nameless _ _ c.if-host-ge-HOSTS.false (line_is (goal.at.returns-then-is_empty c).After-is_empty) (sym c.is_empty.ensures ∙ c.if-is_empty.true))

pub returns-then-names-ne-NAMES_BYTES : goal.returns-then-names-ne-NAMES_BYTES
returns-then-names-ne-NAMES_BYTES c =
    sym (other_names _ _ c.if-host-ge-HOSTS.false (line_is (goal.at.returns-then-names-ne-NAMES_BYTES c).After-is_empty) (sym c.is_empty.ensures ∙ c.if-is_empty.false) c.if-names-ne-NAMES_BYTES.true)

pub returns-in_err-key : goal.returns-in_err-key
returns-in_err-key c =
    let is : c.from_residual-in_err-key.result ≡ Err NoKey = search rules in
    ap told is
    ∙ sym (keyless _ _ c.if-host-ge-HOSTS.false (line_is (goal.at.returns-in_err-key c).After-is_empty) (sym c.is_empty.ensures ∙ c.if-is_empty.false)
    c.if-names-ne-NAMES_BYTES.false c.key_named.ensures (c.ok_or-2.ensures.ok_part ∙ ap result_ok c.in_err-key.was))

pub returns-in_err-value-2 : goal.returns-in_err-value-2
returns-in_err-value-2 c =
    let is : c.from_residual-in_err-value-2.result ≡ Err NoNumber = search rules in
    ap told is
    ∙ sym (numberless _ _ c.if-host-ge-HOSTS.false (line_is (goal.at.returns-in_err-value-2 c).After-is_empty) (sym c.is_empty.ensures ∙ c.if-is_empty.false)
    c.if-names-ne-NAMES_BYTES.false c.key_named.ensures (c.ok_or-2.ensures.ok_part ∙ ap result_ok c.in_ok-key.was)
    c.trim.ensures c.read_number.ensures (c.ok_or-3.ensures.ok_part ∙ ap result_ok c.in_err-value-2.was))

pub slice_bounds-flags_of-count : goal.slice_bounds-flags_of-count
slice_bounds-flags_of-count c = omega (arith, ap length c.cut.ensures.front, before_most semicolon c.args.line.now)

pub slice_bounds-flags_of-start : goal.slice_bounds-flags_of-start
slice_bounds-flags_of-start c = omega (arith, ap length c.cut.ensures.front, before_most semicolon c.args.line.now)

pub overflow_cast-result : goal.overflow_cast-result
overflow_cast-result c =
    let small =
    key_small _ _ c.if-host-ge-HOSTS.false (line_is (goal.at.overflow_cast-result c).After-is_empty) (sym c.is_empty.ensures ∙ c.if-is_empty.false)
    c.if-names-ne-NAMES_BYTES.false c.key_named.ensures (c.ok_or-2.ensures.ok_part ∙ ap result_ok c.in_ok-key.was)
    in
    search (rules, small)

pub returns : goal.returns
returns c =
    let flags = c.flags_of-flags.result in
    let pair_long = ap length c.cut.ensures.front in
    ap (λ readers. record { number = accepted; key = c.in_ok-key.key; value = c.in_ok-value-2.value; secure = flags.secure; http_only = flags.http_only; readers = readers })
    (word_is (host_endpoints c.args.host flags.secure) c.host_endpoints.result (search rules) (λ e l. c.host_endpoints.ensures e))
    ∙ sym (answered _ _ c.if-host-ge-HOSTS.false (line_is (goal.at.returns c).After-is_empty) (sym c.is_empty.ensures ∙ c.if-is_empty.false)
    c.if-names-ne-NAMES_BYTES.false c.key_named.ensures (c.ok_or-2.ensures.ok_part ∙ ap result_ok c.in_ok-key.was)
    c.trim.ensures c.read_number.ensures (c.ok_or-3.ensures.ok_part ∙ ap result_ok c.in_ok-value-2.was)
    (c.flags_of-flags.ensures ∙ ap flags_of (rest_is c.args.line.now (length c.cut.result.0.now) ∙ ap (λ n. drop n c.args.line.now) pair_long) ∙ flags_after c.args.line.now))
