use Rattle.std.proofs.lemmas.Bool.{false≢true}
use Rattle.std.proofs.Common.{refl, Some, None, subst, sym, ap, ◌∙◌, get_or}
use Rattle.std.proofs.lemmas.Str.{IsCharBoundary-after_ascii}
use Rattle.memchr.specs.Find.{IsFirstByte, is_byte2}
use Rattle.gk_line.specs.Texts.{TakesFirst}
use Rattle.gk_line.proofs.RowLemmas.{State-nil, State-bar, State-cut, State-plain, State-end, State-last, State-pair, special, other_is_backslash, either_small}
use Rattle.gk_line.proofs.rows.cut_at_bar.Goals as goal
use Rattle.gk_line.specs.Characters.{backslash, vertical_bar}

pub loop-place-init : goal.loop-place-init
loop-place-init c = record { read = State-nil c.args.text.now c.utf8.text; plain = λ _. refl }

pub returns-clause-place : goal.returns-clause-place
returns-clause-place c =
    State-end c.args.text.now c.loop-place.rest.now c.loop-place.invariant.read (subst (λ bytes. IsFirstByte (is_byte2 vertical_bar backslash) bytes None) c.as_bytes.ensures.value c.in_default.ensures)

pub range_from-next-requires : goal.range_from-next-requires
range_from-next-requires c = λ _.
    let found = subst (λ bytes. IsFirstByte (is_byte2 vertical_bar backslash) bytes (Some c.in-Some.place)) c.as_bytes.ensures.value c.in-Some.ensures in
    IsCharBoundary-after_ascii c.loop-place.rest.now c.in-Some.place c.loop-place.invariant.read.4 found.0.high (either_small _ found.1)

pub returns-then-as_bytes-place-eq124-clause-place : goal.returns-then-as_bytes-place-eq124-clause-place
returns-then-as_bytes-place-eq124-clause-place c =
    let found = subst (λ bytes. IsFirstByte (is_byte2 vertical_bar backslash) bytes (Some c.in-Some.place)) c.as_bytes.ensures.value c.in-Some.ensures in
    let at = sym (ap (λ q. get_or q c.in-Some.place 0) c.as_bytes-in-Some.ensures.value) ∙ c.if-as_bytes-place-eq124.true in
    State-bar c.args.text.now c.loop-place.rest.now c.range.result.now c.range_from-next.result.now c.in-Some.place c.loop-place.invariant.read
    (special c.loop-place.rest.now c.in-Some.place vertical_bar c.loop-place.invariant.read.4 found at) c.range_from-next.ensures.value c.range.ensures.value

pub returns-in_err-rest-clause-place : goal.returns-in_err-rest-clause-place
returns-in_err-rest-clause-place c =
    let found = subst (λ bytes. IsFirstByte (is_byte2 vertical_bar backslash) bytes (Some c.in-Some.place)) c.as_bytes.ensures.value c.in-Some.ensures in
    let at = other_is_backslash c.loop-place.rest.now c.in-Some.place found (λ e. c.if-as_bytes-place-eq124.false (ap (λ q. get_or q c.in-Some.place 0) c.as_bytes-in-Some.ensures.value ∙ e)) in
    rw c.from_residual.ensures
    (State-last c.args.text.now c.loop-place.rest.now c.in-Some.place c.loop-place.invariant.read
    (special c.loop-place.rest.now c.in-Some.place backslash c.loop-place.invariant.read.4 found at) (sym c.range_from-next.ensures.value ∙ c.in_err-rest.ensures))

pub loop-place-preserved : goal.loop-place-preserved
loop-place-preserved c =
    let found = subst (λ bytes. IsFirstByte (is_byte2 vertical_bar backslash) bytes (Some c.in-Some.place)) c.as_bytes.ensures.value c.in-Some.ensures in
    let at = other_is_backslash c.loop-place.rest.now c.in-Some.place found (λ e. c.if-as_bytes-place-eq124.false (ap (λ q. get_or q c.in-Some.place 0) c.as_bytes-in-Some.ensures.value ∙ e)) in
    let read = State-pair c.args.text.now c.loop-place.rest.now c.in_ok-rest.rest.now c.in-Some.place c.loop-place.invariant.read
    (special c.loop-place.rest.now c.in-Some.place backslash c.loop-place.invariant.read.4 found at)
    (subst (λ q. TakesFirst q c.in_ok-rest.rest.now) c.range_from-next.ensures.value c.in_ok-rest.ensures) in
    record { read = read; plain = λ e. absurd (false≢true e) }

pub returns-then-as_bytes-place-eq124-clause-utf8 : goal.returns-then-as_bytes-place-eq124-clause-utf8
returns-then-as_bytes-place-eq124-clause-utf8 c = c.range_from-next.utf8

pub returns-then-as_bytes-place-eq124-clause-bytes : goal.returns-then-as_bytes-place-eq124-clause-bytes
returns-then-as_bytes-place-eq124-clause-bytes c =
    let found = subst (λ bytes. IsFirstByte (is_byte2 vertical_bar backslash) bytes (Some c.in-Some.place)) c.as_bytes.ensures.value c.in-Some.ensures in
    let at = sym (ap (λ q. get_or q c.in-Some.place 0) c.as_bytes-in-Some.ensures.value) ∙ c.if-as_bytes-place-eq124.true in
    State-cut c.args.text.now c.loop-place.rest.now c.range.result.now c.range_from-next.result.now c.in-Some.place c.loop-place.invariant.read
    (special c.loop-place.rest.now c.in-Some.place vertical_bar c.loop-place.invariant.read.4 found at) c.range_from-next.ensures.value c.range.ensures.value

pub returns-then-as_bytes-place-eq124-clause-plain : goal.returns-then-as_bytes-place-eq124-clause-plain
returns-then-as_bytes-place-eq124-clause-plain c = λ is.
    let found = subst (λ bytes. IsFirstByte (is_byte2 vertical_bar backslash) bytes (Some c.in-Some.place)) c.as_bytes.ensures.value c.in-Some.ensures in
    let at = sym (ap (λ q. get_or q c.in-Some.place 0) c.as_bytes-in-Some.ensures.value) ∙ c.if-as_bytes-place-eq124.true in
    State-plain c.args.text.now c.loop-place.rest.now c.range.result.now c.range_from-next.result.now c.in-Some.place (c.loop-place.invariant.plain is)
    (special c.loop-place.rest.now c.in-Some.place vertical_bar c.loop-place.invariant.read.4 found at) c.range_from-next.ensures.value c.range.ensures.value
