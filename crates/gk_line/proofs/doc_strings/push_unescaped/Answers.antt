use Rattle.std.proofs.Common.{[], ◌∷◌, refl, ap, ◌∙◌, ◌++◌, arith, length, lit<}
use Rattle.std.proofs.lemmas.Str.{IsUtf8-string_bytes}
use Rattle.std.specs.Str.{chars}
use Rattle.std.specs.String.{string_bytes, string_capacity, string_len}
use Rattle.gk_line.specs.Characters.{backslash}
use Rattle.gk_document.specs.Fences.{fence_mark, fence_characters}
use Rattle.gk_line.proofs.TextLemmas.{grown_chars}
use Rattle.gk_line.proofs.FenceLemmas.{turn, escaped_step, alone_step, fence_added, last, room_at_cut, length-fence_characters, length-after_backslash}
use Rattle.gk_line.proofs.doc_strings.push_unescaped.Goals as goal

pub loop-front-init : goal.loop-front-init
loop-front-init c = (c.utf8.text, refl, c.requires.room)

pub loop-front-preserved-in-Some-strip : goal.loop-front-preserved-in-Some-strip
loop-front-preserved-in-Some-strip c =
    let room = room_at_cut (string_len c.loop-front.value) (string_capacity c.loop-front.value) c.loop-front.rest.now c.in-Some.front.now c.in-Some.next.now c.in-Some.ensures.bytes c.loop-front.invariant.2 in
    let marks = length-after_backslash c.args.fence c.fence_after_backslash.result.now c.fence_after_backslash.ensures.value in
    let plain = ap length c.characters.ensures ∙ length-fence_characters c.args.fence in
    let mid = string_bytes c.push_str.new.self in
    let added = fence_added c.args.fence mid (string_bytes c.push_str-in-Some-strip.new.self) (IsUtf8-string_bytes c.push_str.new.self) (c.in_ok-push_str-2.ensures.bytes ∙ ap (λ q. mid ++ q) c.characters.ensures) in
    let step = escaped_step c.args.fence c.fence_after_backslash.result.now (chars c.in-Some.next.now) (chars c.in-Some-strip.after.now) c.fence_after_backslash.ensures.value c.in-Some-strip.ensures.value in (
      c.in-Some-strip.ensures.utf8,
      turn (fence_mark c.args.fence) (string_bytes c.loop-front.value) mid (string_bytes c.push_str-in-Some-strip.new.self) (fence_characters c.args.fence) c.loop-front.rest.now c.in-Some.front.now (chars c.in-Some.next.now) (chars c.in-Some-strip.after.now) _
          (IsUtf8-string_bytes c.loop-front.value) c.in_ok-push_str.ensures.bytes added c.in-Some.ensures.place step c.loop-front.invariant.1,
      omega (arith, room, c.in_ok-push_str.ensures.len, c.in_ok-push_str.ensures.capacity, c.in_ok-push_str-2.ensures.len, c.in_ok-push_str-2.ensures.capacity, marks, plain, c.in-Some-strip.ensures.bound),
    )

pub loop-front-preserved : goal.loop-front-preserved
loop-front-preserved c =
    let room = room_at_cut (string_len c.loop-front.value) (string_capacity c.loop-front.value) c.loop-front.rest.now c.in-Some.front.now c.in-Some.next.now c.in-Some.ensures.bytes c.loop-front.invariant.2 in
    let mid = string_bytes c.push_str.new.self in
    let added = grown_chars mid (string_bytes c.push.new.self) backslash refl (IsUtf8-string_bytes c.push_str.new.self) c.in_ok-push.ensures.bytes in
    let step = alone_step (fence_mark c.args.fence) c.fence_after_backslash.result.now (chars c.in-Some.next.now) c.fence_after_backslash.ensures.value c.in_default-strip.ensures.value in (
      c.in-Some.ensures.rest_utf8,
      turn (fence_mark c.args.fence) (string_bytes c.loop-front.value) mid (string_bytes c.push.new.self) (backslash ∷ []) c.loop-front.rest.now c.in-Some.front.now (chars c.in-Some.next.now) (chars c.in-Some.next.now) _
          (IsUtf8-string_bytes c.loop-front.value) c.in_ok-push_str.ensures.bytes added c.in-Some.ensures.place step c.loop-front.invariant.1,
      omega (arith, room, c.in_ok-push_str.ensures.len, c.in_ok-push_str.ensures.capacity, c.in_ok-push.ensures.len, c.in_ok-push.ensures.capacity, ap length (c.in_ok-push.ensures.ascii (lit< tt))),
    )

pub returns-clause-value : goal.returns-clause-value
returns-clause-value c =
    last (fence_mark c.args.fence) (string_bytes c.loop-front.value) (string_bytes c.push_str-2.new.self) c.loop-front.rest.now _
    (IsUtf8-string_bytes c.loop-front.value) c.in_ok-push_str-3.ensures.bytes c.in_default.ensures.place c.loop-front.invariant.1

pub returns-in_err-push_str-clause-fits : goal.returns-in_err-push_str-clause-fits
returns-in_err-push_str-clause-fits c =
    let room = room_at_cut (string_len c.loop-front.value) (string_capacity c.loop-front.value) c.loop-front.rest.now c.in-Some.front.now c.in-Some.next.now c.in-Some.ensures.bytes c.loop-front.invariant.2 in
    absurd (omega (arith, room, c.in_err-push_str.ensures.full))

pub returns-in_err-push_str-2-clause-fits : goal.returns-in_err-push_str-2-clause-fits
returns-in_err-push_str-2-clause-fits c =
    let room = room_at_cut (string_len c.loop-front.value) (string_capacity c.loop-front.value) c.loop-front.rest.now c.in-Some.front.now c.in-Some.next.now c.in-Some.ensures.bytes c.loop-front.invariant.2 in
    let marks = length-after_backslash c.args.fence c.fence_after_backslash.result.now c.fence_after_backslash.ensures.value in
    let plain = ap length c.characters.ensures ∙ length-fence_characters c.args.fence in
    absurd (omega (arith, room, marks, plain, c.in-Some-strip.ensures.bound, c.in_ok-push_str.ensures.len, c.in_ok-push_str.ensures.capacity, c.in_err-push_str-2.ensures.full))

pub returns-in_err-push-clause-fits : goal.returns-in_err-push-clause-fits
returns-in_err-push-clause-fits c =
    let room = room_at_cut (string_len c.loop-front.value) (string_capacity c.loop-front.value) c.loop-front.rest.now c.in-Some.front.now c.in-Some.next.now c.in-Some.ensures.bytes c.loop-front.invariant.2 in
    absurd (omega (arith, room, c.in_ok-push_str.ensures.len, c.in_ok-push_str.ensures.capacity, ap length (c.in_err-push.ensures.ascii (lit< tt)), c.in_err-push.ensures.full))

pub returns-in_err-push_str-3-clause-fits : goal.returns-in_err-push_str-3-clause-fits
returns-in_err-push_str-3-clause-fits c =
    absurd (omega (arith, c.loop-front.invariant.2, c.in_err-push_str-3.ensures.full))
