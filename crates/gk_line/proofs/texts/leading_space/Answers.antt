use Rattle.std.proofs.Common.{sym, ap, ◌∙◌, ◌-◌, length, arith}
use Rattle.std.specs.Char.{is_whitespace}
use Rattle.std.specs.List.{prefix_len}
use Rattle.std.specs.Str.{chars}
use Rattle.gk_line.proofs.SpaceLemmas.{settled_leading, past-leading, past-length}
use Rattle.gk_line.proofs.texts.leading_space.Goals as goal

pub returns-then-begins_in_ascii-clause-value : goal.returns-then-begins_in_ascii-clause-value
returns-then-begins_in_ascii-clause-value c =
    ap (λ q. length c.args.text.now - length q) c.past_ascii_spaces-rest.ensures.value ∙ past-length c.args.text.now
    ∙ sym (settled_leading c.args.text.now c.past_ascii_spaces-rest.result.now c.past_ascii_spaces-rest.ensures.value (sym c.begins_in_ascii.ensures ∙ c.if-begins_in_ascii.true))

pub returns-clause-value : goal.returns-clause-value
returns-clause-value c =
    let front = ap (λ q. length c.args.text.now - length q) c.past_ascii_spaces-rest.ensures.value ∙ past-length c.args.text.now in
    let whole = past-leading c.args.text.now in
    let same = ap (λ q. prefix_len is_whitespace (chars q)) c.past_ascii_spaces-rest.ensures.value in
    omega (arith, front, c.leading_characters.ensures.value, whole, same)
