use Rattle.std.proofs.Common.{sym, ◌∙◌}
use Rattle.gk_line.proofs.EndLemmas.{settled_end}
use Rattle.gk_line.proofs.texts.trim_end.Goals as goal

pub returns-then-ends_in_ascii : goal.returns-then-ends_in_ascii
returns-then-ends_in_ascii c =
    sym (settled_end c.before_ascii_spaces-front.result.now c.before_ascii_spaces-front.utf8 c.before_ascii_spaces-front.ensures.last (sym c.ends_in_ascii.ensures ∙ c.if-ends_in_ascii.true))
    ∙ c.before_ascii_spaces-front.ensures.value

pub returns : goal.returns
returns c = c.trim_end_by_characters.ensures ∙ c.before_ascii_spaces-front.ensures.value
