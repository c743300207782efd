use Rattle.std.proofs.Common.{sym, ap, ◌∙◌}
use Rattle.std.specs.Prelude.{not}
use Rattle.gk_line.proofs.SpaceLemmas.{visible-none}
use Rattle.gk_line.proofs.tags_and_comments.has_white_space.Goals as goal

pub returns-else-not-is_visible_ascii : goal.returns-else-not-is_visible_ascii
returns-else-not-is_visible_ascii c =
    ap not c.if-not-is_visible_ascii.false
    ∙ sym (visible-none c.args.word.now (sym c.is_visible_ascii.ensures ∙ c.if-not-is_visible_ascii.false))
