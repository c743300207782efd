use Rattle.std.proofs.Common.{sym, ap, ◌∙◌, length}
use Rattle.std.specs.Prelude.{◌==◌}
use Rattle.std.specs.Str.{chars}
use Rattle.gk_line.proofs.SpaceLemmas.{blank-line}
use Rattle.gk_line.proofs.TextLemmas.{is_empty_chars}
use Rattle.gk_line.proofs.texts.is_blank.Goals as goal

pub returns : goal.returns
returns c = record {
  value = c.is_empty.ensures ∙ sym (is_empty_chars c.trim_start.result.now c.trim_start.utf8)
      ∙ ap (λ q. length q == 0) c.trim_start.ensures.value ∙ sym (blank-line (chars c.args.line.text.now));
}
