use Rattle.std.specs.Str.{chars}
use Rattle.gk_line.proofs.PlaceLemmas.{language-placed}
use Rattle.gk_line.proofs.keyword_lines.language.Goals as goal

pub returns-then-is_language-clause-place : goal.returns-then-is_language-clause-place
returns-then-is_language-clause-place c =
    language-placed (chars c.args.line.text.now) (chars c.trim_start.result.now) (chars c.in_ok-mark.mark.now) (chars c.trim_start-2.result.now) (chars c.in_ok-name.name.now) (chars c.trim_start-3.result.now) (chars c.in_ok-strip.field-0.now) (chars c.trim-word.result.now)
    c.trim_start.ensures.value c.in_ok-mark.ensures.value c.trim_start-2.ensures.value c.in_ok-name.ensures.value c.trim_start-3.ensures.value c.in_ok-strip.ensures.value c.trim-word.ensures
