use Rattle.std.proofs.Common.{refl, lit<}
use Rattle.std.proofs.lemmas.Str.Pattern.{strip_suffix_char}
use Rattle.gk_line.proofs.LineLemmas.{stripped-chars}
use Rattle.gk_line.proofs.line_ends.without_return.Goals as goal
use Rattle.gk_line.specs.Characters.{carriage_return}

pub returns-clause-value : goal.returns-clause-value
returns-clause-value c =
    stripped-chars c.args.text.now c.strip_suffix.result c.args.text c.unwrap_or.result c.utf8.text c.unwrap_or.utf8 refl (strip_suffix_char carriage_return c.args.text.now c.strip_suffix.result c.strip_suffix.ensures.cases (lit< tt)) c.unwrap_or.ensures
