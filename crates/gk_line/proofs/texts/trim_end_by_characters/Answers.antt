use Rattle.std.proofs.Common.{sym}
use Rattle.std.specs.Str.{chars, drop_trailing_whitespace, trim_end}
use Rattle.std.proofs.lemmas.Str.{chars_from_encodes}
use Rattle.gk_line.proofs.texts.trim_end_by_characters.Goals as goal

pub returns : goal.returns
unfolding trim_end
returns c = sym (chars_from_encodes (drop_trailing_whitespace (chars c.args.text.now)) c.trim_end.result.now c.trim_end.utf8 (sym c.trim_end.ensures.trim))
