use Rattle.gk_laws.proofs.LanguageParts as parts
use Rattle.gk_laws.proofs.laws.language_lines_have_parts.Goals as goal

pub returns : goal.returns
returns c = parts.language_lines_have_parts
