use Rattle.std.proofs.Common.{sym, subst}
use Rattle.std.specs.Str.{IsCharBoundary}
use Rattle.gk_line.proofs.SpaceLemmas.{past-boundary}
use Rattle.gk_line.proofs.texts.past_ascii_spaces.Goals as goal

pub range_from-requires : goal.range_from-requires
range_from-requires c = λ _.
    subst (IsCharBoundary c.args.text.now) (sym c.ascii_spaces.ensures.value) (past-boundary c.args.text.now c.utf8.text)
