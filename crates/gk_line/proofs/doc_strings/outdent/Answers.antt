use Rattle.std.proofs.Common.{ap, ◌∙◌, subst, ◌≤◌}
use Rattle.std.specs.Str.{chars}
use Rattle.gk_line.proofs.SpaceLemmas.{outdented-spaces, spaces-boundary}
use Rattle.gk_line.proofs.doc_strings.outdent.Goals as goal

pub range_from-requires : goal.range_from-requires
range_from-requires c = λ _.
    spaces-boundary c.args.indent c.args.text.now (subst (λ n. c.args.indent ≤ n) c.ascii_spaces.ensures.value c.if-indent-ascii_spaces.true) c.utf8.text

pub returns-then-indent-ascii_spaces : goal.returns-then-indent-ascii_spaces
returns-then-indent-ascii_spaces c =
    ap chars c.range_from.ensures.value
    ∙ outdented-spaces c.args.indent c.args.text.now (subst (λ n. c.args.indent ≤ n) c.ascii_spaces.ensures.value c.if-indent-ascii_spaces.true) c.utf8.text
