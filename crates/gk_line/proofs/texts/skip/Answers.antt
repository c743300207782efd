use Rattle.std.proofs.Common.{sym, ap, ◌∙◌, arith}
use Rattle.std.specs.Str.{chars}
use Rattle.std.proofs.lemmas.Str.{chars-nil}
use Rattle.gk_line.proofs.TextLemmas.{TakesFirst-chars, drop_next, drop_none}
use Rattle.gk_line.proofs.texts.skip.Goals as goal

pub returns-in-None : goal.returns-in-None
returns-in-None c =
    let empty = ap chars c.in-None.ensures ∙ chars-nil in
    empty ∙ drop_none (chars c.args.text.now) c.loop-i.i c.args.count (sym empty ∙ c.loop-i.invariant.1) (omega arith)

pub loop-i-preserved : goal.loop-i-preserved
loop-i-preserved c = (
  c.in-Some.ensures.rest_is_text,
  drop_next (chars c.args.text.now) (chars c.in-Some.next.now) c.loop-i.i c.in-Some.ensures.character
      (sym (TakesFirst-chars c.loop-i.rest.now c.in-Some.next.now c.in-Some.ensures) ∙ c.loop-i.invariant.1),
)
