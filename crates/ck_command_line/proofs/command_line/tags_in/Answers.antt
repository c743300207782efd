use Rattle.std.proofs.Common.{◌∙◌, ◌++◌, sym, ap, List}
use Rattle.std.specs.Borrow.{Bor}
use Rattle.clap.specs.Words.{Text}
use Rattle.ck_command_line.proofs.Tags.{all_tags, both_unrun, no_tag, no_tags}
use Rattle.ck_command_line.proofs.command_line.tags_in.Goals as goal

pub returns-in_default : goal.returns-in_default
returns-in_default c = no_tags c.args.allows_unrun c.texts_of.result _ c.new-allowed.result.items c.texts_of.ensures c.in_default.is c.new-allowed.ensures.items

pub returns-then-allows_unrun : goal.returns-then-allows_unrun
returns-then-allows_unrun c = both_unrun c.args.allows_unrun c.texts_of.result _ c.in-Some.tags c.texts_of.ensures c.in-Some.is c.if-allows_unrun.true

pub returns-then-not-are_tags : goal.returns-then-not-are_tags
returns-then-not-are_tags c = no_tag c.args.allows_unrun c.texts_of.result _ c.in-Some.tags c.texts_of.ensures c.in-Some.is c.if-allows_unrun.false (sym c.are_tags.ensures ∙ c.if-not-are_tags.true)

pub returns-in-Ok : goal.returns-in-Ok
returns-in-Ok c =
    all_tags c.args.allows_unrun c.texts_of.result _ c.in-Some.tags _ c.texts_of.ensures c.in-Some.is c.if-allows_unrun.false (sym c.are_tags.ensures ∙ c.if-not-are_tags.false)
    (c.in-Ok.ensures.items ∙ ap (λ (kept : List (Bor Text)). kept ++ c.in-Some.tags.now) c.new-allowed.ensures.items)
