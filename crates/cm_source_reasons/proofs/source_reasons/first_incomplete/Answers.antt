use Rattle.std.proofs.Common.{◌∙◌, ap, [], Bool, Bor, Option, find, option_map}
use Rattle.std.specs.Option.{option_or}
use Rattle.kept_texts.specs.declared.kept_text.KeptText.{KeptText}
use Rattle.cm_state.specs.StateChecks.{lacks_by}
use Rattle.cm_judge.specs.Kept.{kept_row}
use Rattle.cm_judge.specs.declared.kept_sources.KeptSource.{KeptSource}
use Rattle.cm_source_reasons.proofs.SourceRows.{all_looked_at, one_looked_at}
use Rattle.cm_source_reasons.proofs.source_reasons.first_incomplete.Goals as goal

abbrev shown : Bor KeptText × Bor KeptSource → KeptText × KeptSource
shown e = (e.0.now, e.1.now)

abbrev is_incomplete : KeptText × KeptSource → Bool
is_incomplete e = lacks_by (kept_row [] e.1)

pub loop-uri-init : goal.loop-uri-init
loop-uri-init c = ap (find is_incomplete) (c.into_iter-uri-iterator.ensures.into_iter_gives ∙ c.iter-uri-items.ensures.rest)

pub loop-uri-preserved : goal.loop-uri-preserved
loop-uri-preserved c =
    ap (λ (o : Option (Bor KeptText × Bor KeptSource)). option_or (option_map shown o) (find is_incomplete c.next.new.self)) c.or-found.ensures
    ∙ one_looked_at shown is_incomplete c.args.sources.now.entries c.loop-uri.found c.if_incomplete.result (c.in-Some.uri, c.in-Some.source) _ _ c.in-Some.ensures.steps c.if_incomplete.ensures
    c.loop-uri.invariant

pub returns : goal.returns
returns c = all_looked_at shown is_incomplete c.args.sources.now.entries c.loop-uri.found _ c.in-None.ensures.steps.0 c.loop-uri.invariant
