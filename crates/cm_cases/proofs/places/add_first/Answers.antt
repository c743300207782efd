use Rattle.std.proofs.Common.{sym, ◌∙◌}
use Rattle.cm_cases.proofs.FirstLemmas.{added}
use Rattle.cm_cases.proofs.places.add_first.Goals as goal

pub returns : goal.returns
returns g c = added c.args.map.now c.insert.new.self c.args.text.now c.args.value (sym c.contains_key.ensures ∙ c.if-contains_key.false) c.in_ok-insert.ensures.updates.0
