use Rattle.std.proofs.Common.{◌≡◌}
use Rattle.serde_json.specs.Find.{as_str}
use Rattle.serde_json.specs.View.{items_view}
use Rattle.cm_envelope.specs.Member.{each, good}
use Rattle.cm_reading.proofs.Each.{with_front, items_from}
use Rattle.cm_reading.proofs.member.each_text.Given as goal

abbrev pub invariant-loop-value : goal.invariant-loop-value
invariant-loop-value l = with_front l.texts.items (each (λ e. good l.name (as_str e)) (items_from l.value-index l.values)) ≡ each (λ e. good l.name (as_str e)) (items_view l.values)
