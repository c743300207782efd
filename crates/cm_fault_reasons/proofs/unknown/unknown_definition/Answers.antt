use Rattle.std.proofs.Common.{◌∙◌, ap, Some}
use Rattle.std.specs.Prelude.{option_map}
use Rattle.cm_judge.specs.State.{summary_of}
use Rattle.cm_stream.specs.Texts.{Utf8}
use Rattle.cm_fault_reasons.specs.Unknown.{told_id}
use Rattle.cm_fault_reasons.proofs.UnknownLemmas.{definition_told}
use Rattle.cm_fault_reasons.proofs.unknown.unknown_definition.Goals as goal

pub returns-in-Some : goal.returns-in-Some
returns-in-Some c =
    c.id_unless.ensures ∙ ap (λ (t : Utf8). Some (told_id t)) c.as_str.ensures ∙ ap (option_map told_id) c.in-Some.ensures ∙ definition_told (summary_of c.args.state.now) c.args.ids.now

pub returns-in-None : goal.returns-in-None
returns-in-None c = ap (option_map told_id) c.in-None.ensures ∙ definition_told (summary_of c.args.state.now) c.args.ids.now
