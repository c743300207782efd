use Rattle.std.proofs.Common.{◌∙◌, ap, sym, ◌++◌, Bor}
use Rattle.std.proofs.lemmas.Result.{IfOk-weaker}
use Rattle.cm_cases.specs.Places.{pickle_scenario}
use Rattle.cm_stream.proofs.Lists.{map_twice}
use Rattle.cm_stream.specs.Texts.{Utf8}
use Rattle.cm_reasons.specs.Lines.{limited_text}
use Rattle.cm_reasons.specs.declared.trail.Trail.{Trail}
use Rattle.cm_reasons.proofs.reasons.pickle_lines.Goals as goal

pub returns : goal.returns
returns c =
    IfOk-weaker c.limited_text-text.result _ _
    (λ text told es is.
    told es (c.in_ok-places.ensures ∙ ap (λ (t : Trail). t.listing) is)
    ∙ ap limited_text (sym (map_twice (λ (id : Utf8). c.args.word.now ++ pickle_scenario es id) (λ (id : Bor Utf8). id.now) c.args.ids.now)))
    c.limited_text-text.ensures
