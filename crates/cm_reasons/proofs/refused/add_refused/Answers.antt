use Rattle.std.proofs.Common.{◌∙◌, ap, subst, ◌++◌, List, map, string_bytes}
use Rattle.cm_cases.proofs.ListingLemmas.{on_ok}
use Rattle.cm_stream.specs.References.{sources}
use Rattle.cm_reasons.specs.Lines.{limited_text}
use Rattle.cm_reasons.specs.RunKept.{AreEntryLines, refused_source_line}
use Rattle.cm_reasons.specs.declared.refused.RefusedSource.{RefusedSource}
use Rattle.cm_reasons.specs.declared.trail.Trail.{Trail}
use Rattle.cm_reasons.proofs.Refusals.{told}
use Rattle.cm_reasons.proofs.refused.add_refused.Goals as goal

pub returns : goal.returns
returns c =
    let lines = map refused_source_line c.in_ok-refused.refused.items in
    on_ok c.add_limited.result c.add_limited.ensures
    (λ added es is. (
      lines,
      told (sources es) lines (subst (λ ss. AreEntryLines ss lines) (c.as_slice.ensures ∙ ap (λ (t : Trail). t.run.sources) is) c.in_ok-refused.ensures),
      added es tt ∙ ap (λ (rs : List RefusedSource). string_bytes c.args.text.now ++ limited_text (map refused_source_line rs)) c.as_slice-2.ensures.value,
    ))
