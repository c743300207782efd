use Rattle.std.proofs.Common.{◌∙◌, ap, sym, ◌++◌, Bor, List, ℕ, codes, map, string_bytes}
use Rattle.cm_cases.specs.Places.{case_scenario}
use Rattle.cm_cases.proofs.ListingLemmas.{on_ok}
use Rattle.cm_reasons.specs.Lines.{limited_text}
use Rattle.cm_reasons.specs.declared.trail.Trail.{Trail}
use Rattle.cm_stream.proofs.Lists.{map_twice}
use Rattle.cm_stream.specs.Texts.{Utf8}
use Rattle.cm_fault_reasons.proofs.open_cases.add_open_cases.Goals as goal

pub returns : goal.returns
returns c =
    on_ok c.add_limited.result c.add_limited.ensures
    (λ added es is.
    let old = string_bytes c.args.text.now in
    let line = λ (id : Utf8). codes "case" ++ case_scenario es id in
    added es (c.in_ok-places.ensures es is)
    ∙ ap (λ (ids : List (Bor Utf8)). old ++ limited_text (map (λ id. line id.now) ids)) c.as_slice.ensures.value
    ∙ ap (λ (lines : List (List ℕ)). old ++ limited_text lines) (sym (map_twice line (λ (id : Bor Utf8). id.now) c.in_ok-cases.cases.items))
    ∙ ap (λ (ids : List Utf8). old ++ limited_text (map line ids)) (c.in_ok-cases.ensures es (c.steps.ensures ∙ ap (λ (t : Trail). t.steps) is)))
