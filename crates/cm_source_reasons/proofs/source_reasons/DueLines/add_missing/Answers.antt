use Rattle.std.proofs.Common.{◌∙◌, ◌++◌, append_assoc, codes, string_bytes, List, ℕ}
use Rattle.cm_reasons.proofs.LineLemmas.{one_ended}
use Rattle.cm_stream.specs.Texts.{Utf8}
use Rattle.cm_source_reasons.specs.DueLines.{missing_line, scenario_of}
use Rattle.cm_source_reasons.proofs.source_reasons.DueLines.add_missing.Goals as goal

pub returns : goal.returns
returns c es is =
    let old = string_bytes c.args.text.now in
    let d = c.args.due.now in
    let lines = c.args.self.now in
    let shown : (name : Utf8) (nodes : List ℕ) → List ℕ = scenario_of es lines.uri.now lines.ids.now in
    one_ended old _ _ (missing_line es lines.uri.now lines.ids.now d)
    (c.in_ok-add_scenario.ensures es is ∙ (λ j. c.in_ok-push_str.ensures.bytes j ++ shown (c.as_str.ensures j) (c.as_slice.ensures j))
    ∙ append_assoc old (codes "missing") (shown d.name d.nodes))
    c.in_ok-push_str-2.ensures.bytes
