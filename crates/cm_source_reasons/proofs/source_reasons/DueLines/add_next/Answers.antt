use Rattle.std.proofs.Common.{◌∙◌, ◌++◌, ap, append_assoc, codes, string_bytes, List, ℕ}
use Rattle.cm_stream.specs.Texts.{Utf8}
use Rattle.cm_source_reasons.specs.DueLines.{scenario_of}
use Rattle.cm_source_reasons.proofs.source_reasons.DueLines.add_next.Goals as goal

pub returns : goal.returns
returns c es is =
    let old = string_bytes c.args.text.now in
    let d = c.args.due.now in
    let lines = c.args.self.now in
    let shown : (name : Utf8) (nodes : List ℕ) → List ℕ = scenario_of es lines.uri.now lines.ids.now in
    let end = codes "\n" in
    c.in_ok-push_str-2.ensures.bytes
    ∙ ap (λ (l : List ℕ). l ++ end)
    (c.in_ok-add_scenario.ensures es is ∙ (λ j. c.in_ok-push_str.ensures.bytes j ++ shown (c.as_str.ensures j) (c.as_slice.ensures j)))
    ∙ append_assoc (old ++ codes "due") (shown d.name d.nodes) end ∙ append_assoc old (codes "due") (shown d.name d.nodes ++ end)
