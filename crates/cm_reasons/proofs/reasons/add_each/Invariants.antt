use Rattle.std.proofs.Common.{◌≡◌, ◌++◌, List, map, string_bytes, take}
use Rattle.cm_envelope.specs.declared.envelope.Envelope.{Envelope}
use Rattle.cm_reasons.specs.Lines.{text_of_lines}
use Rattle.cm_reasons.proofs.reasons.add_each.Given as goal

abbrev pub invariant-loop-item : goal.invariant-loop-item
invariant-loop-item g l =
    (es : List Envelope) → g.L.AddLine.of l.lines es → string_bytes l.text ≡ string_bytes l.fn.text ++ text_of_lines (map (g.L.AddLine.line l.lines es) (take l.item-index l.items))
