use Rattle.std.proofs.Common.{◌≡◌, ◌++◌, ◌-◌, List, drop, map, string_bytes, take}
use Rattle.cm_cases.specs.Listed.{listing_of}
use Rattle.cm_envelope.specs.declared.envelope.Envelope.{Envelope}
use Rattle.cm_reasons.specs.Lines.{text_of_lines}
use Rattle.gk_pickle.specs.Rest.{title_of}
use Rattle.cm_source_reasons.specs.DueLines.{missing_line}
use Rattle.cm_source_reasons.proofs.source_reasons.add_first.Given as goal

abbrev pub invariant-loop-shown : goal.invariant-loop-shown
invariant-loop-shown l = record {
  left : drop (100 - l._shown) (map title_of l.due) ≡ drop 100 (map title_of l.fn.due);
  lines :
      (es : List Envelope) → l.lines.places.now ≡ listing_of es
      → string_bytes l.text ++ text_of_lines (take (100 - l._shown) (map (missing_line es l.lines.uri.now l.lines.ids.now) (map title_of l.due)))
      ≡ string_bytes l.fn.text ++ text_of_lines (take 100 (map (missing_line es l.lines.uri.now l.lines.ids.now) (map title_of l.fn.due)));
}
