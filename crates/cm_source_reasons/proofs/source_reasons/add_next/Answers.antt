use Rattle.std.proofs.Common.{◌≡◌, ◌∙◌, ◌++◌, [], append_assoc, ap, refl, sym, string_bytes, Bor, List, ℕ, None, Option, Some}
use Rattle.std.specs.Prelude.{option_map, slice_get}
use Rattle.gk_pickle.specs.Rest.{IsNext}
use Rattle.cm_judge.specs.Kept.{kept_row}
use Rattle.cm_envelope.specs.declared.envelope.Envelope.{Envelope}
use Rattle.cm_envelope.specs.declared.pickle.Pickle.{Pickle}
use Rattle.cm_stream.specs.Sources.{DuePickle}
use Rattle.cm_stream.specs.Texts.{Utf8}
use Rattle.cm_differs.specs.Differences.{pickle_difference}
use Rattle.cm_differs.specs.declared.difference.Difference.{Difference}
use Rattle.cm_source_reasons.specs.SourceReasons.{due_line, pickle_reason_text, sides_text}
use Rattle.cm_source_reasons.proofs.source_reasons.add_next.Goals as goal

next_told : (es : List Envelope) (p : Pickle) (old mid new : List ℕ) (uri : Utf8) (ids kept : List Utf8) (due next : Option DuePickle) (d : Difference)
    → mid ≡ old ++ due_line es uri ids due → new ≡ mid ++ sides_text d → d ≡ pickle_difference ids due p → uri ≡ p.uri → ids ≡ kept → due ≡ next
    → new ≡ old ++ pickle_reason_text es kept next p
next_told es p old mid new uri ids kept due next d a b c u i n =
    b ∙ (λ j. a j ++ sides_text (c j)) ∙ append_assoc old (due_line es uri ids due) (sides_text (pickle_difference ids due p))
    ∙ (λ j. old ++ (due_line es (u j) (i j) (n j) ++ sides_text (pickle_difference (i j) (n j) p)))

first_is : (start kept after : List DuePickle) (found : Option DuePickle) → start ≡ kept → IsNext start after found → found ≡ slice_get kept 0
first_is start kept after None same h = rw (← same, h.0) refl
first_is start kept after (Some p) same h = rw (← same, h) refl

pub returns : goal.returns
returns c es is =
    let p = c.args.pickle.now in
    let ids = c.ids.result.now in
    let row = kept_row [] c.args.source.now in
    let due = option_map (λ (x : Bor DuePickle). x.now) c.as_ref.result in
    let same = c.as_ref-2.ensures.value ∙ sym c.as_ref.ensures.value in
    next_told es p (string_bytes c.args.text.now) _ _ c.as_str.result.now ids _ due _ c.in_ok-difference.difference
    (c.in_ok-add_due.ensures es is) c.in_ok-add_sides.ensures (c.in_ok-difference.ensures ∙ ap (λ (o : Option DuePickle). pickle_difference ids o p) same) c.as_str.ensures c.ids.ensures
    (c.as_ref.ensures.value ∙ first_is c.due.result row.due c.next.new.self c.in_ok-due.due c.due.ensures c.in_ok-due.ensures)
