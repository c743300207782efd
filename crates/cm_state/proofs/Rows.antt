-- What one more line changes in what is kept of the sources.
use Rattle.std.proofs.Common.{◌≡◌, refl, sym, ap, ◌∙◌, List, [], ◌∷◌, ◌++◌, Some, None, true, false, append-nil, subst, map, drop, length, arith}
use Rattle.std.specs.Prelude.{nat_lt, find}
use Rattle.std.specs.List.{AllByRecursion, filter, filter_map}
use Rattle.std.specs.Str.{bytes_eq}
use Rattle.std.proofs.lemmas.List.{map-append, drop-drop}
use Rattle.cm_stream.specs.Texts.{Utf8}
use Rattle.cm_stream.specs.OnePass.{reads}
use Rattle.cm_stream.specs.Checks.{due_pickles}
use Rattle.cm_stream.specs.References.{Name, SourceOf, DocumentOf, times_declared, refers, as_source, as_document, as_pickle, sources, documents_of, pickles_of}
use Rattle.cm_envelope.specs.declared.envelope.Envelope.{Envelope}
use Rattle.cm_envelope.specs.declared.envelope.Envelope.TheVariants as envelope
use Rattle.cm_envelope.specs.declared.envelope.Source.{Source}
use Rattle.cm_envelope.specs.declared.envelope.GherkinDocument.{GherkinDocument}
use Rattle.cm_envelope.specs.declared.pickle.Pickle.{Pickle}
use Rattle.cm_stream.proofs.Lists.{or_false, keeps_none, length-both, find_none, found_more, found_push, map_same}
use Rattle.cm_stream.proofs.Found.{bytes_same, bytes_are, differs_back}
use Rattle.cm_stream.proofs.Declared.{declares_source, declares_document, document_is, pickle_is}
use Rattle.cm_stream.proofs.Documents.{documents_both, pickles_both}
use Rattle.cm_stream.proofs.Passing.{AllPass, front_passes, last_passes}
use Rattle.cm_stream.proofs.Distinct.{all_distinct, at_most_once}
use Rattle.cm_stream.proofs.OneRow.{OnlyOne, only_one, change_one}
use Rattle.cm_state.specs.Summary.{SourceRow, row_of, with_ids, one_more, change_source}
use Rattle.cm_state.specs.ByOnePass.{source_row, new_source}
use Rattle.cm_state.proofs.OneMore.{kept_named, not_found, none_refers}

-- what is kept of the sources
abbrev pub rows : List Envelope → List SourceRow
rows es = map (source_row es) (sources es)

-- ---- a line that is none of them

-- the row of a source of which these documents and pickles came
abbrev row_by : Source → List GherkinDocument → List Pickle → SourceRow
row_by s documents pickles = row_of s.uri (reads s.content) documents pickles

same_row : (es : List Envelope) (e : Envelope) (s : Source) → documents_of s.uri (es ++ e ∷ []) ≡ documents_of s.uri es → pickles_of s.uri (es ++ e ∷ []) ≡ pickles_of s.uri es
    → source_row (es ++ e ∷ []) s ≡ source_row es s
same_row es e s d p = λ i. row_by s (d i) (p i)

documents_stay : (es : List Envelope) (e : Envelope) → as_document e ≡ None → (u : Utf8) → documents_of u (es ++ e ∷ []) ≡ documents_of u es
documents_stay es e none u = ap (filter (λ d. bytes_eq u d.uri)) (found_more as_document es e none)

pickles_stay : (es : List Envelope) (e : Envelope) → as_pickle e ≡ None → (u : Utf8) → pickles_of u (es ++ e ∷ []) ≡ pickles_of u es
pickles_stay es e none u = ap (filter (λ p. bytes_eq u p.uri)) (found_more as_pickle es e none)

rows_stay : (es : List Envelope) (e : Envelope) → as_document e ≡ None → as_pickle e ≡ None → map (source_row (es ++ e ∷ [])) (sources es) ≡ rows es
rows_stay es e d p = map_same (source_row (es ++ e ∷ [])) (source_row es) (λ s. same_row es e s (documents_stay es e d s.uri) (pickles_stay es e p s.uri)) (sources es)

pub other_rows : (es : List Envelope) (e : Envelope) → as_source e ≡ None → as_document e ≡ None → as_pickle e ≡ None → rows (es ++ e ∷ []) ≡ rows es
other_rows es e s d p = ap (map (source_row (es ++ e ∷ []))) (found_more as_source es e s) ∙ rows_stay es e d p

-- ---- a source

document_refers : (front : List Envelope) (here : Envelope) (d : GherkinDocument) → as_document here ≡ Some d → AllByRecursion (λ n. times_declared n front ≡ 1) (refers front here) → times_declared (SourceOf d.uri) front ≡ 1
document_refers front here d is refs = (subst (λ (e : Envelope). AllByRecursion (λ (n : Name). times_declared n front ≡ 1) (refers front e)) (document_is here d is) refs).0

pickle_refers : (front : List Envelope) (here : Envelope) (p : Pickle) → as_pickle here ≡ Some p → AllByRecursion (λ n. times_declared n front ≡ 1) (refers front here) → times_declared (SourceOf p.uri) front ≡ 1
pickle_refers front here p is refs = (subst (λ (e : Envelope). AllByRecursion (λ (n : Name). times_declared n front ≡ 1) (refers front e)) (pickle_is here p is) refs).0

-- of a uri that no source has there is no document and no pickle
no_documents : (es : List Envelope) → AllPass es → (u : Utf8) → find (λ s. bytes_eq u s.uri) (sources es) ≡ None → documents_of u es ≡ []
no_documents es pass u none = keeps_none (λ d. bytes_eq u d.uri) (filter_map as_document es)
    (none_refers es pass SourceOf as_source (λ (s : Source). s.uri) declares_source as_document (λ (d : GherkinDocument). d.uri) document_refers u none)

no_pickles : (es : List Envelope) → AllPass es → (u : Utf8) → find (λ s. bytes_eq u s.uri) (sources es) ≡ None → pickles_of u es ≡ []
no_pickles es pass u none = keeps_none (λ p. bytes_eq u p.uri) (filter_map as_pickle es)
    (none_refers es pass SourceOf as_source (λ (s : Source). s.uri) declares_source as_pickle (λ (p : Pickle). p.uri) pickle_refers u none)

pub source_rows : (es : List Envelope) (s : Source) → AllPass (es ++ envelope.Source s ∷ []) → rows (es ++ envelope.Source s ∷ []) ≡ rows es ++ new_source s ∷ []
source_rows es s more =
    let e = envelope.Source s in
    let pass = front_passes es (e ∷ []) more in
    let new = (or_false (nat_lt 0 (times_declared (SourceOf s.uri) es)) false ((last_passes es e more).passes).0).0 in
    let none = not_found (SourceOf s.uri) as_source (λ (x : Source). bytes_eq s.uri x.uri) (declares_source s.uri) es new in
    let no_document : documents_of s.uri (es ++ e ∷ []) ≡ [] = documents_stay es e refl s.uri ∙ no_documents es pass s.uri none in
    let no_pickle : pickles_of s.uri (es ++ e ∷ []) ≡ [] = pickles_stay es e refl s.uri ∙ no_pickles es pass s.uri none in
    let fresh : source_row (es ++ e ∷ []) s ≡ new_source s = λ i. row_by s (no_document i) (no_pickle i) in
    ap (map (source_row (es ++ e ∷ []))) (found_push as_source es e s refl) ∙ map-append (source_row (es ++ e ∷ [])) (sources es) (s ∷ [])
    ∙ ap (λ rs. rs ++ source_row (es ++ e ∷ []) s ∷ []) (rows_stay es e refl refl)
    ∙ ap (λ r. rows es ++ r ∷ []) fresh

-- ---- a document, and a pickle

one_source : (es : List Envelope) → AllPass es → (u : Utf8) → OnlyOne (λ s. bytes_eq u s.uri) (sources es)
one_source es pass u =
    let counted : length (filter (λ s. bytes_eq u s.uri) (sources es)) ≡ times_declared (SourceOf u) es = kept_named (SourceOf u) as_source (λ s. bytes_eq u s.uri) (declares_source u) es in
    only_one (λ s. bytes_eq u s.uri) (sources es) (omega (arith, counted, at_most_once (SourceOf u) es (all_distinct es pass)))

pub document_rows : (es : List Envelope) (d : GherkinDocument) → AllPass (es ++ envelope.GherkinDocument d ∷ [])
    → rows (es ++ envelope.GherkinDocument d ∷ []) ≡ change_source d.uri (with_ids d.ids) (rows es)
document_rows es d more =
    let e = envelope.GherkinDocument d in
    let pass = front_passes es (e ∷ []) more in
    let new = (or_false (nat_lt 0 (times_declared (DocumentOf d.uri) es)) false (((last_passes es e more).passes).1).0).0 in
    let missing = not_found (DocumentOf d.uri) as_document (λ (x : GherkinDocument). bytes_eq d.uri x.uri) (declares_document d.uri) es new in
    let none : documents_of d.uri es ≡ [] = keeps_none (λ x. bytes_eq d.uri x.uri) (filter_map as_document es) (find_none (λ x. bytes_eq d.uri x.uri) (filter_map as_document es) missing) in
    ap (map (source_row (es ++ e ∷ []))) (found_more as_source es e refl)
    ∙ sym (change_one (λ r. bytes_eq d.uri r.uri) (with_ids d.ids) (λ s. bytes_eq d.uri s.uri) (source_row es) (source_row (es ++ e ∷ [])) (λ s. refl) (hit none) other (sources es) (one_source es pass d.uri))
  where
    hit : documents_of d.uri es ≡ [] → (s : Source) → bytes_eq d.uri s.uri ≡ true → source_row (es ++ envelope.GherkinDocument d ∷ []) s ≡ with_ids d.ids (source_row es s)
    hit none s k =
        let e = envelope.GherkinDocument d in
        let same : s.uri ≡ d.uri = sym (bytes_are d.uri s.uri k) in
        let here : documents_of d.uri (e ∷ []) ≡ d ∷ [] = rw (bytes_same d.uri) refl in
        let all : documents_of s.uri (es ++ e ∷ []) ≡ d ∷ [] = ap (λ u. documents_of u (es ++ e ∷ [])) same ∙ documents_both d.uri es (e ∷ []) ∙ ap (λ ds. ds ++ documents_of d.uri (e ∷ [])) none ∙ here in
        λ i. row_by s (all i) (pickles_stay es e refl s.uri i)

    other : (s : Source) → bytes_eq d.uri s.uri ≡ false → source_row (es ++ envelope.GherkinDocument d ∷ []) s ≡ source_row es s
    other s k =
        let e = envelope.GherkinDocument d in
        let away : documents_of s.uri (e ∷ []) ≡ [] = rw (differs_back d.uri s.uri k) refl in
        same_row es e s (documents_both s.uri es (e ∷ []) ∙ ap (λ ds. documents_of s.uri es ++ ds) away ∙ append-nil (documents_of s.uri es)) (pickles_stay es e refl s.uri)

pub pickle_rows : (es : List Envelope) (p : Pickle) → AllPass (es ++ envelope.Pickle p ∷ []) → rows (es ++ envelope.Pickle p ∷ []) ≡ change_source p.uri one_more (rows es)
pickle_rows es p more =
    let e = envelope.Pickle p in
    let pass = front_passes es (e ∷ []) more in
    ap (map (source_row (es ++ e ∷ []))) (found_more as_source es e refl)
    ∙ sym (change_one (λ r. bytes_eq p.uri r.uri) one_more (λ s. bytes_eq p.uri s.uri) (source_row es) (source_row (es ++ e ∷ [])) (λ s. refl) hit other (sources es) (one_source es pass p.uri))
  where
    hit : (s : Source) → bytes_eq p.uri s.uri ≡ true → source_row (es ++ envelope.Pickle p ∷ []) s ≡ one_more (source_row es s)
    hit s k =
        let e = envelope.Pickle p in
        let same : s.uri ≡ p.uri = sym (bytes_are p.uri s.uri k) in
        let here : pickles_of s.uri (e ∷ []) ≡ p ∷ [] = rw (same, bytes_same p.uri) refl in
        let all : pickles_of s.uri (es ++ e ∷ []) ≡ pickles_of s.uri es ++ p ∷ [] = pickles_both s.uri es (e ∷ []) ∙ ap (λ ps. pickles_of s.uri es ++ ps) here in
        let due = due_pickles (Some (reads s.content)) in
        let left : drop (length (pickles_of s.uri (es ++ e ∷ []))) due ≡ drop 1 (drop (length (pickles_of s.uri es)) due) =
        ap (λ n. drop n due) (ap length all ∙ length-both (pickles_of s.uri es) (p ∷ [])) ∙ sym (drop-drop 1 (length (pickles_of s.uri es)) due) in
        λ i. record (row_by s (documents_stay es e refl s.uri i) []) { due = left i }

    other : (s : Source) → bytes_eq p.uri s.uri ≡ false → source_row (es ++ envelope.Pickle p ∷ []) s ≡ source_row es s
    other s k =
        let e = envelope.Pickle p in
        let away : pickles_of s.uri (e ∷ []) ≡ [] = rw (differs_back p.uri s.uri k) refl in
        same_row es e s (documents_stay es e refl s.uri) (pickles_both s.uri es (e ∷ []) ∙ ap (λ ps. pickles_of s.uri es ++ ps) away ∙ append-nil (pickles_of s.uri es))
