-- What sources are read as and what of them came, by what is kept of the lines.
use Rattle.std.proofs.Common.{◌≡◌, ℕ, zero, suc, refl, sym, ap, ◌∙◌, List, [], ◌∷◌, Option, Some, None, false, Bool, not, ◌&&◌, ◌||◌, ◌==◌, drop, length, map, arith}
use Rattle.std.specs.Prelude.{nat_lt, find, slice_get, is_some}
use Rattle.std.specs.List.{list_any, list_all, filter_map}
use Rattle.std.specs.Option.{option_map, option_map_or}
use Rattle.std.specs.Str.{bytes_eq}
use Rattle.std.proofs.lemmas.Bool.Decides.{nat_tests}
use Rattle.std.proofs.lemmas.List.Folds.{list_all-map}
use Rattle.cm_refs.proofs.EntryLemmas.{list_any-map}
use Rattle.gk_pickle.specs.Pickles.{pickles as compiled}
use Rattle.cm_attempt.specs.Table.{has_text}
use Rattle.cm_attempt.proofs.Growing.{find_passes}
use Rattle.cm_stream.specs.Texts.{Utf8}
use Rattle.cm_stream.specs.Readings.{Reading, Accepted}
use Rattle.cm_stream.specs.OnePass.{reads}
use Rattle.cm_stream.specs.Skeleton.{same_skeleton}
use Rattle.cm_stream.specs.Sources.{is_due}
use Rattle.cm_stream.specs.References.{as_document, sources, documents_of, pickles_of, is_accepted}
use Rattle.cm_stream.specs.Checks.{has_skeleton_of, due_pickles, document_ids, lacks}
use Rattle.cm_stream.specs.ByOnePass.{reading_of, is_uri_accepted, is_next_pickle, is_incomplete}
use Rattle.cm_envelope.specs.declared.envelope.Envelope.{Envelope}
use Rattle.cm_envelope.specs.declared.envelope.Source.{Source}
use Rattle.cm_envelope.specs.declared.envelope.GherkinDocument.{GherkinDocument}
use Rattle.cm_envelope.specs.declared.pickle.Pickle.{Pickle}
use Rattle.cm_stream.proofs.Found.{bytes_are}
use Rattle.cm_stream.proofs.Declared.{same_any}
use Rattle.cm_state.specs.Summary.{SourceRow, document_of, awaited_of, declarations_in, row_of}
use Rattle.cm_state.specs.ByOnePass.{source_row, summary_of_lines}
use Rattle.cm_state.specs.StateChecks.{find_source, is_accepted_by, is_awaited_of, is_awaited_by, is_next_of, is_next_by, lacks_by}
use Rattle.cm_stream.proofs.Lists.{find_map, keeps_none}

abbrev of_uri : Utf8 → Source → Bool
of_uri uri s = bytes_eq uri s.uri

-- what is asked of the row of a uri is what is asked of what its source is read as
asked_by : (f : SourceRow → Bool) (g : Option Reading → Bool) (first : ℕ) (es : List Envelope) (uri : Utf8) → g None ≡ false
    → ((s : Source) → s.uri ≡ uri → f (source_row es s) ≡ g (Some (reads s.content)))
    → option_map_or f (find_source (summary_of_lines first es) uri) false ≡ g (reading_of uri es)
asked_by f g first es uri none same = go (find (of_uri uri) (sources es)) refl
  where
    row_is : find_source (summary_of_lines first es) uri ≡ option_map (source_row es) (find (of_uri uri) (sources es))
    row_is = find_map (λ r. bytes_eq uri r.uri) (source_row es) (sources es)

    by : (o : Option Source) → find (of_uri uri) (sources es) ≡ o → option_map_or f (find_source (summary_of_lines first es) uri) false ≡ option_map_or f (option_map (source_row es) o) false
    by o e = ap (λ r. option_map_or f r false) (row_is ∙ ap (option_map (source_row es)) e)

    of : (o : Option Source) → find (of_uri uri) (sources es) ≡ o → g (reading_of uri es) ≡ g (option_map (λ (s : Source). reads s.content) o)
    of o e = ap (λ r. g (option_map (λ (s : Source). reads s.content) r)) e

    go : (o : Option Source) → find (of_uri uri) (sources es) ≡ o → option_map_or f (find_source (summary_of_lines first es) uri) false ≡ g (reading_of uri es)
    go None e = by None e ∙ sym none ∙ sym (of None e)
    go (Some s) e = by (Some s) e ∙ same s (sym (bytes_are uri s.uri (find_passes (of_uri uri) (sources es) s e))) ∙ sym (of (Some s) e)

pub same_accepted : (first : ℕ) (es : List Envelope) (uri : Utf8) → is_accepted_by (summary_of_lines first es) uri ≡ is_uri_accepted uri es
same_accepted first es uri = asked_by (λ r. r.is_accepted) (λ o. option_map_or is_accepted o false) first es uri refl (λ s k. refl)

-- ---- the document

pub no_document : (es : List Envelope) (uri : Utf8) → has_text uri (declarations_in es).documents ≡ false → documents_of uri es ≡ []
no_document es uri new =
    keeps_none (λ (d : GherkinDocument). bytes_eq uri d.uri) (filter_map as_document es)
    (sym (list_any-map (bytes_eq uri) (λ (d : GherkinDocument). d.uri) (filter_map as_document es)) ∙ new)

-- a document is compared with what the text is read as, unless one came
pub same_awaited : (first : ℕ) (es : List Envelope) (d : GherkinDocument) → has_text d.uri (declarations_in es).documents ≡ false → is_awaited_by (summary_of_lines first es) d ≡ has_skeleton_of d.document (reading_of d.uri es)
same_awaited first es d new = asked_by (is_awaited_of d.document) (has_skeleton_of d.document) first es d.uri refl same
  where
    of_reading : (r : Reading) → option_map_or (same_skeleton d.document) (document_of r) false ≡ has_skeleton_of d.document (Some r)
    of_reading (Accepted due) = refl
    of_reading _ = refl

    same : (s : Source) → s.uri ≡ d.uri → is_awaited_of d.document (source_row es s) ≡ has_skeleton_of d.document (Some (reads s.content))
    same s k =
        let none : documents_of s.uri es ≡ [] = ap (λ u. documents_of u es) k ∙ no_document es d.uri new in
        ap (λ ds. option_map_or (same_skeleton d.document) (awaited_of (reads s.content) ds) false) none ∙ of_reading (reads s.content)

-- ---- the next pickle

pub first_left : {X : Type 0} (xs : List X) (n : ℕ) → slice_get (drop n xs) 0 ≡ slice_get xs n
first_left [] zero = refl
first_left [] (suc n) = refl
first_left (x ∷ xs) zero = refl
first_left (x ∷ xs) (suc n) = first_left xs n

-- the pickle is the one at this place of those that the reading compiles to
abbrev is_at : Pickle → List Utf8 → Option Reading → ℕ → Bool
is_at p ids r n = option_map_or (λ due. is_due ids p due) (slice_get (due_pickles r) n) false

pub same_next : (first : ℕ) (es : List Envelope) (p : Pickle) → is_next_by (summary_of_lines first es) p ≡ is_next_pickle es p
same_next first es p = asked_by (is_next_of p) (λ r. is_at p (document_ids p.uri es) r (length (pickles_of p.uri es))) first es p.uri refl same
  where
    same : (s : Source) → s.uri ≡ p.uri → is_next_of p (source_row es s) ≡ is_at p (document_ids p.uri es) (Some (reads s.content)) (length (pickles_of p.uri es))
    same s k =
        ap (λ o. option_map_or (λ due. is_due (document_ids s.uri es) p due) o false) (first_left (due_pickles (Some (reads s.content))) (length (pickles_of s.uri es)))
        ∙ ap (λ u. is_at p (document_ids u es) (Some (reads s.content)) (length (pickles_of u es))) k

-- ---- sources at the end

pub not_zero : (n : ℕ) → (suc n == 0) ≡ false
not_zero n = grind (arith, nat_tests)

pub some_left : {X : Type 0} (xs : List X) (n : ℕ) → not (length (drop n xs) == 0) ≡ nat_lt n (length xs)
some_left [] zero = refl
some_left [] (suc n) = grind (arith, nat_tests)
some_left (x ∷ xs) zero = grind (arith, nat_tests)
some_left (x ∷ xs) (suc n) = let rest = some_left xs n in rest ∙ grind (arith, nat_tests)

none_left : (n : ℕ) → not (length (drop n (due_pickles None)) == 0) ≡ false
none_left zero = refl
none_left (suc n) = refl

is_lacking : (r : Reading) (ds : List GherkinDocument) → is_some (awaited_of r ds) ≡ (is_accepted r && (length ds == 0))
is_lacking (Accepted d) [] = refl
is_lacking (Accepted d) (x ∷ ds) = sym (not_zero (length ds))
is_lacking _ [] = refl
is_lacking _ (x ∷ ds) = refl

pub same_lack : (es : List Envelope) (s : Source) (r : Reading) → lacks_by (row_of s.uri r (documents_of s.uri es) (pickles_of s.uri es)) ≡ lacks es s.uri r
same_lack es s (Accepted d) = λ i. is_lacking (Accepted d) (documents_of s.uri es) i || some_left (compiled d) (length (pickles_of s.uri es)) i
same_lack es s r = λ i. is_lacking r (documents_of s.uri es) i || none_left (length (pickles_of s.uri es)) i

pub same_incomplete : (es : List Envelope) → list_any lacks_by (map (source_row es) (sources es)) ≡ list_any (is_incomplete es) (sources es)
same_incomplete es =
    list_any-map lacks_by (source_row es) (sources es)
    ∙ same_any (λ (s : Source). lacks_by (source_row es s)) (is_incomplete es) (λ s. same_lack es s (reads s.content)) (sources es)

pub each_accepted : (es : List Envelope) → list_all (λ (r : SourceRow). r.is_accepted) (map (source_row es) (sources es)) ≡ list_all (λ (s : Source). is_accepted (reads s.content)) (sources es)
each_accepted es = list_all-map (λ (r : SourceRow). r.is_accepted) (source_row es) (sources es)
