-- A good list has no fault in its documents, parse errors, pickles and cases.
use Rattle.std.proofs.Common.{◌≡◌, refl, sym, ap, ◌∙◌, List, [], ◌∷◌, ◌++◌, Some, true, false, Bool, map, length, append_assoc}
use Rattle.std.specs.Prelude.{find, slice_get}
use Rattle.std.specs.List.{list_any, filter, filter_map}
use Rattle.std.specs.Option.{option_map, option_map_or}
use Rattle.std.specs.Str.{bytes_eq}
use Rattle.std.proofs.lemmas.List.Elements.{filter-append, filter_map-append}
use Rattle.gk_pickle.specs.Pickles.{pickles as compiled}
use Rattle.cm_stream.specs.Texts.{Utf8, same_list, same_texts}
use Rattle.cm_attempt.specs.Table.{has_repeat}
use Rattle.cm_stream.specs.Readings.{Reading, Accepted, Refused, OtherLanguage, TooLong}
use Rattle.cm_stream.specs.OnePass.{reads}
use Rattle.cm_stream.specs.Sources.{is_due}
use Rattle.cm_stream.specs.References.{SourceOf, DocumentOf, PickleNamed, times_declared, as_source, as_document, as_pickle, sources, sources_of, documents_of, pickles_of, is_accepted, find_pickle, pickle_step_ids}
use Rattle.cm_stream.specs.Good.{Sound, MeetsSource}
use Rattle.cm_stream.specs.Checks.{has_skeleton_of, first_ids, document_ids, has_steps_of_pickle}
use Rattle.cm_stream.specs.ByOnePass.{reading_of, is_uri_accepted, is_next_pickle}
use Rattle.cm_envelope.specs.declared.envelope.Envelope.{Envelope}
use Rattle.cm_envelope.specs.declared.envelope.Envelope.TheVariants as envelope
use Rattle.cm_envelope.specs.declared.envelope.GherkinDocument.{GherkinDocument}
use Rattle.cm_envelope.specs.declared.envelope.ParseError.{ParseError}
use Rattle.cm_envelope.specs.declared.pickle.Pickle.{Pickle}
use Rattle.cm_envelope.specs.declared.envelope.Source.{Source}
use Rattle.cm_envelope.specs.declared.envelope.TestCase.{TestCase}
use Rattle.cm_stream.proofs.Readings.{source_meets, none_accepted}
use Rattle.gk_document.specs.Skeleton.{skeleton}
use Rattle.cm_stream.proofs.Skeletons.{same_skeletons}
use Rattle.cm_stream.proofs.Lists.{or_false, and_true}
use Rattle.cm_stream.proofs.Found.{FoundAt, still_found, bytes_same, bytes_are}
use Rattle.cm_stream.proofs.Declared.{declarer, declares_source, declares_document, declares_pickle, source_is}

-- the source of a uri, before a line: where it is in the whole, and what it is read as
pub record HasSource (es before rest : List Envelope) (of : Utf8) : Type 0 where
  pub front : List Envelope
  pub source : Source
  pub back : List Envelope
  pub here : before ≡ front ++ envelope.Source source ∷ back
  pub cut : es ≡ front ++ envelope.Source source ∷ (back ++ rest)
  pub uri : source.uri ≡ of
  pub read : reading_of of before ≡ Some (reads source.content)
  pub meets : MeetsSource es front source (back ++ rest) (reads source.content)

pub has_source : (es before : List Envelope) (e : Envelope) (after : List Envelope) → Sound es → es ≡ before ++ e ∷ after → (uri : Utf8) → times_declared (SourceOf uri) before ≡ 1 → HasSource es before (e ∷ after) uri
has_source es before e after good cut uri one =
    let at = declarer (SourceOf uri) as_source (λ x. bytes_eq uri x.uri) (declares_source uri) before one in
    let is = source_is at.here at.value at.is in
    let here : before ≡ at.front ++ envelope.Source at.value ∷ at.back = at.cut ∙ ap (λ x. at.front ++ x ∷ at.back) is in
    let whole : es ≡ at.front ++ envelope.Source at.value ∷ (at.back ++ e ∷ after) = cut ∙ ap (λ xs. xs ++ e ∷ after) here ∙ append_assoc at.front (envelope.Source at.value ∷ at.back) (e ∷ after) in
    record {
      front = at.front;
      source = at.value;
      back = at.back;
      here = here;
      cut = whole;
      uri = sym (bytes_are uri at.value.uri at.passes);
      read = ap (option_map (λ s. reads s.content)) at.found;
      meets = source_meets es at.front at.value (at.back ++ e ∷ after) (good.sources at.front (envelope.Source at.value) (at.back ++ e ∷ after) whole);
    }

-- the documents, and the pickles, of two lists one after the other
pub documents_both : (uri : Utf8) (xs ys : List Envelope) → documents_of uri (xs ++ ys) ≡ documents_of uri xs ++ documents_of uri ys
documents_both uri xs ys = ap (filter (λ x. bytes_eq uri x.uri)) (filter_map-append as_document xs ys) ∙ filter-append (λ x. bytes_eq uri x.uri) (filter_map as_document xs) (filter_map as_document ys)

pub pickles_both : (uri : Utf8) (xs ys : List Envelope) → pickles_of uri (xs ++ ys) ≡ pickles_of uri xs ++ pickles_of uri ys
pickles_both uri xs ys = ap (filter (λ x. bytes_eq uri x.uri)) (filter_map-append as_pickle xs ys) ∙ filter-append (λ x. bytes_eq uri x.uri) (filter_map as_pickle xs) (filter_map as_pickle ys)

documents_here : (d : GherkinDocument) (after : List Envelope) → documents_of d.uri (envelope.GherkinDocument d ∷ after) ≡ d ∷ documents_of d.uri after
documents_here d after = rw (bytes_same d.uri) refl

pickles_here : (p : Pickle) (after : List Envelope) → pickles_of p.uri (envelope.Pickle p ∷ after) ≡ p ∷ pickles_of p.uri after
pickles_here p after = rw (bytes_same p.uri) refl

-- one element among some
pub the_only : {X : Type 0} (xs : List X) (x : X) (ys : List X) (g : X) → xs ++ x ∷ ys ≡ g ∷ [] → (x ≡ g) × (xs ≡ [])
the_only [] x ys g e = (cc, refl)
the_only (z ∷ xs) x ys g e =
    let rest : xs ++ x ∷ ys ≡ [] = cc in
    absurd (none xs rest)
  where
    none : (zs : List _) → zs ++ x ∷ ys ≡ [] → ⊥
    none [] h = cc
    none (w ∷ zs) h = cc

pub some_isnt_none : {X : Type 0} (xs : List X) (x : X) (ys : List X) → xs ++ x ∷ ys ≡ [] → ⊥
some_isnt_none [] x ys e = cc
some_isnt_none (z ∷ xs) x ys e = cc

-- ---- DocumentOfRefusedSource, TreeDiffers, and DuplicateId of a document

pub record DocumentPasses (before : List Envelope) (d : GherkinDocument) : Type 0 where
  pub accepted : is_uri_accepted d.uri before ≡ true
  pub skeleton : has_skeleton_of d.document (reading_of d.uri before) ≡ true
  pub distinct : has_repeat d.ids ≡ false

pub document_passes : (es before : List Envelope) (d : GherkinDocument) (after : List Envelope) → Sound es → es ≡ before ++ envelope.GherkinDocument d ∷ after → DocumentPasses before d
document_passes es before d after good cut =
    let s = has_source es before (envelope.GherkinDocument d) after good cut d.uri (good.references before (envelope.GherkinDocument d) after cut).0 in
    go s (reads s.source.content) s.read s.meets
  where
    go : (s : HasSource es before (envelope.GherkinDocument d ∷ after) d.uri) (r : Reading) → reading_of d.uri before ≡ Some r
        → MeetsSource es s.front s.source (s.back ++ envelope.GherkinDocument d ∷ after) r → DocumentPasses before d
    go s Refused read h =
        let all : documents_of d.uri before ++ d ∷ documents_of d.uri after ≡ [] =
        ap (λ xs. documents_of d.uri before ++ xs) (sym (documents_here d after)) ∙ sym (documents_both d.uri before (envelope.GherkinDocument d ∷ after)) ∙ ap (documents_of d.uri) (sym cut) ∙ ap (λ u. documents_of u es) (sym s.uri) ∙ h.no_document in
        absurd (some_isnt_none (documents_of d.uri before) d (documents_of d.uri after) all)
    go s OtherLanguage read h = absurd h
    go s TooLong read h = absurd h
    go s (Accepted due) read h =
        let one : documents_of d.uri s.back ++ d ∷ documents_of d.uri after ≡ h.document ∷ [] =
        ap (λ xs. documents_of d.uri s.back ++ xs) (sym (documents_here d after)) ∙ sym (documents_both d.uri s.back (envelope.GherkinDocument d ∷ after)) ∙ ap (λ u. documents_of u (s.back ++ envelope.GherkinDocument d ∷ after)) (sym s.uri) ∙ h.one_after in
        let same : d ≡ h.document = (the_only (documents_of d.uri s.back) d (documents_of d.uri after) h.document one).0 in
        record {
          accepted = rw read refl;
          skeleton = rw read (same_skeletons d.document due (ap (λ x. skeleton x.document) same ∙ h.same_skeleton));
          distinct = ap (λ x. has_repeat x.ids) same ∙ h.distinct_ids;
        }

-- ---- ParseErrorOfGoodSource

in_sources : (uri : Utf8) (xs : List Source) (s : Source) → find (λ x. bytes_eq uri x.uri) xs ≡ Some s → list_any (λ x. is_accepted (reads x.content)) (filter (λ x. bytes_eq uri x.uri) xs) ≡ false → is_accepted (reads s.content) ≡ false
in_sources uri [] s found none = cc
in_sources uri (x ∷ xs) s found none = go (bytes_eq uri x.uri) refl (in_sources uri xs s)
  where
    go : (b : Bool) → bytes_eq uri x.uri ≡ b
        → (find (λ x. bytes_eq uri x.uri) xs ≡ Some s → list_any (λ x. is_accepted (reads x.content)) (filter (λ x. bytes_eq uri x.uri) xs) ≡ false → is_accepted (reads s.content) ≡ false)
        → is_accepted (reads s.content) ≡ false
    go true e rec =
        let here : Some x ≡ Some s = rw e at found in
        let same : x ≡ s = cc in
        let all : list_any (λ x. is_accepted (reads x.content)) (x ∷ filter (λ x. bytes_eq uri x.uri) xs) ≡ false = rw e at none in
        ap (λ (y : Source). is_accepted (reads y.content)) (sym same) ∙ (or_false (is_accepted (reads x.content)) (list_any (λ x. is_accepted (reads x.content)) (filter (λ x. bytes_eq uri x.uri) xs)) all).0
    go false e rec = rec (rw e at found) (rw e at none)

pub refused_indeed : (es before : List Envelope) (p : ParseError) (after : List Envelope) → Sound es → es ≡ before ++ envelope.ParseError p ∷ after → is_uri_accepted p.source.uri before ≡ false
refused_indeed es before p after good cut =
    let at = declarer (SourceOf p.source.uri) as_source (λ x. bytes_eq p.source.uri x.uri) (declares_source p.source.uri) before (good.references before (envelope.ParseError p) after cut).0 in
    let in_all : find (λ x. bytes_eq p.source.uri x.uri) (sources es) ≡ Some at.value = ap (λ xs. find (λ (x : Source). bytes_eq p.source.uri x.uri) (sources xs)) cut ∙ still_found as_source (λ x. bytes_eq p.source.uri x.uri) before (envelope.ParseError p ∷ after) at.value at.found in
    rw at.found (in_sources p.source.uri (sources es) at.value in_all (none_accepted (sources_of p.source.uri es) (good.sources before (envelope.ParseError p) after cut)))

-- ---- PickleDiffers

-- what is at a place of one list, and what at that place of the other
same_list_at : {A B : Type 0} (same : A → B → Bool) (xs : List A) (x : A) (more : List A) (ys : List B) → same_list same (xs ++ x ∷ more) ys ≡ true → option_map_or (same x) (slice_get ys (length xs)) false ≡ true
same_list_at same [] x more [] h = cc
same_list_at same [] x more (y ∷ ys) h = (and_true (same x y) (same_list same more ys) h).0
same_list_at same (z ∷ xs) x more [] h = cc
same_list_at same (z ∷ xs) x more (y ∷ ys) h = same_list_at same xs x more ys (and_true (same z y) (same_list same (xs ++ x ∷ more) ys) h).1

pub pickle_is_next : (es before : List Envelope) (p : Pickle) (after : List Envelope) → Sound es → es ≡ before ++ envelope.Pickle p ∷ after → is_next_pickle before p ≡ true
pickle_is_next es before p after good cut =
    let refs = good.references before (envelope.Pickle p) after cut in
    let s = has_source es before (envelope.Pickle p) after good cut p.uri refs.0 in
    let at = declarer (DocumentOf p.uri) as_document (λ x. bytes_eq p.uri x.uri) (declares_document p.uri) before (refs.1).0 in
    go s at (reads s.source.content) s.read s.meets
  where
    all_pickles : pickles_of p.uri es ≡ pickles_of p.uri before ++ p ∷ pickles_of p.uri after
    all_pickles = ap (pickles_of p.uri) cut ∙ pickles_both p.uri before (envelope.Pickle p ∷ after) ∙ ap (λ xs. pickles_of p.uri before ++ xs) (pickles_here p after)

    go : (s : HasSource es before (envelope.Pickle p ∷ after) p.uri) (at : FoundAt as_document (λ x. bytes_eq p.uri x.uri) before) (r : Reading) → reading_of p.uri before ≡ Some r
        → MeetsSource es s.front s.source (s.back ++ envelope.Pickle p ∷ after) r → is_next_pickle before p ≡ true
    go s at Refused read h = absurd (some_isnt_none (pickles_of p.uri before) p (pickles_of p.uri after) (sym all_pickles ∙ ap (λ u. pickles_of u es) (sym s.uri) ∙ h.no_pickle))
    go s at OtherLanguage read h = absurd h
    go s at TooLong read h = absurd h
    go s at (Accepted d) read h =
        let g = h.document in
        let u = s.source.uri in
        let all : documents_of u es ≡ g ∷ [] =
        ap (documents_of u) s.cut ∙ documents_both u s.front (envelope.Source s.source ∷ (s.back ++ envelope.Pickle p ∷ after)) ∙ ap (λ xs. xs ++ documents_of u (s.back ++ envelope.Pickle p ∷ after)) h.none_before ∙ h.one_after in
        let its : documents_of p.uri before ++ documents_of p.uri (envelope.Pickle p ∷ after) ≡ g ∷ [] = sym (documents_both p.uri before (envelope.Pickle p ∷ after)) ∙ ap (documents_of p.uri) (sym cut) ∙ ap (λ w. documents_of w es) (sym s.uri) ∙ all in
        let some : documents_of p.uri before ≡ documents_of p.uri at.front ++ at.value ∷ documents_of p.uri at.back =
        ap (documents_of p.uri) at.cut ∙ documents_both p.uri at.front (at.here ∷ at.back) ∙ ap (λ xs. documents_of p.uri at.front ++ xs) (rw (at.is, at.passes) refl) in
        let both : documents_of p.uri at.front ++ at.value ∷ (documents_of p.uri at.back ++ documents_of p.uri (envelope.Pickle p ∷ after)) ≡ g ∷ [] =
        sym (append_assoc (documents_of p.uri at.front) (at.value ∷ documents_of p.uri at.back) (documents_of p.uri (envelope.Pickle p ∷ after))) ∙ ap (λ xs. xs ++ documents_of p.uri (envelope.Pickle p ∷ after)) (sym some) ∙ its in
        let only = the_only (documents_of p.uri at.front) at.value (documents_of p.uri at.back ++ documents_of p.uri (envelope.Pickle p ∷ after)) g both in
        let ids : document_ids p.uri before ≡ g.ids = ap first_ids (some ∙ ap (λ xs. xs ++ at.value ∷ documents_of p.uri at.back) only.1) ∙ ap (λ x. x.ids) only.0 in
        let matched : same_list (is_due g.ids) (pickles_of p.uri before ++ p ∷ pickles_of p.uri after) (compiled d) ≡ true = ap (λ ps. same_list (is_due g.ids) ps (compiled d)) (sym all_pickles ∙ ap (λ w. pickles_of w es) (sym s.uri)) ∙ h.same_pickles in
        let here = same_list_at (is_due g.ids) (pickles_of p.uri before) p (pickles_of p.uri after) (compiled d) matched in
        rw (read, ids) here

-- ---- CaseStepsDiffer

texts_same : (ts : List Utf8) → same_texts ts ts ≡ true
texts_same [] = refl
texts_same (t ∷ ts) = rw (bytes_same t, texts_same ts) refl

pub steps_of_pickle : (es before : List Envelope) (c : TestCase) (after : List Envelope) → Sound es → es ≡ before ++ envelope.TestCase c ∷ after → times_declared (PickleNamed c.pickle_id) before ≡ 1 → has_steps_of_pickle before c ≡ true
steps_of_pickle es before c after good cut one =
    let at = declarer (PickleNamed c.pickle_id) as_pickle (λ x. bytes_eq c.pickle_id x.id) (declares_pickle c.pickle_id) before one in
    let in_all : find_pickle c.pickle_id es ≡ Some at.value = ap (find_pickle c.pickle_id) cut ∙ still_found as_pickle (λ x. bytes_eq c.pickle_id x.id) before (envelope.TestCase c ∷ after) at.value at.found in
    let told : Some (map (λ s. s.id) at.value.steps) ≡ Some (pickle_step_ids c) = ap (option_map (λ p. map (λ s. s.id) p.steps)) (sym in_all) ∙ good.cases before (envelope.TestCase c) after cut in
    let same : map (λ s. s.id) at.value.steps ≡ pickle_step_ids c = cc in
    rw (at.found, same) (texts_same (pickle_step_ids c))
