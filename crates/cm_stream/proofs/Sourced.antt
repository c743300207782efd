-- Lines that pass their checks have good sources.
use Rattle.std.proofs.Common.{◌≡◌, ℕ, suc, ◌+◌, ◌≤◌, refl, sym, ap, ◌∙◌, List, [], ◌∷◌, ◌++◌, Option, Some, None, true, false, Bool, append_assoc, append-nil, subst, ◌==◌, length, arith}
use Rattle.std.specs.Prelude.{nat_lt, find, slice_get}
use Rattle.std.specs.List.{AllByRecursion, list_any, filter, filter_map}
use Rattle.std.specs.Option.{option_map, option_map_or}
use Rattle.std.specs.Str.{bytes_eq}
use Rattle.std.proofs.lemmas.Bool.Decides.{nat_tests}
use Rattle.std.proofs.lemmas.Bool.{not-false}
use Rattle.std.proofs.lemmas.List.Elements.{filter_map-append}
use Rattle.std.proofs.lemmas.List.Folds.{find-append}
use Rattle.std.proofs.lemmas.List.Sums.{length-filter}
use Rattle.gk_pickle.specs.Pickles.{pickles as compiled}
use Rattle.gk_document.specs.declared.tree.Document.{Document}
use Rattle.cm_stream.specs.Texts.{Utf8, same_list}
use Rattle.cm_attempt.specs.Table.{has_repeat}
use Rattle.cm_stream.specs.Readings.{Reading, Accepted, Refused, OtherLanguage, TooLong}
use Rattle.cm_stream.specs.OnePass.{reads}
use Rattle.cm_stream.specs.Sources.{DuePickle, plain, is_due}
use Rattle.cm_stream.specs.References.{SourceOf, DocumentOf, times_declared, declares_it, refers, as_source, as_document, as_pickle, sources, sources_of, documents_of, pickles_of, is_accepted}
use Rattle.cm_stream.specs.Good.{SourcesGood, SourceGood, MeetsSource}
use Rattle.cm_stream.specs.Checks.{is_too_long, is_other_language, has_skeleton_of, due_pickles, first_ids, document_ids, lacks}
use Rattle.cm_stream.specs.ByOnePass.{reading_of, is_uri_accepted, is_next_pickle, is_incomplete}
use Rattle.cm_envelope.specs.declared.envelope.Envelope.{Envelope}
use Rattle.cm_envelope.specs.declared.envelope.Envelope.TheVariants as envelope
use Rattle.cm_envelope.specs.declared.envelope.GherkinDocument.{GherkinDocument}
use Rattle.cm_envelope.specs.declared.envelope.ParseError.{ParseError}
use Rattle.cm_envelope.specs.declared.pickle.Pickle.{Pickle}
use Rattle.cm_envelope.specs.declared.envelope.Source.{Source}
use Rattle.cm_stream.proofs.OnePass.{is_read}
use Rattle.cm_stream.proofs.Readings.{each_refused}
use Rattle.cm_stream.proofs.Skeletons.{skeletons_are}
use Rattle.cm_stream.proofs.Lists.{or_false, and_true, none_any, each_false}
use Rattle.cm_stream.proofs.Found.{still_found, each_found, bytes_same, bytes_are, by_id, none_found}
use Rattle.cm_stream.proofs.Declared.{declarer, declares_source, declares_document, source_is, document_is, pickle_is, same_any}
use Rattle.cm_stream.proofs.Documents.{documents_both, pickles_both, the_only}
use Rattle.cm_stream.proofs.Ends.{till_end}
use Rattle.cm_stream.proofs.Passing.{LinePasses, AllPass}
use Rattle.cm_stream.proofs.Distinct.{all_distinct, all_refer, not_counted, at_most_once}
use Rattle.cm_stream.proofs.Order.{TheEnd}

-- ---- lists

by_cuts : {X : Type 0} (P : List X → Type 0) → P [] → (es : List X) → ((xs : List X) (x : X) (rest : List X) → es ≡ xs ++ x ∷ rest → P xs → P (xs ++ x ∷ [])) → P es
by_cuts {X} P start es step = go [] es refl start
  where
    go : (done rest : List X) → es ≡ done ++ rest → P done → P es
    go done [] cut p = subst P (sym (cut ∙ append-nil done)) p
    go done (x ∷ rest) cut p = go (done ++ x ∷ []) rest (cut ∙ sym (append_assoc done (x ∷ []) rest)) (step done x rest cut p)

pub none_kept : {X : Type 0} (p : X → Bool) (xs : List X) → AllByRecursion (λ x. p x ≡ false) xs → filter p xs ≡ []
none_kept p [] h = refl
none_kept p (x ∷ xs) h = rw h.0 (none_kept p xs h.1)

pub all_kept : {X : Type 0} (p : X → Bool) (P : X → Type 0) (xs : List X) → AllByRecursion (λ x. p x ≡ true → P x) xs → AllByRecursion P (filter p xs)
all_kept p P [] h = tt
all_kept {X} p P (x ∷ xs) h = go (p x) refl (all_kept p P xs h.1)
  where
    go : (b : Bool) → p x ≡ b → AllByRecursion P (filter p xs) → AllByRecursion P (filter p (x ∷ xs))
    go true e rest = rw e (h.0 e, rest)
    go false e rest = rw e rest

find_fails : {X : Type 0} (p q : X → Bool) (xs : List X) (x : X) → find q xs ≡ Some x → list_any p xs ≡ false → p x ≡ false
find_fails p q [] x found none = cc
find_fails p q (y ∷ xs) x found none = go (q y) refl (find_fails p q xs x)
  where
    parts : (p y ≡ false) × (list_any p xs ≡ false)
    parts = or_false (p y) (list_any p xs) none

    go : (b : Bool) → q y ≡ b → (find q xs ≡ Some x → list_any p xs ≡ false → p x ≡ false) → p x ≡ false
    go true e rec =
        let here : Some y ≡ Some x = rw e at found in
        let same : y ≡ x = cc in
        ap p (sym same) ∙ parts.0
    go false e rec = rec (rw e at found) parts.1

same_list_push : {A B : Type 0} (same : A → B → Bool) (xs : List A) (ys : List B) (x : A) (y : B) → same_list same xs ys ≡ true → same x y ≡ true → same_list same (xs ++ x ∷ []) (ys ++ y ∷ []) ≡ true
same_list_push same [] [] x y h k = rw k refl
same_list_push same [] (z ∷ ys) x y h k = cc
same_list_push same (w ∷ xs) [] x y h k = cc
same_list_push same (w ∷ xs) (z ∷ ys) x y h k = let p = and_true (same w z) (same_list same xs ys) h in rw (p.0, same_list_push same xs ys x y p.1 k) refl

lists_same_length : {A B : Type 0} (same : A → B → Bool) (xs : List A) (ys : List B) → same_list same xs ys ≡ true → length xs ≡ length ys
lists_same_length same [] [] h = refl
lists_same_length same [] (y ∷ ys) h = cc
lists_same_length same (x ∷ xs) [] h = cc
lists_same_length same (x ∷ xs) (y ∷ ys) h = ap suc (lists_same_length same xs ys (and_true (same x y) (same_list same xs ys) h).1)

at_end_of : {X : Type 0} (xs ys : List X) (n : ℕ) → n ≡ length xs → slice_get (xs ++ ys) n ≡ slice_get ys 0
at_end_of xs ys n h = ap (slice_get (xs ++ ys)) h ∙ go xs
  where
    go : (zs : List _) → slice_get (zs ++ ys) (length zs) ≡ slice_get ys 0
    go [] = refl
    go (z ∷ zs) = go zs

pub kept_count : {X Y : Type 0} (h : X → Option Y) (p : Y → Bool) (xs : List X) → length (filter p (filter_map h xs)) ≡ length (filter (λ x. option_map_or p (h x) false) xs)
kept_count h p [] = refl
kept_count {X} {Y} h p (x ∷ xs) = go (h x) refl (kept_count h p xs)
  where
    at : (y : Y) → h x ≡ Some y → (b : Bool) → p y ≡ b → length (filter p (filter_map h xs)) ≡ length (filter (λ z. option_map_or p (h z) false) xs)
        → length (filter p (filter_map h (x ∷ xs))) ≡ length (filter (λ z. option_map_or p (h z) false) (x ∷ xs))
    at y e true k rec = rw (e, k) (ap suc rec)
    at y e false k rec = rw (e, k) rec

    go : (o : Option Y) → h x ≡ o → length (filter p (filter_map h xs)) ≡ length (filter (λ z. option_map_or p (h z) false) xs)
        → length (filter p (filter_map h (x ∷ xs))) ≡ length (filter (λ z. option_map_or p (h z) false) (x ∷ xs))
    go None e rec = rw e rec
    go (Some y) e rec = at y e (p y) refl rec

pub same_kept : {X : Type 0} (p q : X → Bool) → ((x : X) → p x ≡ q x) → (xs : List X) → filter p xs ≡ filter q xs
same_kept p q h [] = refl
same_kept p q h (x ∷ xs) = rw (h x, same_kept p q h xs) refl

one_of : {X : Type 0} (xs : List X) → length xs ≤ 1 → (length xs == 0) ≡ false → (x : X) × (xs ≡ x ∷ [])
one_of [] few some = cc
one_of (x ∷ []) few some = (x, refl)
one_of (x ∷ y ∷ xs) few some = absurd (omega arith)

-- ---- the one source of a uri

abbrev of_uri : Utf8 → Source → Bool
of_uri u s = bytes_eq u s.uri

module _ (es : List Envelope) (pass : AllPass es) where
  passes_at : (before : List Envelope) (e : Envelope) (after : List Envelope) → es ≡ before ++ e ∷ after → LinePasses before e
  passes_at before e after cut = pass before e after cut

  none_earlier : (before : List Envelope) (s : Source) (after : List Envelope) → es ≡ before ++ envelope.Source s ∷ after → find (of_uri s.uri) (sources before) ≡ None
  none_earlier before s after cut =
      let new = or_false (nat_lt 0 (times_declared (SourceOf s.uri) before)) false (passes_at before (envelope.Source s) after cut).passes.0 in
      let nowhere = not_counted (declares_it (SourceOf s.uri)) before new.0 in
      none_found as_source (of_uri s.uri) before (sym (same_any (declares_it (SourceOf s.uri)) (λ e. option_map_or (of_uri s.uri) (as_source e) false) (declares_source s.uri) before) ∙ nowhere)

  the_source : (before : List Envelope) (s : Source) (after : List Envelope) → es ≡ before ++ envelope.Source s ∷ after → find (of_uri s.uri) (sources es) ≡ Some s
  the_source before s after cut =
      let here : find (of_uri s.uri) (sources (envelope.Source s ∷ after)) ≡ Some s = rw (bytes_same s.uri) refl in
      ap (λ xs. find (of_uri s.uri) (sources xs)) cut ∙ rw (filter_map-append as_source before (envelope.Source s ∷ after), find-append (of_uri s.uri) (sources before) (sources (envelope.Source s ∷ after)), none_earlier before s after cut) here

  -- a line that refers to the uri of the one source has it before it
  read_before : (s : Source) → find (of_uri s.uri) (sources es) ≡ Some s → (before : List Envelope) (e : Envelope) (after : List Envelope) → es ≡ before ++ e ∷ after → times_declared (SourceOf s.uri) before ≡ 1
      → find (of_uri s.uri) (sources before) ≡ Some s
  read_before s only before e after cut one =
      let at = declarer (SourceOf s.uri) as_source (of_uri s.uri) (declares_source s.uri) before one in
      let in_all : find (of_uri s.uri) (sources es) ≡ Some at.value = ap (λ xs. find (of_uri s.uri) (sources xs)) cut ∙ still_found as_source (of_uri s.uri) before (e ∷ after) at.value at.found in
      let same : at.value ≡ s = cc in
      at.found ∙ ap Some same

  refers_at : (before : List Envelope) (e : Envelope) (after : List Envelope) → es ≡ before ++ e ∷ after → AllByRecursion (λ name. times_declared name before ≡ 1) (refers before e)
  refers_at before e after cut = all_refer es pass before e after cut

  -- ---- documents

  -- before its source a uri has no document
  no_early_document : (before : List Envelope) (s : Source) (after : List Envelope) → es ≡ before ++ envelope.Source s ∷ after → documents_of s.uri before ≡ []
  no_early_document before s after cut = none_kept (λ d. bytes_eq s.uri d.uri) (filter_map as_document before) (each_found as_document (λ d. bytes_eq s.uri d.uri ≡ false) before each)
    where
      each : (front : List Envelope) (here : Envelope) (back : List Envelope) (d : GherkinDocument) → before ≡ front ++ here ∷ back → as_document here ≡ Some d → bytes_eq s.uri d.uri ≡ false
      each front here back d c is =
          by_id s.uri d.uri (λ k. k) (λ k.
          let its : es ≡ front ++ envelope.GherkinDocument d ∷ (back ++ envelope.Source s ∷ after) =
          cut ∙ ap (λ xs. xs ++ envelope.Source s ∷ after) c ∙ append_assoc front (here ∷ back) (envelope.Source s ∷ after) ∙ ap (λ x. front ++ x ∷ (back ++ envelope.Source s ∷ after)) (document_is here d is) in
          let one : times_declared (SourceOf s.uri) front ≡ 1 = ap (λ u. times_declared (SourceOf u) front) k ∙ (refers_at front (envelope.GherkinDocument d) (back ++ envelope.Source s ∷ after) its).0 in
          let at = declarer (SourceOf s.uri) as_source (of_uri s.uri) (declares_source s.uri) front one in
          let found : find (of_uri s.uri) (sources before) ≡ Some at.value = ap (λ xs. find (of_uri s.uri) (sources xs)) c ∙ still_found as_source (of_uri s.uri) front (here ∷ back) at.value at.found in
          let none = none_earlier before s after cut in
          cc)

  kept_counted : (u : Utf8) (xs : List Envelope) → length (documents_of u xs) ≡ times_declared (DocumentOf u) xs
  kept_counted u xs =
      kept_count as_document (λ d. bytes_eq u d.uri) xs
      ∙ ap length (sym (same_kept (declares_it (DocumentOf u)) (λ x. option_map_or (λ d. bytes_eq u d.uri) (as_document x) false) (declares_document u) xs))
      ∙ length-filter (declares_it (DocumentOf u)) xs

  few_documents : (u : Utf8) → length (documents_of u es) ≤ 1
  few_documents u = omega (arith, kept_counted u es, at_most_once (DocumentOf u) es (all_distinct es pass))

  -- what each document of the uri of the one source passes
  record DocumentFits (s : Source) (d : GherkinDocument) : Type 0 where
    accepted : is_accepted (reads s.content) ≡ true
    skeleton : has_skeleton_of d.document (Some (reads s.content)) ≡ true
    distinct : has_repeat d.ids ≡ false

  documents_fit : (s : Source) → find (of_uri s.uri) (sources es) ≡ Some s → AllByRecursion (DocumentFits s) (documents_of s.uri es)
  documents_fit s only = all_kept (λ d. bytes_eq s.uri d.uri) (DocumentFits s) (filter_map as_document es) (each_found as_document (λ d. bytes_eq s.uri d.uri ≡ true → DocumentFits s d) es each)
    where
      each : (front : List Envelope) (here : Envelope) (back : List Envelope) (d : GherkinDocument) → es ≡ front ++ here ∷ back → as_document here ≡ Some d → bytes_eq s.uri d.uri ≡ true → DocumentFits s d
      each front here back d c is k =
          let same : s.uri ≡ d.uri = bytes_are s.uri d.uri k in
          let its : es ≡ front ++ envelope.GherkinDocument d ∷ back = c ∙ ap (λ x. front ++ x ∷ back) (document_is here d is) in
          let one : times_declared (SourceOf s.uri) front ≡ 1 = ap (λ u. times_declared (SourceOf u) front) same ∙ (refers_at front (envelope.GherkinDocument d) back its).0 in
          let found = read_before s only front (envelope.GherkinDocument d) back its one in
          let read : reading_of d.uri front ≡ Some (reads s.content) = ap (λ u. reading_of u front) (sym same) ∙ ap (option_map (λ x. reads x.content)) found in
          let h = (passes_at front (envelope.GherkinDocument d) back its).passes in
          record {
            accepted = ap (λ o. option_map_or is_accepted o false) (sym read) ∙ not-false (is_uri_accepted d.uri front) ((h.1).1).0;
            skeleton = ap (has_skeleton_of d.document) (sym read) ∙ not-false (has_skeleton_of d.document (reading_of d.uri front)) (((h.1).1).1).0;
            distinct = ((((h.1).1).1).1).0;
          }

  -- ---- pickles

  -- the pickles so far are the first that are due
  record Matches (s : Source) (ids : List Utf8) (due : List DuePickle) (xs : List Envelope) : Type 0 where
    done : List DuePickle
    rest : List DuePickle
    parts : due ≡ done ++ rest
    same : same_list (is_due ids) (pickles_of s.uri xs) done ≡ true

  pickles_more : (u : Utf8) (xs : List Envelope) (e : Envelope) → pickles_of u (xs ++ e ∷ []) ≡ pickles_of u xs ++ pickles_of u (e ∷ [])
  pickles_more u xs e = pickles_both u xs (e ∷ [])

  -- the ids of the one document, where it comes before
  ids_before : (u : Utf8) (g : GherkinDocument) → documents_of u es ≡ g ∷ [] → (before : List Envelope) (rest : List Envelope) → es ≡ before ++ rest → times_declared (DocumentOf u) before ≡ 1 → document_ids u before ≡ g.ids
  ids_before u g all before rest cut one =
      let at = declarer (DocumentOf u) as_document (λ x. bytes_eq u x.uri) (declares_document u) before one in
      let its : documents_of u before ++ documents_of u rest ≡ g ∷ [] = sym (documents_both u before rest) ∙ ap (documents_of u) (sym cut) ∙ all in
      let some : documents_of u before ≡ documents_of u at.front ++ at.value ∷ documents_of u at.back =
      ap (documents_of u) at.cut ∙ documents_both u at.front (at.here ∷ at.back) ∙ ap (λ xs. documents_of u at.front ++ xs) (rw (at.is, at.passes) refl) in
      let both : documents_of u at.front ++ at.value ∷ (documents_of u at.back ++ documents_of u rest) ≡ g ∷ [] =
      sym (append_assoc (documents_of u at.front) (at.value ∷ documents_of u at.back) (documents_of u rest)) ∙ ap (λ xs. xs ++ documents_of u rest) (sym some) ∙ its in
      let only = the_only (documents_of u at.front) at.value (documents_of u at.back ++ documents_of u rest) g both in
      ap first_ids (some ∙ ap (λ xs. xs ++ at.value ∷ documents_of u at.back) only.1) ∙ ap (λ x. x.ids) only.0

  matches : (s : Source) → find (of_uri s.uri) (sources es) ≡ Some s → (d : Document) (due : List DuePickle) → reads s.content ≡ Accepted d → compiled d ≡ due → (g : GherkinDocument) → documents_of s.uri es ≡ g ∷ [] → Matches s g.ids due es
  matches s only d due read made g all = by_cuts (Matches s g.ids due) (record { done = []; rest = due; parts = refl; same = refl }) es step
    where
      -- a line that is no pickle of the uri
      keep : (xs : List Envelope) (e : Envelope) → pickles_of s.uri (e ∷ []) ≡ [] → Matches s g.ids due xs → Matches s g.ids due (xs ++ e ∷ [])
      keep xs e none m = record {
        done = m.done;
        rest = m.rest;
        parts = m.parts;
        same = ap (λ ps. same_list (is_due g.ids) ps m.done) (pickles_more s.uri xs e ∙ ap (λ ps. pickles_of s.uri xs ++ ps) none ∙ append-nil (pickles_of s.uri xs)) ∙ m.same;
      }

      take_next : (xs : List Envelope) (p : Pickle) (m : Matches s g.ids due xs) (rest : List DuePickle) → due ≡ m.done ++ rest → pickles_of s.uri (envelope.Pickle p ∷ []) ≡ p ∷ [] → option_map_or (λ q. is_due g.ids p q) (slice_get rest 0) false ≡ true
          → Matches s g.ids due (xs ++ envelope.Pickle p ∷ [])
      take_next xs p m [] parts here next = cc
      take_next xs p m (q ∷ more) parts here next = record {
        done = m.done ++ q ∷ [];
        rest = more;
        parts = parts ∙ sym (append_assoc m.done (q ∷ []) more);
        same = ap (λ ps. same_list (is_due g.ids) ps (m.done ++ q ∷ [])) (pickles_more s.uri xs (envelope.Pickle p) ∙ ap (λ ps. pickles_of s.uri xs ++ ps) here)
            ∙ same_list_push (is_due g.ids) (pickles_of s.uri xs) m.done p q m.same next;
      }

      on_pickle : (xs : List Envelope) (p : Pickle) (rest : List Envelope) → es ≡ xs ++ envelope.Pickle p ∷ rest → Matches s g.ids due xs → s.uri ≡ p.uri → Matches s g.ids due (xs ++ envelope.Pickle p ∷ [])
      on_pickle xs p rest cut m same =
          let e = envelope.Pickle p in
          let refs = refers_at xs e rest cut in
          let one : times_declared (SourceOf s.uri) xs ≡ 1 = ap (λ u. times_declared (SourceOf u) xs) same ∙ refs.0 in
          let found = read_before s only xs e rest cut one in
          let reading : reading_of p.uri xs ≡ Some (Accepted d) = ap (λ u. reading_of u xs) (sym same) ∙ ap (option_map (λ x. reads x.content)) found ∙ ap Some read in
          let declared : times_declared (DocumentOf s.uri) xs ≡ 1 = ap (λ u. times_declared (DocumentOf u) xs) same ∙ (refs.1).0 in
          let ids : document_ids p.uri xs ≡ g.ids = ap (λ u. document_ids u xs) (sym same) ∙ ids_before s.uri g all xs (e ∷ rest) cut declared in
          let next = not-false (is_next_pickle xs p) ((passes_at xs e rest cut).passes.1).0 in
          let long : length (pickles_of p.uri xs) ≡ length m.done = ap (λ u. length (pickles_of u xs)) (sym same) ∙ lists_same_length (is_due g.ids) (pickles_of s.uri xs) m.done m.same in
          let at : slice_get due (length (pickles_of p.uri xs)) ≡ slice_get m.rest 0 = ap (λ ds. slice_get ds (length (pickles_of p.uri xs))) m.parts ∙ at_end_of m.done m.rest (length (pickles_of p.uri xs)) long in
          let told : option_map_or (λ q. is_due g.ids p q) (slice_get m.rest 0) false ≡ true =
          ap (λ o. option_map_or (λ q. is_due g.ids p q) o false) (sym at) ∙ ap (λ i. option_map_or (λ q. is_due i p q) (slice_get due (length (pickles_of p.uri xs))) false) (sym ids)
          ∙ ap (λ ds. option_map_or (λ q. is_due (document_ids p.uri xs) p q) (slice_get ds (length (pickles_of p.uri xs))) false) (sym made)
          ∙ ap (λ r. option_map_or (λ q. is_due (document_ids p.uri xs) p q) (slice_get (due_pickles r) (length (pickles_of p.uri xs))) false) (sym reading) ∙ next in
          let here : pickles_of s.uri (e ∷ []) ≡ p ∷ [] = ap (λ u. pickles_of u (e ∷ [])) same ∙ rw (bytes_same p.uri) refl in
          take_next xs p m m.rest m.parts here told

      step : (xs : List Envelope) (e : Envelope) (rest : List Envelope) → es ≡ xs ++ e ∷ rest → Matches s g.ids due xs → Matches s g.ids due (xs ++ e ∷ [])
      step xs (envelope.Pickle p) rest cut m = by_id s.uri p.uri (λ k. keep xs (envelope.Pickle p) (rw k refl) m) (λ k. on_pickle xs p rest cut m k)
      step xs e rest cut m = keep xs e refl m

  -- a pickle's uri has a document
  no_pickle : (u : Utf8) → documents_of u es ≡ [] → pickles_of u es ≡ []
  no_pickle u none = none_kept (λ p. bytes_eq u p.uri) (filter_map as_pickle es) (each_found as_pickle (λ p. bytes_eq u p.uri ≡ false) es each)
    where
      each : (front : List Envelope) (here : Envelope) (back : List Envelope) (p : Pickle) → es ≡ front ++ here ∷ back → as_pickle here ≡ Some p → bytes_eq u p.uri ≡ false
      each front here back p c is =
          by_id u p.uri (λ k. k) (λ k.
          let its : es ≡ front ++ envelope.Pickle p ∷ back = c ∙ ap (λ x. front ++ x ∷ back) (pickle_is here p is) in
          let one : times_declared (DocumentOf u) front ≡ 1 = ap (λ w. times_declared (DocumentOf w) front) k ∙ ((refers_at front (envelope.Pickle p) back its).1).0 in
          let long : length (documents_of u front) ≡ 1 = kept_counted u front ∙ one in
          let both : length (documents_of u front ++ documents_of u (envelope.Pickle p ∷ back)) ≡ 0 = ap length (sym (documents_both u front (envelope.Pickle p ∷ back)) ∙ ap (documents_of u) (sym its) ∙ none) in
          absurd (some_and_none (documents_of u front) (documents_of u (envelope.Pickle p ∷ back)) long both))
        where
          some_and_none : (xs ys : List GherkinDocument) → length xs ≡ 1 → length (xs ++ ys) ≡ 0 → ⊥
          some_and_none [] ys a b = omega (arith, a)
          some_and_none (x ∷ xs) ys a b = omega (arith, b)

  -- ---- each source

  whole_list : (done rest : List DuePickle) (n : ℕ) → n ≡ length done → nat_lt n (length (done ++ rest)) ≡ false → rest ≡ []
  whole_list done [] n h k = refl
  whole_list done (x ∷ rest) n h k = absurd (longer done n h k)
    where
      both : (xs : List DuePickle) → length (xs ++ x ∷ rest) ≡ length xs + suc (length rest)
      both [] = omega arith
      both (y ∷ xs) = omega (arith, both xs)

      longer : (xs : List DuePickle) (m : ℕ) → m ≡ length xs → nat_lt m (length (xs ++ x ∷ rest)) ≡ false → ⊥
      longer xs m h k = grind (arith, nat_tests, both xs)

  module _ (end : TheEnd es) where
    meets : (before : List Envelope) (s : Source) (after : List Envelope) → es ≡ before ++ envelope.Source s ∷ after → (r : Reading) → reads s.content ≡ r
        → is_too_long r ≡ false → is_other_language r ≡ false → MeetsSource es before s after r
    meets before s after cut Refused read long other =
        let only = the_source before s after cut in
        let none : documents_of s.uri es ≡ [] = go (documents_of s.uri es) (documents_fit s only) in
        record { no_document = none; no_pickle = no_pickle s.uri none }
      where
        go : (ds : List GherkinDocument) → AllByRecursion (DocumentFits s) ds → ds ≡ []
        go [] h = refl
        go (d ∷ ds) h = let no_way : is_accepted Refused ≡ true = ap is_accepted (sym read) ∙ (h.0).accepted in cc
    meets before s after cut OtherLanguage read long other = cc
    meets before s after cut TooLong read long other = cc
    meets before s after cut (Accepted d) read long other =
        let run = end.run in
        let only = the_source before s after cut in
        let in_front : find (of_uri s.uri) (sources end.before) ≡ Some s = ap (find (of_uri s.uri)) (sym (till_end es end.before end.end end.after run as_source refl refl)) ∙ only in
        let complete : is_incomplete end.before s ≡ false = find_fails (is_incomplete end.before) (of_uri s.uri) (sources end.before) s in_front (((((end.line.passes).1).1).1).1).0 in
        let parts = or_false (length (documents_of s.uri end.before) == 0) (nat_lt (length (pickles_of s.uri end.before)) (length (compiled d))) (ap (lacks end.before s.uri) (sym read) ∙ complete) in
        let same_documents : documents_of s.uri es ≡ documents_of s.uri end.before = ap (filter (λ x. bytes_eq s.uri x.uri)) (till_end es end.before end.end end.after run as_document refl refl) in
        let same_pickles : pickles_of s.uri es ≡ pickles_of s.uri end.before = ap (filter (λ x. bytes_eq s.uri x.uri)) (till_end es end.before end.end end.after run as_pickle refl refl) in
        let one = one_of (documents_of s.uri es) (few_documents s.uri) (ap (λ ds. length ds == 0) same_documents ∙ parts.0) in
        let fits : DocumentFits s one.0 = (subst (AllByRecursion (DocumentFits s)) one.1 (documents_fit s only)).0 in
        let early = no_early_document before s after cut in
        let split : documents_of s.uri es ≡ documents_of s.uri before ++ documents_of s.uri after = ap (documents_of s.uri) cut ∙ documents_both s.uri before (envelope.Source s ∷ after) in
        let later : documents_of s.uri after ≡ one.0 ∷ [] = ap (λ ds. ds ++ documents_of s.uri after) (sym early) ∙ sym split ∙ one.1 in
        let m = matches s only d (compiled d) read refl one.0 one.1 in
        let long : length (pickles_of s.uri es) ≡ length m.done = lists_same_length (is_due (one.0).ids) (pickles_of s.uri es) m.done m.same in
        let enough : nat_lt (length (pickles_of s.uri es)) (length (m.done ++ m.rest)) ≡ false = ap (λ ds. nat_lt (length (pickles_of s.uri es)) (length ds)) (sym m.parts) ∙ ap (λ ps. nat_lt (length ps) (length (compiled d))) same_pickles ∙ parts.1 in
        let all : compiled d ≡ m.done = m.parts ∙ ap (λ r. m.done ++ r) (whole_list m.done m.rest (length (pickles_of s.uri es)) long enough) ∙ append-nil m.done in
        record {
          document = one.0;
          none_before = early;
          one_after = later;
          same_skeleton = skeletons_are (one.0).document d (ap (λ r. has_skeleton_of (one.0).document (Some r)) (sym read) ∙ fits.skeleton);
          distinct_ids = fits.distinct;
          same_pickles = ap (same_list (is_due (one.0).ids) (pickles_of s.uri es)) all ∙ m.same;
        }

    refused : (before : List Envelope) (p : ParseError) (after : List Envelope) → es ≡ before ++ envelope.ParseError p ∷ after → list_any (λ s. is_accepted (reads s.content)) (sources_of p.source.uri es) ≡ false
    refused before p after cut =
        none_any (λ s. is_accepted (reads s.content)) (sources_of p.source.uri es) (all_kept (of_uri p.source.uri) (λ s. is_accepted (reads s.content) ≡ false) (sources es)
        (each_found as_source (λ s. bytes_eq p.source.uri s.uri ≡ true → is_accepted (reads s.content) ≡ false) es each))
      where
        each : (front : List Envelope) (here : Envelope) (back : List Envelope) (s : Source) → es ≡ front ++ here ∷ back → as_source here ≡ Some s → bytes_eq p.source.uri s.uri ≡ true → is_accepted (reads s.content) ≡ false
        each front here back s c is k =
            let same : p.source.uri ≡ s.uri = bytes_are p.source.uri s.uri k in
            let its : es ≡ front ++ envelope.Source s ∷ back = c ∙ ap (λ x. front ++ x ∷ back) (source_is here s is) in
            let only = the_source front s back its in
            let one : times_declared (SourceOf s.uri) before ≡ 1 = ap (λ u. times_declared (SourceOf u) before) (sym same) ∙ (refers_at before (envelope.ParseError p) after cut).0 in
            let found = read_before s only before (envelope.ParseError p) after cut one in
            let read : reading_of p.source.uri before ≡ Some (reads s.content) = ap (λ u. reading_of u before) same ∙ ap (option_map (λ x. reads x.content)) found in
            ap (λ o. option_map_or is_accepted o false) (sym read) ∙ ((passes_at before (envelope.ParseError p) after cut).passes.1).0

    pub all_sources : SourcesGood es
    all_sources before e after cut = at e cut
      where
        at : (e : Envelope) → es ≡ before ++ e ∷ after → SourceGood es before e after
        at (envelope.Source s) cut =
            let h = (passes_at before (envelope.Source s) after cut).passes in
            record {
              is_plain = not-false (bytes_eq s.media_type plain) (h.1).0;
              reading = reads s.content;
              is_read = is_read s.content;
              meets = meets before s after cut (reads s.content) refl ((h.1).1).0 (((h.1).1).1).0;
            }
        at (envelope.ParseError p) cut = each_refused (sources_of p.source.uri es) (each_false (λ s. is_accepted (reads s.content)) (sources_of p.source.uri es) (refused before p after cut))
        at _ cut = tt
