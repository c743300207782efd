-- What is told of a line of a stream has texts of UTF-8 on both sides, and tells them apart.
use Rattle.std.proofs.Common.{◌≡◌, ℕ, Bool, true, false, not, ◌&&◌, cond, zero, suc, length, List, [], ◌∷◌, ◌++◌, Option, Some, None, Result, Ok, Err, IsUtf8, refl, subst}
use Rattle.std.specs.Prelude.{⊤, IfOk, IfSome, find, option_map, slice_get}
use Rattle.std.specs.List.{AllByRecursion, cons_option, filter, filter_map}
use Rattle.std.proofs.lemmas.Bool.{not-true}
use Rattle.std.specs.Option.{option_map_or}
use Rattle.std.specs.Str.{bytes_eq}
use Rattle.gk_pickle.specs.Pickles.{pickles as compiled}
use Rattle.cm_envelope.specs.Lines.{is_blank}
use Rattle.cm_envelope.specs.Reading.{LineFault, envelope_of_line}
use Rattle.cm_envelope.specs.declared.envelope.Envelope.{Envelope}
use Rattle.cm_envelope.specs.declared.envelope.Envelope.TheVariants as envelope
use Rattle.cm_envelope.specs.declared.envelope.GherkinDocument.{GherkinDocument}
use Rattle.cm_envelope.specs.declared.envelope.Source.{Source}
use Rattle.cm_envelope.specs.declared.pickle.Pickle.{Pickle}
use Rattle.cm_attempt.specs.declared.status.Settings.{Settings}
use Rattle.cm_stream.specs.Checks.{◌if◌, declares_again, document_ids, due_pickles, fault_by, first_failed, first_ids, is_next_pickle_by, next_pickle_by, refers_to_unknown}
use Rattle.cm_stream.specs.Findings as bad
use Rattle.cm_stream.specs.Findings.{Finding, IsBad}
use Rattle.cm_stream.specs.Readings.{Accepted, Reading, ReadsByTheGrammar}
use Rattle.cm_stream.specs.Redeclared.{is_redeclared, judged_after, judged_as, passed_over}
use Rattle.cm_stream.specs.References.{as_document, as_source, documents_of, has_run_finished, reading_of_by, pickles_of, sources}
use Rattle.cm_stream.specs.Sources.{DuePickle, is_due}
use Rattle.cm_stream.specs.Stream.{envelope_unless_blank}
use Rattle.cm_stream.specs.Texts.{Utf8}
use Rattle.cm_judge.specs.Deciding.{envelope_in, envelopes_in, judged_in}
use Rattle.cm_source_reasons.specs.SourceReasons.{due_line, uri_line}
use Rattle.cm_differs.specs.Differences.{pickle_difference}
use Rattle.cm_differs.specs.DuePickles.{due_pickle}
use Rattle.cm_compiled_good.proofs.Compiling.{all_flat}
use Rattle.cm_compiled_good.proofs.Fine.{clean, FeatureOf, PickleFine}
use Rattle.cm_shown_laws.specs.Differences.{IsToldApart, PicklesAreToldApart, TreesAreToldApart}
use Rattle.cm_shown_laws.proofs.Plain.{ReadingTexts, compiled_fine, reading_texts}
use Rattle.cm_shown_laws.proofs.PlainParts.{parts_plain}
use Rattle.cm_shown_laws.proofs.PlainPickles.{due_texts, pickle_plain}
use Rattle.cm_shown_laws.proofs.ReadLines.{EnvelopeTexts, line_read}
use Rattle.cm_shown_laws.proofs.ReadPickles.{PickleHasTexts}
use Rattle.cm_shown_laws.proofs.Readings.{AreTexts}
use Rattle.cm_shown_laws.proofs.ReadTrees.{DocumentFine}
use Rattle.cm_shown_laws.proofs.ToldApart.{none_apart, pickles_apart, trees_apart}

-- ---- the envelopes of lines

abbrev AllTexts : List Envelope → Type 0
AllTexts es = AllByRecursion EnvelopeTexts es

ok_texts : (r : Result Envelope LineFault) (e : Envelope) → r ≡ Ok e → IfOk r EnvelopeTexts → EnvelopeTexts e
ok_texts r e is h = subst (λ (x : Result Envelope LineFault). IfOk x EnvelopeTexts) is h

-- an envelope that a line is read as
said_texts : (line : List ℕ) (e : Envelope) → envelope_unless_blank line ≡ Some (Ok e) → EnvelopeTexts e
said_texts line e is = go (is_blank line) is
  where
    go : (b : Bool) → cond b None (Some (envelope_of_line line)) ≡ Some (Ok e) → EnvelopeTexts e
    go true h = absurd cc
    go false h = let same : envelope_of_line line ≡ Ok e = cc in ok_texts (envelope_of_line line) e same (line_read line)

line_texts : (line : List ℕ) → AllTexts (envelope_in (envelope_unless_blank line))
line_texts line = go (is_blank line)
  where
    one : (r : Result Envelope LineFault) → IfOk r EnvelopeTexts → AllTexts (envelope_in (Some r))
    one (Ok e) h = (h, tt)
    one (Err f) h = tt

    go : (b : Bool) → AllTexts (envelope_in (cond b None (Some (envelope_of_line line))))
    go true = tt
    go false = one (envelope_of_line line) (line_read line)

lines_texts : (lines : List (List ℕ)) → AllTexts (envelopes_in lines)
lines_texts lines = all_flat (λ l. ⊤) EnvelopeTexts (λ l. envelope_in (envelope_unless_blank l)) (λ l h. line_texts l) lines (any lines)
  where
    any : (ls : List (List ℕ)) → AllByRecursion (λ (l : List ℕ). ⊤) ls
    any [] = tt
    any (l ∷ ls) = (tt, any ls)

one_judged : (settings : Settings) (before : List Envelope) (e : Envelope) → EnvelopeTexts e → EnvelopeTexts (judged_as settings before e)
one_judged settings before e h = go (is_redeclared before e && settings.allows_redeclared)
  where
    go : (b : Bool) → EnvelopeTexts (cond b passed_over e)
    go true = tt
    go false = h

judged_texts : (settings : Settings) (before es : List Envelope) → AllTexts es → AllTexts (judged_after settings before es)
judged_texts settings before [] h = tt
judged_texts settings before (e ∷ es) h = (one_judged settings before e h.0, judged_texts settings (before ++ judged_as settings before e ∷ []) es h.1)

before_texts : (settings : Settings) (lines : List (List ℕ)) → AllTexts (judged_in settings lines)
before_texts settings lines = judged_texts settings [] (envelopes_in lines) (lines_texts lines)

-- ---- what is found among them

found_of : {A : Type 0} (P : A → Type 0) (q : A → Bool) (xs : List A) → AllByRecursion P xs → IfSome (find q xs) P
found_of P q [] h = tt
found_of {A} P q (x ∷ xs) h = go (q x) (found_of P q xs h.1)
  where
    go : (b : Bool) → IfSome (find q xs) P → IfSome (cond b (Some x) (find q xs)) P
    go true later = h.0
    go false later = later

kept_of : {A : Type 0} (P : A → Type 0) (q : A → Bool) (xs : List A) → AllByRecursion P xs → AllByRecursion P (filter q xs)
kept_of P q [] h = tt
kept_of {A} P q (x ∷ xs) h = go (q x) (kept_of P q xs h.1)
  where
    go : (b : Bool) → AllByRecursion P (filter q xs) → AllByRecursion P (cond b (x ∷ filter q xs) (filter q xs))
    go true later = (h.0, later)
    go false later = later

source_of : (e : Envelope) → EnvelopeTexts e → IfSome (as_source e) (λ s. IsUtf8 s.content)
source_of (envelope.Source s) h = h
source_of _ h = tt

document_of : (e : Envelope) → EnvelopeTexts e → IfSome (as_document e) DocumentFine
document_of (envelope.GherkinDocument g) h = h
document_of _ h = tt

each_of : {A : Type 0} (P : A → Type 0) (seen : Envelope → Option A) → ((e : Envelope) → EnvelopeTexts e → IfSome (seen e) P) → (es : List Envelope) → AllTexts es → AllByRecursion P (filter_map seen es)
each_of P seen one [] h = tt
each_of {A} P seen one (e ∷ es) h = go (seen e) (one e h.0) (each_of P seen one es h.1)
  where
    go : (o : Option A) → IfSome o P → AllByRecursion P (filter_map seen es) → AllByRecursion P (cons_option o (filter_map seen es))
    go None k later = later
    go (Some x) k later = (k, later)

ids_texts : (uri : Utf8) (es : List Envelope) → AllTexts es → AreTexts (document_ids uri es)
ids_texts uri es h = first (documents_of uri es) (kept_of DocumentFine (λ d. bytes_eq uri d.uri) (filter_map as_document es) (each_of DocumentFine as_document document_of es h))
  where
    first : (ds : List GherkinDocument) → AllByRecursion DocumentFine ds → AreTexts (first_ids ds)
    first [] k = tt
    first (d ∷ ds) k = k.0.ids

-- ---- what is due

module _ (read : Utf8 → Reading) (by_the_grammar : ReadsByTheGrammar read) where
  due_reading : (uri : Utf8) (es : List Envelope) → AllTexts es → IfSome (reading_of_by read uri es) ReadingTexts
  due_reading uri es h = go (find (λ s. bytes_eq uri s.uri) (sources es)) (found_of (λ s. IsUtf8 s.content) (λ s. bytes_eq uri s.uri) (sources es) (each_of (λ s. IsUtf8 s.content) as_source source_of es h))
    where
      go : (o : Option Source) → IfSome o (λ s. IsUtf8 s.content) → IfSome (option_map (λ s. read s.content) o) ReadingTexts
      go None k = tt
      go (Some s) k = reading_texts s.content (read s.content) k (by_the_grammar s.content)

  next_fine : (uri : Utf8) (es : List Envelope) → AllTexts es → IfSome (next_pickle_by read uri es) (PickleFine clean)
  next_fine uri es h = go (reading_of_by read uri es) (due_reading uri es h)
    where
      at : (n : ℕ) (ps : List DuePickle) → AllByRecursion (PickleFine clean) ps → IfSome (slice_get ps n) (PickleFine clean)
      at n [] k = tt
      at zero (p ∷ ps) k = k.0
      at (suc n) (p ∷ ps) k = at n ps k.1

      go : (o : Option Reading) → IfSome o ReadingTexts → IfSome (slice_get (due_pickles o) (length (pickles_of uri es))) (PickleFine clean)
      go (Some (Accepted d)) k = at (length (pickles_of uri es)) (compiled d) (compiled_fine d k)
      go _ k = tt

-- ---- a document

some_is : {A : Type 0} (P : A → Type 0) (o : Option A) (x : A) → o ≡ Some x → IfSome o P → P x
some_is P o x is h = subst (λ (z : Option _). IfSome z P) is h

pub trees_told_apart : TreesAreToldApart
trees_told_apart settings bytes n text t =
    let reason = t.told in
    let before = before_texts settings t.before in
    let found : DocumentFine reason.document = subst EnvelopeTexts reason.is_document (said_texts t.line t.said t.is_read) in
    let due : FeatureOf clean reason.due.feature = some_is ReadingTexts (reading_of_by t.read reason.document.uri (judged_in settings t.before)) (Accepted reason.due) reason.is_due (due_reading t.read t.by_the_grammar reason.document.uri (judged_in settings t.before) before) in
    record {
      front = uri_line reason.difference.uri;
      difference = reason.difference;
      ends = reason.told;
      apart = trees_apart reason.document.uri reason.due reason.document.document reason.difference reason.differs (parts_plain reason.due due) (parts_plain reason.document.document found.feature);
    }

-- ---- a pickle

-- of the checks of a pickle, the one that it fails
differs_fails : (a b c d : Bool) → first_failed ((bad.AfterRunFinished if a) ∷ (bad.UnknownReference if b) ∷ (bad.PickleDiffers if c) ∷ (bad.DuplicateId if d) ∷ []) ≡ Some (IsBad bad.PickleDiffers) → c ≡ true
differs_fails true b c d e = absurd cc
differs_fails false true c d e = absurd cc
differs_fails false false true d e = refl
differs_fails false false false true e = absurd cc
differs_fails false false false false e = absurd cc

not_next : (read : Utf8 → Reading) (settings : Settings) (before : List Envelope) (p : Pickle) → fault_by read settings before (envelope.Pickle p) ≡ Some (IsBad bad.PickleDiffers) → is_next_pickle_by read before p ≡ false
not_next read settings before p why =
    not-true (is_next_pickle_by read before p)
    (differs_fails (has_run_finished before) (refers_to_unknown before (envelope.Pickle p)) (not (is_next_pickle_by read before p)) (declares_again before (envelope.Pickle p)) why)

-- the one that is due and the one that is found are apart
sides_apart : (ids : List Utf8) (due : Option DuePickle) (p : Pickle) → PickleHasTexts p → AreTexts ids → IfSome due (PickleFine clean) → option_map_or (λ d. is_due ids p d) due false ≡ false → IsToldApart (pickle_difference ids due p)
sides_apart ids None p h k fine differs = none_apart ids p (pickle_plain p h)
sides_apart ids (Some due) p h k fine differs =
    pickles_apart ids due p differs (pickle_plain p h) (pickle_plain (due_pickle p.uri ids p.steps due) (due_texts p.uri ids p.steps due h.uri k fine))

pub pickles_told_apart : PicklesAreToldApart
pickles_told_apart settings bytes n text t =
    let reason = t.told in
    let p = reason.pickle in
    let es = judged_in settings t.before in
    let before = before_texts settings t.before in
    let ids = document_ids p.uri es in
    let due = next_pickle_by t.read p.uri es in
    let found : PickleHasTexts p = subst EnvelopeTexts reason.is_pickle (said_texts t.line t.said t.is_read) in
    let why : fault_by t.read settings es (envelope.Pickle p) ≡ Some (IsBad bad.PickleDiffers) = subst (λ (e : Envelope). fault_by t.read settings es (judged_as settings es e) ≡ Some (IsBad bad.PickleDiffers)) reason.is_pickle t.why in
    record {
      front = due_line es p.uri ids due;
      difference = pickle_difference ids due p;
      ends = reason.told;
      apart = sides_apart ids due p found (ids_texts p.uri es before) (next_fine t.read t.by_the_grammar p.uri es before) (not_next t.read settings es p why);
    }
