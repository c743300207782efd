-- What is kept: one envelope more.
use Rattle.std.proofs.Common.{◌≡◌, ◌∙◌, ap, sym, refl, Bool, String, Global, true, false, ◌||◌, List, [], ◌∷◌, ◌++◌, append-nil, append_assoc, get_or, length, map, take, ℕ, ◌+◌, ◌<◌, Option, None, Some, Result, Ok, Err}
use Rattle.std.specs.Prelude.{OnOk, if◌then◌else◌}
use Rattle.std.specs.List.{filter_map, flat_map, list_any}
use Rattle.std.specs.Str.{bytes_eq}
use Rattle.std.specs.String.{string_bytes, string_eq}
use Rattle.std.proofs.lemmas.List.{flat_map_more, map-append, take_more}
use Rattle.std.proofs.lemmas.List.Folds.{list_any-append}
use Rattle.std.proofs.lemmas.Slice.Eq.{bytes_eq-Decides}
use Rattle.indexmap.specs.IndexSet.{insert_key}
use Rattle.cm_attempt.specs.Table.{has_text}
use Rattle.cm_envelope.specs.declared.envelope.Envelope.{Envelope}
use Rattle.cm_envelope.specs.declared.envelope.Envelope.TheVariants as envelope
use Rattle.cm_envelope.specs.declared.envelope.Status.{Status}
use Rattle.cm_envelope.specs.declared.envelope.Status.TheVariants as status
use Rattle.cm_envelope.specs.declared.envelope.TestCase.{TestCase}
use Rattle.cm_envelope.specs.declared.envelope.TestCaseStarted.{TestCaseStarted}
use Rattle.cm_envelope.specs.declared.envelope.TestStepFinished.{TestStepFinished}
use Rattle.cm_envelope.specs.declared.pickle.Pickle.{Pickle}
use Rattle.cm_refs.proofs.EntryLemmas.{list_any-map}
use Rattle.cm_stream.specs.References.{as_case, as_pickle, as_start}
use Rattle.cm_stream.specs.Texts.{Utf8}
use Rattle.cm_stream.proofs.Lists.{found_more, found_push, or_no}
use Rattle.cm_release.specs.Kept.{all_unmatched, case_entry, finish_after, finish_among, finishes_from, kept_of, pickle_entry, skip_of, skips_in, start_entry}
use Rattle.cm_release.specs.declared.tally.CaseEntry.{CaseEntry}
use Rattle.cm_release.specs.declared.tally.Kept.{Kept}
use Rattle.cm_release.specs.declared.tally.PickleEntry.{PickleEntry}
use Rattle.cm_release.specs.declared.tally.StartEntry.{StartEntry}

-- ---- the lists

one_noted : {X Y : Type 0} (h : Envelope → Option X) (f : X → Y) (es : List Envelope) (e : Envelope) (x : X) → h e ≡ Some x → map f (filter_map h es) ++ f x ∷ [] ≡ map f (filter_map h (es ++ e ∷ []))
one_noted h f es e x is = sym (ap (map f) (found_push h es e x is) ∙ map-append f (filter_map h es) (x ∷ []))

none_noted : {X Y : Type 0} (h : Envelope → Option X) (f : X → Y) (es : List Envelope) (e : Envelope) → h e ≡ None → map f (filter_map h es) ≡ map f (filter_map h (es ++ e ∷ []))
none_noted h f es e is = sym (ap (map f) (found_more h es e is))

skips_noted : (es : List Envelope) (e : Envelope) → flat_map skips_in es ++ skips_in e ≡ flat_map skips_in (es ++ e ∷ [])
skips_noted es e = flat_map_more skips_in [] es e

no_skip_noted : (es : List Envelope) (e : Envelope) → skips_in e ≡ [] → flat_map skips_in es ≡ flat_map skips_in (es ++ e ∷ [])
no_skip_noted es e none = sym (append-nil (flat_map skips_in es)) ∙ ap (λ l. flat_map skips_in es ++ l) (sym none) ∙ skips_noted es e

finishes_more : (before es : List Envelope) (e : Envelope) → finishes_from before es ++ finish_after (before ++ es) e ≡ finishes_from before (es ++ e ∷ [])
finishes_more before [] e = ap (λ l. finish_after l e) (append-nil before) ∙ sym (append-nil (finish_after before e))
finishes_more before (x ∷ xs) e =
    append_assoc (finish_after before x) (finishes_from (before ++ x ∷ []) xs) (finish_after (before ++ x ∷ xs) e)
    ∙ ap (λ l. finish_after before x ++ l)
    (ap (λ l. finishes_from (before ++ x ∷ []) xs ++ finish_after l e) (sym (append_assoc before (x ∷ []) xs)) ∙ finishes_more (before ++ x ∷ []) xs e)

no_finish_noted : (es : List Envelope) (e : Envelope) → finish_after es e ≡ [] → finishes_from [] es ≡ finishes_from [] (es ++ e ∷ [])
no_finish_noted es e none = sym (append-nil (finishes_from [] es)) ∙ ap (λ l. finishes_from [] es ++ l) (sym none) ∙ finishes_more [] es e

-- ---- one envelope more, by its kind

same_kept : (a b : Kept) → a.pickles ≡ b.pickles → a.cases ≡ b.cases → a.starts ≡ b.starts → a.skips ≡ b.skips → a.finishes ≡ b.finishes → a ≡ b
same_kept a b p c s k f = λ j. record { pickles = p j; cases = c j; starts = s j; skips = k j; finishes = f j }

pub pickle_noted : (k : Kept) (es : List Envelope) (p : Pickle) (ps : List PickleEntry) → k ≡ kept_of es → ps ≡ k.pickles ++ pickle_entry p ∷ []
    → (let noted : Kept = record k { pickles = ps } in noted) ≡ kept_of (es ++ envelope.Pickle p ∷ [])
pickle_noted k es p ps is e =
    let x = envelope.Pickle p in
    same_kept (record k { pickles = ps }) (kept_of (es ++ x ∷ []))
    (e ∙ ap (λ (q : Kept). q.pickles ++ pickle_entry p ∷ []) is ∙ one_noted as_pickle pickle_entry es x p refl)
    (ap (λ (q : Kept). q.cases) is ∙ none_noted as_case case_entry es x refl)
    (ap (λ (q : Kept). q.starts) is ∙ none_noted as_start start_entry es x refl)
    (ap (λ (q : Kept). q.skips) is ∙ no_skip_noted es x refl)
    (ap (λ (q : Kept). q.finishes) is ∙ no_finish_noted es x refl)

pub case_noted : (k new : Kept) (es : List Envelope) (c : TestCase) → k ≡ kept_of es → new ≡ (let noted : Kept = record k { cases = k.cases ++ case_entry c ∷ [] } in noted) → new ≡ kept_of (es ++ envelope.TestCase c ∷ [])
case_noted k new es c is e =
    let x = envelope.TestCase c in
    e ∙ same_kept (record k { cases = k.cases ++ case_entry c ∷ [] }) (kept_of (es ++ x ∷ []))
    (ap (λ (q : Kept). q.pickles) is ∙ none_noted as_pickle pickle_entry es x refl)
    (ap (λ (q : Kept). q.cases ++ case_entry c ∷ []) is ∙ one_noted as_case case_entry es x c refl)
    (ap (λ (q : Kept). q.starts) is ∙ none_noted as_start start_entry es x refl)
    (ap (λ (q : Kept). q.skips) is ∙ no_skip_noted es x refl)
    (ap (λ (q : Kept). q.finishes) is ∙ no_finish_noted es x refl)

pub start_noted : (k : Kept) (es : List Envelope) (s : TestCaseStarted) (ss : List StartEntry) → k ≡ kept_of es → ss ≡ k.starts ++ start_entry s ∷ []
    → (let noted : Kept = record k { starts = ss } in noted) ≡ kept_of (es ++ envelope.TestCaseStarted s ∷ [])
start_noted k es s ss is e =
    let x = envelope.TestCaseStarted s in
    same_kept (record k { starts = ss }) (kept_of (es ++ x ∷ []))
    (ap (λ (q : Kept). q.pickles) is ∙ none_noted as_pickle pickle_entry es x refl)
    (ap (λ (q : Kept). q.cases) is ∙ none_noted as_case case_entry es x refl)
    (e ∙ ap (λ (q : Kept). q.starts ++ start_entry s ∷ []) is ∙ one_noted as_start start_entry es x s refl)
    (ap (λ (q : Kept). q.skips) is ∙ no_skip_noted es x refl)
    (ap (λ (q : Kept). q.finishes) is ∙ no_finish_noted es x refl)

-- sets with the same texts keep the same end of a step
among_same : (a b : List Utf8) → ((text : Utf8) → has_text text a ≡ has_text text b) → (f : TestStepFinished) (s : Status) → finish_among a f s ≡ finish_among b f s
among_same a b h f status.Passed = ap (λ (here : Bool). if here then record { attempt_id = f.test_case_started_id; step_id = f.test_step_id; is_pending = false } ∷ [] else []) (h f.test_step_id)
among_same a b h f status.Pending = ap (λ (here : Bool). if here then record { attempt_id = f.test_case_started_id; step_id = f.test_step_id; is_pending = true } ∷ [] else []) (h f.test_step_id)
among_same a b h f status.Unknown = refl
among_same a b h f status.Skipped = refl
among_same a b h f status.Undefined = refl
among_same a b h f status.Ambiguous = refl
among_same a b h f status.Failed = refl

pub finish_noted : (k new : Kept) (ids : List Utf8) (es : List Envelope) (f : TestStepFinished) → k ≡ kept_of es → ((text : Utf8) → has_text text ids ≡ has_text text (all_unmatched k.cases))
    → new ≡ (let noted : Kept = record k { skips = k.skips ++ skip_of f f.test_step_result.status; finishes = k.finishes ++ finish_among ids f f.test_step_result.status } in noted)
    → new ≡ kept_of (es ++ envelope.TestStepFinished f ∷ [])
finish_noted k new ids es f is h e =
    let x = envelope.TestStepFinished f in
    let s = f.test_step_result.status in
    e ∙ same_kept (record k { skips = k.skips ++ skip_of f s; finishes = k.finishes ++ finish_among ids f s }) (kept_of (es ++ x ∷ []))
    (ap (λ (q : Kept). q.pickles) is ∙ none_noted as_pickle pickle_entry es x refl)
    (ap (λ (q : Kept). q.cases) is ∙ none_noted as_case case_entry es x refl)
    (ap (λ (q : Kept). q.starts) is ∙ none_noted as_start start_entry es x refl)
    (ap (λ (q : Kept). q.skips ++ skip_of f s) is ∙ skips_noted es x)
    (ap (λ l. k.finishes ++ l) (among_same ids (all_unmatched k.cases) h f s)
    ∙ ap (λ (q : Kept). q.finishes ++ finish_among (all_unmatched q.cases) f s) is
    ∙ finishes_more [] es x)

not_noted : (es : List Envelope) (e : Envelope) → as_pickle e ≡ None → as_case e ≡ None → as_start e ≡ None → skips_in e ≡ [] → finish_after es e ≡ [] → kept_of es ≡ kept_of (es ++ e ∷ [])
not_noted es e p c s k f =
    same_kept (kept_of es) (kept_of (es ++ e ∷ []))
    (none_noted as_pickle pickle_entry es e p) (none_noted as_case case_entry es e c) (none_noted as_start start_entry es e s) (no_skip_noted es e k) (no_finish_noted es e f)

-- nothing is kept of an envelope of another kind
pub other_noted : (es : List Envelope) (e : Envelope) → ((p : Pickle) → e ≡ envelope.Pickle p → ⊥) → ((c : TestCase) → e ≡ envelope.TestCase c → ⊥) → ((s : TestCaseStarted) → e ≡ envelope.TestCaseStarted s → ⊥)
    → ((f : TestStepFinished) → e ≡ envelope.TestStepFinished f → ⊥) → kept_of es ≡ kept_of (es ++ e ∷ [])
other_noted es (envelope.Pickle x) p c s f = absurd (p x refl)
other_noted es (envelope.TestCase x) p c s f = absurd (c x refl)
other_noted es (envelope.TestCaseStarted x) p c s f = absurd (s x refl)
other_noted es (envelope.TestStepFinished x) p c s f = absurd (f x refl)
other_noted es (envelope.Source x) p c s f = not_noted es (envelope.Source x) refl refl refl refl refl
other_noted es (envelope.GherkinDocument x) p c s f = not_noted es (envelope.GherkinDocument x) refl refl refl refl refl
other_noted es (envelope.ParseError x) p c s f = not_noted es (envelope.ParseError x) refl refl refl refl refl
other_noted es (envelope.StepDefinition x) p c s f = not_noted es (envelope.StepDefinition x) refl refl refl refl refl
other_noted es (envelope.Hook x) p c s f = not_noted es (envelope.Hook x) refl refl refl refl refl
other_noted es (envelope.TestRunStarted x) p c s f = not_noted es (envelope.TestRunStarted x) refl refl refl refl refl
other_noted es (envelope.TestStepStarted x) p c s f = not_noted es (envelope.TestStepStarted x) refl refl refl refl refl
other_noted es (envelope.TestCaseFinished x) p c s f = not_noted es (envelope.TestCaseFinished x) refl refl refl refl refl
other_noted es (envelope.TestRunFinished x) p c s f = not_noted es (envelope.TestRunFinished x) refl refl refl refl refl
other_noted es (envelope.Attachment x) p c s f = not_noted es (envelope.Attachment x) refl refl refl refl refl
other_noted es (envelope.TestRunHookStarted x) p c s f = not_noted es (envelope.TestRunHookStarted x) refl refl refl refl refl
other_noted es (envelope.TestRunHookFinished x) p c s f = not_noted es (envelope.TestRunHookFinished x) refl refl refl refl refl
other_noted es envelope.Other p c s f = not_noted es envelope.Other refl refl refl refl refl

-- ---- ids

-- a set with one id more has the texts that a list with it has
pub id_added : (keys : List (String Global)) (k : String Global) (text : Utf8) → has_text text (map string_bytes (insert_key string_eq keys k)) ≡ has_text text (map string_bytes keys ++ string_bytes k ∷ [])
id_added keys k text = go (list_any (string_eq k) keys) refl
  where
    there : (b : Bool) → bytes_eq text (string_bytes k) ≡ b → list_any (string_eq k) keys ≡ true → has_text text (map string_bytes keys) ≡ (has_text text (map string_bytes keys) || (b || false))
    there false e h = sym (or_no (has_text text (map string_bytes keys)))
    there true e h =
        let same : text ≡ string_bytes k = (bytes_eq-Decides text (string_bytes k)).0 e in
        let has : has_text text (map string_bytes keys) ≡ true = ap (λ t. has_text t (map string_bytes keys)) same ∙ list_any-map (bytes_eq (string_bytes k)) string_bytes keys ∙ h in
        has ∙ sym (ap (λ b. b || true) has)

    go : (b : Bool) → list_any (string_eq k) keys ≡ b → has_text text (map string_bytes (insert_key string_eq keys k)) ≡ has_text text (map string_bytes keys ++ string_bytes k ∷ [])
    go true e =
        ap (λ (b : Bool). has_text text (map string_bytes (if b then keys else keys ++ k ∷ []))) e
        ∙ there (bytes_eq text (string_bytes k)) refl e
        ∙ sym (list_any-append (bytes_eq text) (map string_bytes keys) (string_bytes k ∷ []))
    go false e =
        ap (λ (b : Bool). has_text text (map string_bytes (if b then keys else keys ++ k ∷ []))) e
        ∙ ap (has_text text) (map-append string_bytes keys (k ∷ []))

-- lists that have the same texts have them with the same texts more
pub more_added : (a b more : List Utf8) (text : Utf8) → has_text text a ≡ has_text text b → has_text text (a ++ more) ≡ has_text text (b ++ more)
more_added a b more text h = list_any-append (bytes_eq text) a more ∙ ap (λ x. x || has_text text more) h ∙ sym (list_any-append (bytes_eq text) b more)

pub case_added : (cs : List CaseEntry) (c : CaseEntry) → all_unmatched cs ++ c.unmatched ≡ all_unmatched (cs ++ c ∷ [])
case_added cs c = flat_map_more (λ (x : CaseEntry). x.unmatched) [] cs c

pub ids_added : (old mid new added : List Utf8) (i : ℕ) (x : Utf8) → i < length added → x ≡ get_or added i x
    → ((text : Utf8) → has_text text mid ≡ has_text text (old ++ take i added)) → ((text : Utf8) → has_text text new ≡ has_text text (mid ++ x ∷ []))
    → (text : Utf8) → has_text text new ≡ has_text text (old ++ take (i + 1) added)
ids_added old mid new added i x lt at before after text =
    after text ∙ more_added mid (old ++ take i added) (x ∷ []) text (before text)
    ∙ ap (has_text text) (append_assoc old (take i added) (x ∷ []) ∙ ap (λ l. old ++ l) (sym (take_more added i x lt ∙ ap (λ y. take i added ++ y ∷ []) (sym at))))

pub on_two : {A E P Q R : Type 0} (r : Result A E) → OnOk r P → OnOk r Q → (P → Q → R) → OnOk r R
on_two (Ok a) p q f = f p q
on_two (Err e) p q f = p
