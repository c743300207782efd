-- What a listing keeps: one place, one envelope more.
use Rattle.std.proofs.Common.{◌≡◌, ◌∙◌, ap, sym, refl, ℕ, ◌+◌, ◌<◌, List, [], ◌∷◌, ◌++◌, append_assoc, take, get_or, length, map, Option, None, Some, Result, Ok, Err}
use Rattle.std.specs.Prelude.{OnOk}
use Rattle.std.specs.List.{filter_map, flat_map}
use Rattle.std.proofs.lemmas.List.{flat_map_more, map-append, take_more}
use Rattle.cm_envelope.specs.declared.envelope.Envelope.{Envelope}
use Rattle.cm_envelope.specs.declared.envelope.Envelope.TheVariants as envelope
use Rattle.cm_envelope.specs.declared.envelope.GherkinDocument.{GherkinDocument}
use Rattle.cm_envelope.specs.declared.envelope.TestCase.{TestCase}
use Rattle.cm_envelope.specs.declared.envelope.TestCaseStarted.{TestCaseStarted}
use Rattle.cm_envelope.specs.declared.pickle.Pickle.{Pickle}
use Rattle.cm_stream.specs.References.{as_case, as_document, as_pickle, as_start, cases, pickles}
use Rattle.cm_stream.proofs.Lists.{found_more, found_push, map_twice}
use Rattle.cm_cases.specs.Listed.{case_entry, document_entry, id_and_uri, listing_of, pickle_entry}
use Rattle.cm_cases.specs.declared.listing.CaseEntry.{CaseEntry}
use Rattle.cm_cases.specs.declared.listing.DocumentEntry.{DocumentEntry}
use Rattle.cm_cases.specs.declared.listing.Listing.{Listing}
use Rattle.cm_cases.specs.declared.listing.PickleEntry.{PickleEntry}
use Rattle.cm_stream.specs.Texts.{Utf8}

pub on_ok : {A E P Q : Type 0} (r : Result A E) → OnOk r P → (P → Q) → OnOk r Q
on_ok (Ok a) p f = f p
on_ok (Err e) p f = p

-- what comes of an element, a first value and then others, after what came of those before it
pub head_added : {X A : Type 0} (f : X → List A) (start old mid new rest : List A) (a : A) (xs : List X) (i : ℕ) (x : X) → i < length xs → x ≡ get_or xs i x
    → old ≡ start ++ flat_map f (take i xs) → mid ≡ old ++ a ∷ [] → new ≡ mid ++ rest → f x ≡ a ∷ rest → new ≡ start ++ flat_map f (take (i + 1) xs)
head_added {X} {A} f start old mid new rest a xs i x l at o m n h =
    n ∙ ap (λ (q : List A). q ++ rest) m ∙ append_assoc old (a ∷ []) rest ∙ ap (λ (q : List A). old ++ q) (sym h) ∙ ap (λ (q : List A). q ++ f x) o
    ∙ flat_map_more f start (take i xs) x ∙ ap (λ (ys : List X). start ++ flat_map f ys) (sym (take_more xs i x l ∙ ap (λ y. take i xs ++ y ∷ []) (sym at)))

-- ---- one envelope more

one_noted : {X Y : Type 0} (h : Envelope → Option X) (f : X → Y) (es : List Envelope) (e : Envelope) (x : X) → h e ≡ Some x → map f (filter_map h es) ++ f x ∷ [] ≡ map f (filter_map h (es ++ e ∷ []))
one_noted h f es e x is = sym (ap (map f) (found_push h es e x is) ∙ map-append f (filter_map h es) (x ∷ []))

none_noted : {X Y : Type 0} (h : Envelope → Option X) (f : X → Y) (es : List Envelope) (e : Envelope) → h e ≡ None → map f (filter_map h es) ≡ map f (filter_map h (es ++ e ∷ []))
none_noted h f es e is = sym (ap (map f) (found_more h es e is))

abbrev case_id : TestCaseStarted → Utf8
case_id s = s.test_case_id

pub case_noted : (l : Listing) (es : List Envelope) (c : TestCase) (cs : List CaseEntry) → l ≡ listing_of es → cs ≡ l.cases ++ case_entry c ∷ []
    → (let noted : Listing = record { cases = cs; pickles = l.pickles; documents = l.documents; starts = l.starts } in noted) ≡ listing_of (es ++ envelope.TestCase c ∷ [])
case_noted l es c cs is e =
    let first = e ∙ ap (λ (k : Listing). k.cases ++ case_entry c ∷ []) is ∙ one_noted as_case case_entry es (envelope.TestCase c) c refl in
    let second = ap (λ (k : Listing). k.pickles) is ∙ none_noted as_pickle pickle_entry es (envelope.TestCase c) refl in
    let third = ap (λ (k : Listing). k.documents) is ∙ none_noted as_document document_entry es (envelope.TestCase c) refl in
    let fourth = ap (λ (k : Listing). k.starts) is ∙ none_noted as_start case_id es (envelope.TestCase c) refl in
    λ j. record { cases = first j; pickles = second j; documents = third j; starts = fourth j }

pub pickle_noted : (l : Listing) (es : List Envelope) (p : Pickle) (ps : List PickleEntry) → l ≡ listing_of es → ps ≡ l.pickles ++ pickle_entry p ∷ []
    → (let noted : Listing = record { cases = l.cases; pickles = ps; documents = l.documents; starts = l.starts } in noted) ≡ listing_of (es ++ envelope.Pickle p ∷ [])
pickle_noted l es p ps is e =
    let first = ap (λ (k : Listing). k.cases) is ∙ none_noted as_case case_entry es (envelope.Pickle p) refl in
    let second = e ∙ ap (λ (k : Listing). k.pickles ++ pickle_entry p ∷ []) is ∙ one_noted as_pickle pickle_entry es (envelope.Pickle p) p refl in
    let third = ap (λ (k : Listing). k.documents) is ∙ none_noted as_document document_entry es (envelope.Pickle p) refl in
    let fourth = ap (λ (k : Listing). k.starts) is ∙ none_noted as_start case_id es (envelope.Pickle p) refl in
    λ j. record { cases = first j; pickles = second j; documents = third j; starts = fourth j }

pub document_noted : (l : Listing) (es : List Envelope) (d : GherkinDocument) (ds : List DocumentEntry) → l ≡ listing_of es → ds ≡ l.documents ++ document_entry d ∷ []
    → (let noted : Listing = record { cases = l.cases; pickles = l.pickles; documents = ds; starts = l.starts } in noted) ≡ listing_of (es ++ envelope.GherkinDocument d ∷ [])
document_noted l es d ds is e =
    let first = ap (λ (k : Listing). k.cases) is ∙ none_noted as_case case_entry es (envelope.GherkinDocument d) refl in
    let second = ap (λ (k : Listing). k.pickles) is ∙ none_noted as_pickle pickle_entry es (envelope.GherkinDocument d) refl in
    let third = e ∙ ap (λ (k : Listing). k.documents ++ document_entry d ∷ []) is ∙ one_noted as_document document_entry es (envelope.GherkinDocument d) d refl in
    let fourth = ap (λ (k : Listing). k.starts) is ∙ none_noted as_start case_id es (envelope.GherkinDocument d) refl in
    λ j. record { cases = first j; pickles = second j; documents = third j; starts = fourth j }

pub start_noted : (l : Listing) (es : List Envelope) (s : TestCaseStarted) (ss : List Utf8) → l ≡ listing_of es → ss ≡ l.starts ++ s.test_case_id ∷ []
    → (let noted : Listing = record { cases = l.cases; pickles = l.pickles; documents = l.documents; starts = ss } in noted) ≡ listing_of (es ++ envelope.TestCaseStarted s ∷ [])
start_noted l es s ss is e =
    let first = ap (λ (k : Listing). k.cases) is ∙ none_noted as_case case_entry es (envelope.TestCaseStarted s) refl in
    let second = ap (λ (k : Listing). k.pickles) is ∙ none_noted as_pickle pickle_entry es (envelope.TestCaseStarted s) refl in
    let third = ap (λ (k : Listing). k.documents) is ∙ none_noted as_document document_entry es (envelope.TestCaseStarted s) refl in
    let fourth = e ∙ ap (λ (k : Listing). k.starts ++ s.test_case_id ∷ []) is ∙ one_noted as_start case_id es (envelope.TestCaseStarted s) s refl in
    λ j. record { cases = first j; pickles = second j; documents = third j; starts = fourth j }

not_noted : (es : List Envelope) (e : Envelope) → as_case e ≡ None → as_pickle e ≡ None → as_document e ≡ None → as_start e ≡ None → listing_of es ≡ listing_of (es ++ e ∷ [])
not_noted es e c p d s =
    let first = none_noted as_case case_entry es e c in
    let second = none_noted as_pickle pickle_entry es e p in
    let third = none_noted as_document document_entry es e d in
    let fourth = none_noted as_start case_id es e s in
    λ j. record { cases = first j; pickles = second j; documents = third j; starts = fourth j }

-- nothing is kept of an envelope of another kind
pub other_noted : (es : List Envelope) (e : Envelope) → ((c : TestCase) → e ≡ envelope.TestCase c → ⊥) → ((p : Pickle) → e ≡ envelope.Pickle p → ⊥) → ((d : GherkinDocument) → e ≡ envelope.GherkinDocument d → ⊥)
    → ((s : TestCaseStarted) → e ≡ envelope.TestCaseStarted s → ⊥) → listing_of es ≡ listing_of (es ++ e ∷ [])
other_noted es (envelope.TestCase x) c p d s = absurd (c x refl)
other_noted es (envelope.Pickle x) c p d s = absurd (p x refl)
other_noted es (envelope.GherkinDocument x) c p d s = absurd (d x refl)
other_noted es (envelope.Source x) c p d s = not_noted es (envelope.Source x) refl refl refl refl
other_noted es (envelope.ParseError x) c p d s = not_noted es (envelope.ParseError x) refl refl refl refl
other_noted es (envelope.StepDefinition x) c p d s = not_noted es (envelope.StepDefinition x) refl refl refl refl
other_noted es (envelope.Hook x) c p d s = not_noted es (envelope.Hook x) refl refl refl refl
other_noted es (envelope.TestRunStarted x) c p d s = not_noted es (envelope.TestRunStarted x) refl refl refl refl
other_noted es (envelope.TestCaseStarted x) c p d s = absurd (s x refl)
other_noted es (envelope.TestStepStarted x) c p d s = not_noted es (envelope.TestStepStarted x) refl refl refl refl
other_noted es (envelope.TestStepFinished x) c p d s = not_noted es (envelope.TestStepFinished x) refl refl refl refl
other_noted es (envelope.TestCaseFinished x) c p d s = not_noted es (envelope.TestCaseFinished x) refl refl refl refl
other_noted es (envelope.TestRunFinished x) c p d s = not_noted es (envelope.TestRunFinished x) refl refl refl refl
other_noted es (envelope.Attachment x) c p d s = not_noted es (envelope.Attachment x) refl refl refl refl
other_noted es (envelope.TestRunHookStarted x) c p d s = not_noted es (envelope.TestRunHookStarted x) refl refl refl refl
other_noted es (envelope.TestRunHookFinished x) c p d s = not_noted es (envelope.TestRunHookFinished x) refl refl refl refl
other_noted es envelope.Other c p d s = not_noted es envelope.Other refl refl refl refl

-- ---- what is told of a listing

abbrev pub entry_ids : PickleEntry → Utf8 × Utf8
entry_ids p = (p.id, p.uri)

pub ids_of_pickles : (found : List (Utf8 × Utf8)) (l : Listing) → found ≡ map entry_ids l.pickles → (es : List Envelope) → l ≡ listing_of es → found ≡ map id_and_uri (pickles es)
ids_of_pickles found l h es is = h ∙ ap (λ (x : Listing). map entry_ids x.pickles) is ∙ map_twice entry_ids pickle_entry (pickles es)

abbrev pub entry_named : CaseEntry → Utf8
entry_named c = c.pickle_id

pub named_by_cases : (found : List Utf8) (l : Listing) → found ≡ map entry_named l.cases → (es : List Envelope) → l ≡ listing_of es → found ≡ map (λ c. c.pickle_id) (cases es)
named_by_cases found l h es is = h ∙ ap (λ (x : Listing). map entry_named x.cases) is ∙ map_twice entry_named case_entry (cases es)
