-- What a listing keeps: one envelope more.
use Rattle.std.proofs.Common.{◌≡◌, ◌∙◌, ap, sym, refl, Bool, true, false, not, List, [], ◌∷◌, ◌++◌, map, append-nil, Option, None, Some}
use Rattle.std.specs.List.{filter, filter_map, flat_map}
use Rattle.std.proofs.lemmas.List.{map-append}
use Rattle.std.proofs.lemmas.List.Elements.{filter-append}
use Rattle.std.specs.Option.{option_map_or}
use Rattle.gk_document.specs.declared.tree.Feature.{Feature}
use Rattle.cm_envelope.specs.declared.envelope.Envelope.{Envelope}
use Rattle.cm_envelope.specs.declared.envelope.Envelope.TheVariants as envelope
use Rattle.cm_envelope.specs.declared.envelope.GherkinDocument.{GherkinDocument}
use Rattle.cm_envelope.specs.declared.envelope.TestCase.{TestCase}
use Rattle.cm_envelope.specs.declared.envelope.TestCaseFinished.{TestCaseFinished}
use Rattle.cm_envelope.specs.declared.envelope.TestCaseStarted.{TestCaseStarted}
use Rattle.cm_envelope.specs.declared.envelope.TestStepFinished.{TestStepFinished}
use Rattle.cm_envelope.specs.declared.pickle.Pickle.{Pickle}
use Rattle.cm_stream.specs.References.{as_case, as_document, as_pickle, as_start}
use Rattle.cm_stream.specs.Texts.{Utf8}
use Rattle.cm_stream.proofs.Lists.{found_more, found_push}
use Rattle.cm_cases.specs.Places.{place}
use Rattle.cm_steps.specs.Attempts.{as_finish, as_step_finish, finish_status, is_quiet, step_finishes}
use Rattle.cm_steps.specs.Kept.{document_row, finish_entry, pickle_row, place_texts, plan_row, start_entry, step_listing_of}
use Rattle.cm_steps.specs.Steps.{steps_of_feature}
use Rattle.cm_steps.specs.declared.listing.FinishEntry.{FinishEntry}
use Rattle.cm_steps.specs.declared.listing.StartEntry.{StartEntry}
use Rattle.cm_steps.specs.declared.listing.StepListing.{StepListing}

one_noted : {X Y : Type 0} (h : Envelope → Option X) (f : X → Y) (es : List Envelope) (e : Envelope) (x : X) → h e ≡ Some x → map f (filter_map h es) ++ f x ∷ [] ≡ map f (filter_map h (es ++ e ∷ []))
one_noted h f es e x is = sym (ap (map f) (found_push h es e x is) ∙ map-append f (filter_map h es) (x ∷ []))

none_noted : {X Y : Type 0} (h : Envelope → Option X) (f : X → Y) (es : List Envelope) (e : Envelope) → h e ≡ None → map f (filter_map h es) ≡ map f (filter_map h (es ++ e ∷ []))
none_noted h f es e is = sym (ap (map f) (found_more h es e is))

abbrev end_id : TestCaseFinished → Utf8
end_id f = f.test_case_started_id

abbrev is_told : TestStepFinished → Bool
is_told f = not (is_quiet (finish_status f))

abbrev told : List TestStepFinished → List FinishEntry
told fs = map finish_entry (filter is_told fs)

-- the texts of what is changed are those of the changes
flat_mapped : {X Y A : Type 0} (f : Y → List A) (g : X → Y) (xs : List X) → flat_map f (map g xs) ≡ flat_map (λ x. f (g x)) xs
flat_mapped f g [] = refl
flat_mapped f g (x ∷ xs) = ap (λ ys. f (g x) ++ ys) (flat_mapped f g xs)

-- the row of a document that has a feature
pub feature_row : (d : GherkinDocument) (f : Feature) (ids : List Utf8) (start all : List Utf8) → start ≡ d.uri ∷ [] → ids ≡ d.ids → d.document.feature ≡ Some f
    → all ≡ start ++ flat_map (λ s. place_texts (place ids s.node s.location)) (steps_of_feature f) → all ≡ document_row d
feature_row d f ids start all begun same has is =
    is ∙ (λ j. begun j ++ flat_map (λ s. place_texts (place (same j) s.node s.location)) (steps_of_feature f))
    ∙ ap (λ ts. d.uri ∷ ts) (sym (flat_mapped place_texts (λ s. place d.ids s.node s.location) (steps_of_feature f)))
    ∙ ap (λ (o : Option Feature). d.uri ∷ flat_map place_texts (map (λ s. place d.ids s.node s.location) (option_map_or steps_of_feature o []))) (sym has)

-- ---- one part of what is kept, where the envelope says nothing of it

plans_stay : (l : StepListing) (es : List Envelope) (e : Envelope) → l ≡ step_listing_of es → as_case e ≡ None → l.plans ≡ (step_listing_of (es ++ e ∷ [])).plans
plans_stay l es e is none = ap (λ (k : StepListing). k.plans) is ∙ none_noted as_case plan_row es e none

pickles_stay : (l : StepListing) (es : List Envelope) (e : Envelope) → l ≡ step_listing_of es → as_pickle e ≡ None → l.pickles ≡ (step_listing_of (es ++ e ∷ [])).pickles
pickles_stay l es e is none = ap (λ (k : StepListing). k.pickles) is ∙ none_noted as_pickle pickle_row es e none

documents_stay : (l : StepListing) (es : List Envelope) (e : Envelope) → l ≡ step_listing_of es → as_document e ≡ None → l.documents ≡ (step_listing_of (es ++ e ∷ [])).documents
documents_stay l es e is none = ap (λ (k : StepListing). k.documents) is ∙ none_noted as_document document_row es e none

starts_stay : (l : StepListing) (es : List Envelope) (e : Envelope) → l ≡ step_listing_of es → as_start e ≡ None → l.starts ≡ (step_listing_of (es ++ e ∷ [])).starts
starts_stay l es e is none = ap (λ (k : StepListing). k.starts) is ∙ none_noted as_start start_entry es e none

ends_stay : (l : StepListing) (es : List Envelope) (e : Envelope) → l ≡ step_listing_of es → as_finish e ≡ None → l.ends ≡ (step_listing_of (es ++ e ∷ [])).ends
ends_stay l es e is none = ap (λ (k : StepListing). k.ends) is ∙ none_noted as_finish end_id es e none

finishes_stay : (l : StepListing) (es : List Envelope) (e : Envelope) → l ≡ step_listing_of es → as_step_finish e ≡ None → l.finishes ≡ (step_listing_of (es ++ e ∷ [])).finishes
finishes_stay l es e is none = ap (λ (k : StepListing). k.finishes) is ∙ sym (ap told (found_more as_step_finish es e none))

-- ---- one envelope more

pub case_noted : (l : StepListing) (es : List Envelope) (c : TestCase) (cs : List (List Utf8)) → l ≡ step_listing_of es → cs ≡ l.plans ++ plan_row c ∷ [] → record l { plans = cs } ≡ step_listing_of (es ++ envelope.TestCase c ∷ [])
case_noted l es c cs is e =
    let env = envelope.TestCase c in
    let plans = e ∙ ap (λ (k : StepListing). k.plans ++ plan_row c ∷ []) is ∙ one_noted as_case plan_row es env c refl in
    λ j. record {
      plans = plans j;
      pickles = pickles_stay l es env is refl j;
      documents = documents_stay l es env is refl j;
      starts = starts_stay l es env is refl j;
      ends = ends_stay l es env is refl j;
      finishes = finishes_stay l es env is refl j;
    }

pub pickle_noted : (l : StepListing) (es : List Envelope) (p : Pickle) (ps : List (List Utf8)) → l ≡ step_listing_of es → ps ≡ l.pickles ++ pickle_row p ∷ [] → record l { pickles = ps } ≡ step_listing_of (es ++ envelope.Pickle p ∷ [])
pickle_noted l es p ps is e =
    let env = envelope.Pickle p in
    let pickles = e ∙ ap (λ (k : StepListing). k.pickles ++ pickle_row p ∷ []) is ∙ one_noted as_pickle pickle_row es env p refl in
    λ j. record {
      plans = plans_stay l es env is refl j;
      pickles = pickles j;
      documents = documents_stay l es env is refl j;
      starts = starts_stay l es env is refl j;
      ends = ends_stay l es env is refl j;
      finishes = finishes_stay l es env is refl j;
    }

pub document_noted : (l : StepListing) (es : List Envelope) (d : GherkinDocument) (ds : List (List Utf8)) → l ≡ step_listing_of es → ds ≡ l.documents ++ document_row d ∷ [] → record l { documents = ds } ≡ step_listing_of (es ++ envelope.GherkinDocument d ∷ [])
document_noted l es d ds is e =
    let env = envelope.GherkinDocument d in
    let documents = e ∙ ap (λ (k : StepListing). k.documents ++ document_row d ∷ []) is ∙ one_noted as_document document_row es env d refl in
    λ j. record {
      plans = plans_stay l es env is refl j;
      pickles = pickles_stay l es env is refl j;
      documents = documents j;
      starts = starts_stay l es env is refl j;
      ends = ends_stay l es env is refl j;
      finishes = finishes_stay l es env is refl j;
    }

pub start_noted : (l : StepListing) (es : List Envelope) (s : TestCaseStarted) (ss : List StartEntry) → l ≡ step_listing_of es → ss ≡ l.starts ++ start_entry s ∷ [] → record l { starts = ss } ≡ step_listing_of (es ++ envelope.TestCaseStarted s ∷ [])
start_noted l es s ss is e =
    let env = envelope.TestCaseStarted s in
    let starts = e ∙ ap (λ (k : StepListing). k.starts ++ start_entry s ∷ []) is ∙ one_noted as_start start_entry es env s refl in
    λ j. record {
      plans = plans_stay l es env is refl j;
      pickles = pickles_stay l es env is refl j;
      documents = documents_stay l es env is refl j;
      starts = starts j;
      ends = ends_stay l es env is refl j;
      finishes = finishes_stay l es env is refl j;
    }

pub end_noted : (l : StepListing) (es : List Envelope) (f : TestCaseFinished) (fs : List Utf8) → l ≡ step_listing_of es → fs ≡ l.ends ++ f.test_case_started_id ∷ [] → record l { ends = fs } ≡ step_listing_of (es ++ envelope.TestCaseFinished f ∷ [])
end_noted l es f fs is e =
    let env = envelope.TestCaseFinished f in
    let ends = e ∙ ap (λ (k : StepListing). k.ends ++ end_id f ∷ []) is ∙ one_noted as_finish end_id es env f refl in
    λ j. record {
      plans = plans_stay l es env is refl j;
      pickles = pickles_stay l es env is refl j;
      documents = documents_stay l es env is refl j;
      starts = starts_stay l es env is refl j;
      ends = ends j;
      finishes = finishes_stay l es env is refl j;
    }

told_more : (es : List Envelope) (f : TestStepFinished) → is_quiet (finish_status f) ≡ false → told (step_finishes es) ++ finish_entry f ∷ [] ≡ told (step_finishes (es ++ envelope.TestStepFinished f ∷ []))
told_more es f loud =
    let one : filter is_told (f ∷ []) ≡ f ∷ [] = rw loud refl in
    sym
    (ap told (found_push as_step_finish es (envelope.TestStepFinished f) f refl) ∙ ap (map finish_entry) (filter-append is_told (step_finishes es) (f ∷ []) ∙ ap (λ fs. filter is_told (step_finishes es) ++ fs) one)
    ∙ map-append finish_entry (filter is_told (step_finishes es)) (f ∷ []))

told_less : (es : List Envelope) (f : TestStepFinished) → is_quiet (finish_status f) ≡ true → told (step_finishes es) ≡ told (step_finishes (es ++ envelope.TestStepFinished f ∷ []))
told_less es f quiet =
    let none : filter is_told (f ∷ []) ≡ [] = rw quiet refl in
    sym
    (ap told (found_push as_step_finish es (envelope.TestStepFinished f) f refl)
    ∙ ap (map finish_entry) (filter-append is_told (step_finishes es) (f ∷ []) ∙ ap (λ fs. filter is_told (step_finishes es) ++ fs) none ∙ append-nil (filter is_told (step_finishes es))))

pub finish_noted : (l : StepListing) (es : List Envelope) (f : TestStepFinished) (fs : List FinishEntry) → is_quiet (finish_status f) ≡ false → l ≡ step_listing_of es → fs ≡ l.finishes ++ finish_entry f ∷ []
    → record l { finishes = fs } ≡ step_listing_of (es ++ envelope.TestStepFinished f ∷ [])
finish_noted l es f fs loud is e =
    let env = envelope.TestStepFinished f in
    let finishes = e ∙ ap (λ (k : StepListing). k.finishes ++ finish_entry f ∷ []) is ∙ told_more es f loud in
    λ j. record {
      plans = plans_stay l es env is refl j;
      pickles = pickles_stay l es env is refl j;
      documents = documents_stay l es env is refl j;
      starts = starts_stay l es env is refl j;
      ends = ends_stay l es env is refl j;
      finishes = finishes j;
    }

pub quiet_noted : (l : StepListing) (es : List Envelope) (f : TestStepFinished) → is_quiet (finish_status f) ≡ true → l ≡ step_listing_of es → l ≡ step_listing_of (es ++ envelope.TestStepFinished f ∷ [])
quiet_noted l es f quiet is =
    let env = envelope.TestStepFinished f in
    let finishes = ap (λ (k : StepListing). k.finishes) is ∙ told_less es f quiet in
    λ j. record {
      plans = plans_stay l es env is refl j;
      pickles = pickles_stay l es env is refl j;
      documents = documents_stay l es env is refl j;
      starts = starts_stay l es env is refl j;
      ends = ends_stay l es env is refl j;
      finishes = finishes j;
    }

-- an envelope of which nothing is kept
none_told : (l : StepListing) (es : List Envelope) (e : Envelope) → l ≡ step_listing_of es → as_case e ≡ None → as_pickle e ≡ None → as_document e ≡ None → as_start e ≡ None → as_finish e ≡ None → as_step_finish e ≡ None
    → l ≡ step_listing_of (es ++ e ∷ [])
none_told l es e is c p d s f t =
    λ j. record {
      plans = plans_stay l es e is c j;
      pickles = pickles_stay l es e is p j;
      documents = documents_stay l es e is d j;
      starts = starts_stay l es e is s j;
      ends = ends_stay l es e is f j;
      finishes = finishes_stay l es e is t j;
    }

pub other_noted : (l : StepListing) (es : List Envelope) (e : Envelope) → ((x : TestCase) → e ≡ envelope.TestCase x → ⊥) → ((x : Pickle) → e ≡ envelope.Pickle x → ⊥) → ((x : GherkinDocument) → e ≡ envelope.GherkinDocument x → ⊥)
    → ((x : TestCaseStarted) → e ≡ envelope.TestCaseStarted x → ⊥) → ((x : TestCaseFinished) → e ≡ envelope.TestCaseFinished x → ⊥) → ((x : TestStepFinished) → e ≡ envelope.TestStepFinished x → ⊥) → l ≡ step_listing_of es
    → l ≡ step_listing_of (es ++ e ∷ [])
other_noted l es (envelope.Source x) c p d s f t is = none_told l es (envelope.Source x) is refl refl refl refl refl refl
other_noted l es (envelope.GherkinDocument x) c p d s f t is = absurd (d x refl)
other_noted l es (envelope.ParseError x) c p d s f t is = none_told l es (envelope.ParseError x) is refl refl refl refl refl refl
other_noted l es (envelope.Pickle x) c p d s f t is = absurd (p x refl)
other_noted l es (envelope.StepDefinition x) c p d s f t is = none_told l es (envelope.StepDefinition x) is refl refl refl refl refl refl
other_noted l es (envelope.Hook x) c p d s f t is = none_told l es (envelope.Hook x) is refl refl refl refl refl refl
other_noted l es (envelope.TestCase x) c p d s f t is = absurd (c x refl)
other_noted l es (envelope.TestRunStarted x) c p d s f t is = none_told l es (envelope.TestRunStarted x) is refl refl refl refl refl refl
other_noted l es (envelope.TestCaseStarted x) c p d s f t is = absurd (s x refl)
other_noted l es (envelope.TestStepStarted x) c p d s f t is = none_told l es (envelope.TestStepStarted x) is refl refl refl refl refl refl
other_noted l es (envelope.TestStepFinished x) c p d s f t is = absurd (t x refl)
other_noted l es (envelope.TestCaseFinished x) c p d s f t is = absurd (f x refl)
other_noted l es (envelope.TestRunFinished x) c p d s f t is = none_told l es (envelope.TestRunFinished x) is refl refl refl refl refl refl
other_noted l es (envelope.Attachment x) c p d s f t is = none_told l es (envelope.Attachment x) is refl refl refl refl refl refl
other_noted l es (envelope.TestRunHookStarted x) c p d s f t is = none_told l es (envelope.TestRunHookStarted x) is refl refl refl refl refl refl
other_noted l es (envelope.TestRunHookFinished x) c p d s f t is = none_told l es (envelope.TestRunHookFinished x) is refl refl refl refl refl refl
other_noted l es envelope.Other c p d s f t is = none_told l es envelope.Other is refl refl refl refl refl refl
