-- What a listing of sources and run hooks keeps: one envelope more; and what is told of it.
use Rattle.std.proofs.Common.{◌≡◌, ◌∙◌, ap, sym, refl, List, [], ◌∷◌, ◌++◌, map, Option, None, Some}
use Rattle.std.specs.List.{filter_map}
use Rattle.std.proofs.lemmas.List.{map-append}
use Rattle.cm_envelope.specs.declared.envelope.Envelope.{Envelope}
use Rattle.cm_envelope.specs.declared.envelope.Envelope.TheVariants as envelope
use Rattle.cm_envelope.specs.declared.envelope.Source.{Source}
use Rattle.cm_envelope.specs.declared.envelope.TestRunHookFinished.{TestRunHookFinished}
use Rattle.cm_envelope.specs.declared.envelope.TestRunHookStarted.{TestRunHookStarted}
use Rattle.cm_stream.specs.References.{as_run_hook, as_run_hook_end, as_source, sources}
use Rattle.cm_stream.specs.Texts.{Utf8}
use Rattle.cm_stream.proofs.Lists.{found_more, found_push, map_twice}
use Rattle.cm_reasons.specs.Run.{run_hook_end, run_hook_entry, run_listing_of, source_entry, uri_and_text}
use Rattle.cm_reasons.specs.declared.run_listing.RunHookEnd.{RunHookEnd}
use Rattle.cm_reasons.specs.declared.run_listing.RunHookEntry.{RunHookEntry}
use Rattle.cm_reasons.specs.declared.run_listing.RunListing.{RunListing}
use Rattle.cm_reasons.specs.declared.run_listing.SourceEntry.{SourceEntry}

one_noted : {X Y : Type 0} (h : Envelope → Option X) (f : X → Y) (es : List Envelope) (e : Envelope) (x : X) → h e ≡ Some x → map f (filter_map h es) ++ f x ∷ [] ≡ map f (filter_map h (es ++ e ∷ []))
one_noted h f es e x is = sym (ap (map f) (found_push h es e x is) ∙ map-append f (filter_map h es) (x ∷ []))

none_noted : {X Y : Type 0} (h : Envelope → Option X) (f : X → Y) (es : List Envelope) (e : Envelope) → h e ≡ None → map f (filter_map h es) ≡ map f (filter_map h (es ++ e ∷ []))
none_noted h f es e is = sym (ap (map f) (found_more h es e is))

pub source_noted : (l : RunListing) (es : List Envelope) (s : Source) (ss : List SourceEntry) → l ≡ run_listing_of es → ss ≡ l.sources ++ source_entry s ∷ []
    → (let noted : RunListing = record { sources = ss; hooks = l.hooks; ends = l.ends } in noted) ≡ run_listing_of (es ++ envelope.Source s ∷ [])
source_noted l es s ss is e =
    let first = e ∙ ap (λ (k : RunListing). k.sources ++ source_entry s ∷ []) is ∙ one_noted as_source source_entry es (envelope.Source s) s refl in
    let second = ap (λ (k : RunListing). k.hooks) is ∙ none_noted as_run_hook run_hook_entry es (envelope.Source s) refl in
    let third = ap (λ (k : RunListing). k.ends) is ∙ none_noted as_run_hook_end run_hook_end es (envelope.Source s) refl in
    λ j. record { sources = first j; hooks = second j; ends = third j }

pub hook_noted : (l : RunListing) (es : List Envelope) (s : TestRunHookStarted) (hs : List RunHookEntry) → l ≡ run_listing_of es → hs ≡ l.hooks ++ run_hook_entry s ∷ []
    → (let noted : RunListing = record { sources = l.sources; hooks = hs; ends = l.ends } in noted) ≡ run_listing_of (es ++ envelope.TestRunHookStarted s ∷ [])
hook_noted l es s hs is e =
    let first = ap (λ (k : RunListing). k.sources) is ∙ none_noted as_source source_entry es (envelope.TestRunHookStarted s) refl in
    let second = e ∙ ap (λ (k : RunListing). k.hooks ++ run_hook_entry s ∷ []) is ∙ one_noted as_run_hook run_hook_entry es (envelope.TestRunHookStarted s) s refl in
    let third = ap (λ (k : RunListing). k.ends) is ∙ none_noted as_run_hook_end run_hook_end es (envelope.TestRunHookStarted s) refl in
    λ j. record { sources = first j; hooks = second j; ends = third j }

pub end_noted : (l : RunListing) (es : List Envelope) (f : TestRunHookFinished) (fs : List RunHookEnd) → l ≡ run_listing_of es → fs ≡ l.ends ++ run_hook_end f ∷ []
    → (let noted : RunListing = record { sources = l.sources; hooks = l.hooks; ends = fs } in noted) ≡ run_listing_of (es ++ envelope.TestRunHookFinished f ∷ [])
end_noted l es f fs is e =
    let first = ap (λ (k : RunListing). k.sources) is ∙ none_noted as_source source_entry es (envelope.TestRunHookFinished f) refl in
    let second = ap (λ (k : RunListing). k.hooks) is ∙ none_noted as_run_hook run_hook_entry es (envelope.TestRunHookFinished f) refl in
    let third = e ∙ ap (λ (k : RunListing). k.ends ++ run_hook_end f ∷ []) is ∙ one_noted as_run_hook_end run_hook_end es (envelope.TestRunHookFinished f) f refl in
    λ j. record { sources = first j; hooks = second j; ends = third j }

not_noted : (es : List Envelope) (e : Envelope) → as_source e ≡ None → as_run_hook e ≡ None → as_run_hook_end e ≡ None → run_listing_of es ≡ run_listing_of (es ++ e ∷ [])
not_noted es e s h f =
    let first = none_noted as_source source_entry es e s in
    let second = none_noted as_run_hook run_hook_entry es e h in
    let third = none_noted as_run_hook_end run_hook_end es e f in
    λ j. record { sources = first j; hooks = second j; ends = third j }

-- nothing is kept of an envelope of another kind
pub other_noted : (es : List Envelope) (e : Envelope) → ((s : Source) → e ≡ envelope.Source s → ⊥) → ((s : TestRunHookStarted) → e ≡ envelope.TestRunHookStarted s → ⊥) → ((f : TestRunHookFinished) → e ≡ envelope.TestRunHookFinished f → ⊥)
    → run_listing_of es ≡ run_listing_of (es ++ e ∷ [])
other_noted es (envelope.Source x) s h f = absurd (s x refl)
other_noted es (envelope.TestRunHookStarted x) s h f = absurd (h x refl)
other_noted es (envelope.TestRunHookFinished x) s h f = absurd (f x refl)
other_noted es (envelope.TestCase x) s h f = not_noted es (envelope.TestCase x) refl refl refl
other_noted es (envelope.Pickle x) s h f = not_noted es (envelope.Pickle x) refl refl refl
other_noted es (envelope.GherkinDocument x) s h f = not_noted es (envelope.GherkinDocument x) refl refl refl
other_noted es (envelope.ParseError x) s h f = not_noted es (envelope.ParseError x) refl refl refl
other_noted es (envelope.StepDefinition x) s h f = not_noted es (envelope.StepDefinition x) refl refl refl
other_noted es (envelope.Hook x) s h f = not_noted es (envelope.Hook x) refl refl refl
other_noted es (envelope.TestRunStarted x) s h f = not_noted es (envelope.TestRunStarted x) refl refl refl
other_noted es (envelope.TestCaseStarted x) s h f = not_noted es (envelope.TestCaseStarted x) refl refl refl
other_noted es (envelope.TestStepStarted x) s h f = not_noted es (envelope.TestStepStarted x) refl refl refl
other_noted es (envelope.TestStepFinished x) s h f = not_noted es (envelope.TestStepFinished x) refl refl refl
other_noted es (envelope.TestCaseFinished x) s h f = not_noted es (envelope.TestCaseFinished x) refl refl refl
other_noted es (envelope.TestRunFinished x) s h f = not_noted es (envelope.TestRunFinished x) refl refl refl
other_noted es (envelope.Attachment x) s h f = not_noted es (envelope.Attachment x) refl refl refl
other_noted es envelope.Other s h f = not_noted es envelope.Other refl refl refl

-- ---- what is told of it

abbrev pub entry_texts : SourceEntry → Utf8 × Utf8
entry_texts s = (s.uri, s.content)

pub texts_of_sources : (found : List (Utf8 × Utf8)) (l : RunListing) → found ≡ map entry_texts l.sources → (es : List Envelope) → l ≡ run_listing_of es → found ≡ map uri_and_text (sources es)
texts_of_sources found l h es is = h ∙ ap (λ (x : RunListing). map entry_texts x.sources) is ∙ map_twice entry_texts source_entry (sources es)
