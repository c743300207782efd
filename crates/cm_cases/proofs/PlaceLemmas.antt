-- What a listing of a stream's envelopes shows is what is said of the envelopes.
use Rattle.std.proofs.Common.{◌≡◌, ◌∙◌, ap, sym, refl, Bool, true, false, ◌||◌, List, [], ◌∷◌, ◌++◌, map, Option, None, Some, ⊎_elim}
use Rattle.std.specs.Prelude.{codes, find, if◌then◌else◌, not, option_map}
use Rattle.std.specs.List.{filter, filter_map, flat_map, list_any}
use Rattle.std.specs.Option.{option_and_then, option_map_or}
use Rattle.std.specs.Str.{bytes_eq}
use Rattle.std.proofs.lemmas.Bool.{cases_Bool}
use Rattle.cm_envelope.specs.declared.envelope.Envelope.{Envelope}
use Rattle.cm_envelope.specs.declared.envelope.GherkinDocument.{GherkinDocument}
use Rattle.cm_envelope.specs.declared.envelope.TestCase.{TestCase}
use Rattle.cm_envelope.specs.declared.pickle.Pickle.{Pickle}
use Rattle.cm_stream.specs.References.{as_document, cases, find_case, find_pickle, if_any, pickles}
use Rattle.cm_stream.specs.Release.{is_named}
use Rattle.cm_stream.specs.Texts.{Utf8}
use Rattle.cm_cases.specs.Firsts as listed
use Rattle.cm_cases.specs.Firsts.{entry_of, entry_scenario, entry_text, line_at_in, line_in, scenario_in, unrun_entries_text}
use Rattle.cm_cases.specs.Listed.{case_entry, document_entry, listing_of, pickle_entry}
use Rattle.cm_cases.specs.Places.{case_place, case_scenario, line_at, line_of, pickle_of, pickle_scenario, place_text, places_at, places_of, scenario_at, scenario_text, unrun_lines}
use Rattle.cm_cases.specs.declared.listing.CaseEntry.{CaseEntry}
use Rattle.cm_cases.specs.declared.listing.DocumentEntry.{DocumentEntry}
use Rattle.cm_cases.specs.declared.listing.Listing.{Listing}
use Rattle.cm_cases.specs.declared.listing.PickleEntry.{PickleEntry}
use Rattle.cm_cases.specs.declared.listing.Place.{Place}

find_map : {X Y : Type 0} (p : Y → Bool) (f : X → Y) (xs : List X) → find p (map f xs) ≡ option_map f (find (λ x. p (f x)) xs)
find_map p f [] = refl
find_map p f (x ∷ xs) = ⊎_elim (λ yes. rw yes refl) (λ no. rw no (find_map p f xs)) (cases_Bool (p (f x)))

any_map : {X Y : Type 0} (p : Y → Bool) (f : X → Y) (xs : List X) → list_any p (map f xs) ≡ list_any (λ x. p (f x)) xs
any_map p f [] = refl
any_map p f (x ∷ xs) = ap (λ b. p (f x) || b) (any_map p f xs)

-- ---- the line of a pickle

same_places : (o : Option GherkinDocument) → option_map_or (λ d. d.places) (option_map document_entry o) [] ≡ option_map_or places_of o []
same_places None = refl
same_places (Some d) = refl

places_listed : (es : List Envelope) (uri : Utf8) → option_map_or (λ d. d.places) (find (λ d. bytes_eq uri d.uri) (listing_of es).documents) [] ≡ places_at uri es
places_listed es uri =
    ap (λ (o : Option DocumentEntry). option_map_or (λ d. d.places) o []) (find_map (λ d. bytes_eq uri d.uri) document_entry (filter_map as_document es))
    ∙ same_places (find (λ d. bytes_eq uri d.uri) (filter_map as_document es))

pub same_line : (es : List Envelope) (p : Pickle) → line_in (listing_of es) (pickle_entry p) ≡ line_of es p
same_line es p = ap (λ (ps : List Place). option_map_or (λ x. x.line) (find (λ x. bytes_eq (pickle_entry p).node x.id) ps) 0) (places_listed es p.uri)

same_line_at : (es : List Envelope) (uri node : Utf8) → line_at_in (listing_of es) uri node ≡ line_at es uri node
same_line_at es uri node = ap (λ (ps : List Place). option_map_or (λ x. x.line) (find (λ x. bytes_eq node x.id) ps) 0) (places_listed es uri)

-- a place, by its uri and its node
pub place_shown : (l : Listing) (es : List Envelope) (uri name node : Utf8) → l ≡ listing_of es → scenario_in l uri name node ≡ scenario_at es uri name node
place_shown l es uri name node is = ap (λ (k : Listing). scenario_in k uri name node) is ∙ rw (same_line_at es uri node) refl

same_scenario : (es : List Envelope) (p : Pickle) → entry_scenario (listing_of es) (pickle_entry p) ≡ scenario_text es p
same_scenario es p = rw (same_line es p) refl

same_text : (es : List Envelope) (p : Pickle) → entry_text (listing_of es) (pickle_entry p) ≡ place_text es p
same_text es p = rw (same_line es p) refl

-- ---- the pickle of a case

then_same : (es : List Envelope) (o : Option TestCase)
    → option_and_then (λ (c : CaseEntry). find (λ p. bytes_eq c.pickle_id p.id) (listing_of es).pickles) (option_map case_entry o) ≡ option_map pickle_entry (option_and_then (λ c. find_pickle c.pickle_id es) o)
then_same es None = refl
then_same es (Some c) = find_map (λ p. bytes_eq c.pickle_id p.id) pickle_entry (pickles es)

pub entry_listed : (es : List Envelope) (id : Utf8) → entry_of (listing_of es) id ≡ option_map pickle_entry (pickle_of es id)
entry_listed es id =
    ap (option_and_then (λ (c : CaseEntry). find (λ p. bytes_eq c.pickle_id p.id) (listing_of es).pickles)) (find_map (λ c. bytes_eq id c.id) case_entry (cases es))
    ∙ then_same es (find_case id es)

any_scenario : (es : List Envelope) (o : Option Pickle) → flat_map (entry_scenario (listing_of es)) (if_any (option_map pickle_entry o)) ≡ flat_map (scenario_text es) (if_any o)
any_scenario es None = refl
any_scenario es (Some p) = ap (λ t. t ++ []) (same_scenario es p)

pub case_scenario_shown : (l : Listing) (es : List Envelope) (id : Utf8) (o : Option PickleEntry) → l ≡ listing_of es → o ≡ entry_of l id → flat_map (entry_scenario l) (if_any o) ≡ case_scenario es id
case_scenario_shown l es id o is e =
    let entry : o ≡ option_map pickle_entry (pickle_of es id) = e ∙ ap (λ (k : Listing). entry_of k id) is ∙ entry_listed es id in
    (λ j. flat_map (entry_scenario (is j)) (if_any (entry j))) ∙ any_scenario es (pickle_of es id)

pub pickle_scenario_shown : (l : Listing) (es : List Envelope) (id : Utf8) (o : Option PickleEntry) → l ≡ listing_of es → o ≡ find (λ p. bytes_eq id p.id) l.pickles → flat_map (entry_scenario l) (if_any o) ≡ pickle_scenario es id
pickle_scenario_shown l es id o is e =
    let entry : o ≡ option_map pickle_entry (find_pickle id es) =
    e ∙ ap (λ (k : Listing). find (λ p. bytes_eq id p.id) k.pickles) is ∙ find_map (λ p. bytes_eq id p.id) pickle_entry (pickles es) in
    (λ j. flat_map (entry_scenario (is j)) (if_any (entry j))) ∙ any_scenario es (find_pickle id es)

any_shown : (es : List Envelope) (o : Option Pickle) → flat_map (entry_text (listing_of es)) (if_any (option_map pickle_entry o)) ≡ flat_map (place_text es) (if_any o)
any_shown es None = refl
any_shown es (Some p) = ap (λ t. t ++ []) (same_text es p)

pub case_shown : (l : Listing) (es : List Envelope) (id : Utf8) (o : Option PickleEntry) → l ≡ listing_of es → o ≡ entry_of l id → flat_map (entry_text l) (if_any o) ≡ case_place es id
case_shown l es id o is e =
    let entry : o ≡ option_map pickle_entry (pickle_of es id) = e ∙ ap (λ (k : Listing). entry_of k id) is ∙ entry_listed es id in
    (λ j. flat_map (entry_text (is j)) (if_any (entry j))) ∙ any_shown es (pickle_of es id)

-- ---- pickles that no case names

pub same_named : (es : List Envelope) (p : Pickle) → listed.is_named (listing_of es) (pickle_entry p) ≡ is_named es p
same_named es p = any_map (λ c. bytes_eq p.id c.pickle_id) case_entry (cases es)

pub filter_step : {X A : Type 0} (f : X → List A) (q : X → Bool) (x : X) (xs : List X) (b : Bool) → q x ≡ b → flat_map f (filter q (x ∷ xs)) ≡ (if b then f x else []) ++ flat_map f (filter q xs)
filter_step f q x xs true e = rw e refl
filter_step f q x xs false e = rw e refl

each_unrun : (es : List Envelope) (ps : List Pickle)
    → flat_map (λ p. codes "UNRUN" ++ entry_text (listing_of es) p) (filter (λ p. not (listed.is_named (listing_of es) p)) (map pickle_entry ps))
    ≡ flat_map (λ p. codes "UNRUN" ++ place_text es p) (filter (λ p. not (is_named es p)) ps)
each_unrun es [] = refl
each_unrun es (p ∷ ps) =
    filter_step (λ x. codes "UNRUN" ++ entry_text (listing_of es) x) (λ x. not (listed.is_named (listing_of es) x)) (pickle_entry p) (map pickle_entry ps) (not (is_named es p)) (ap not (same_named es p))
    ∙ (λ j. (if not (is_named es p) then codes "UNRUN" ++ same_text es p j else []) ++ each_unrun es ps j)
    ∙ sym (filter_step (λ x. codes "UNRUN" ++ place_text es x) (λ x. not (is_named es x)) p ps (not (is_named es p)) refl)

pub unrun_shown : (l : Listing) (es : List Envelope) → l ≡ listing_of es → unrun_entries_text l ≡ unrun_lines es
unrun_shown l es is = ap unrun_entries_text is ∙ each_unrun es (pickles es)
