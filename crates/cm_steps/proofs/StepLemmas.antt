-- What is told of a test step, by what a listing of a stream's envelopes keeps, is what is said of the envelopes.
use Rattle.std.proofs.Common.{◌≡◌, ◌∙◌, ap, arith, refl, sym, ℕ, Bool, true, false, List, [], ◌∷◌, ◌++◌, map, Option, None, Some}
use Rattle.std.specs.Prelude.{codes, decimal, find, option_map}
use Rattle.std.specs.List.{filter_map, flat_map}
use Rattle.std.specs.Option.{option_map_or}
use Rattle.std.specs.Str.{bytes_eq}
use Rattle.std.proofs.lemmas.Fmt.{decimal_digit}
use Rattle.text_rows.specs.Rows.{begins_with}
use Rattle.cm_envelope.specs.declared.envelope.Envelope.{Envelope}
use Rattle.cm_envelope.specs.declared.envelope.GherkinDocument.{GherkinDocument}
use Rattle.cm_envelope.specs.declared.envelope.TestCase.{TestCase}
use Rattle.cm_envelope.specs.declared.pickle.Pickle.{Pickle}
use Rattle.cm_envelope.specs.declared.pickle.PickleStep.{PickleStep}
use Rattle.cm_stream.specs.References.{as_document, cases, pickles}
use Rattle.cm_stream.specs.Texts.{Utf8}
use Rattle.cm_stream.proofs.Lists.{find_map}
use Rattle.cm_cases.specs.Shown.{shown_text}
use Rattle.cm_cases.specs.declared.listing.Place.{Place}
use Rattle.cm_steps.specs.Entries.{step_entry_text, step_entry_text_of, find_line, find_step, line_in, line_of_row, step_of_row, told_entry, told_in}
use Rattle.cm_steps.specs.Kept.{document_row, pickle_row, place_texts, plan_row, source_id, source_kind, step_listing_of}
use Rattle.cm_steps.specs.Steps.{own_node, pickle_step_text, step_line, step_places, step_text_in, step_text_of, told_case_step, told_step, told_step_in, told_test_step}
use Rattle.cm_steps.specs.declared.listing.StepListing.{StepListing}

-- what is said of the first of some rows is what is said of what it is kept of
or_same : {X Y R : Type 0} (f : X → Y) (g : Y → R) (h : X → R) (d : R) → ((x : X) → g (f x) ≡ h x) → (o : Option X) → option_map_or g (option_map f o) d ≡ option_map_or h o d
or_same f g h d same None = refl
or_same f g h d same (Some x) = same x

found_same : {X Y R : Type 0} (p : Y → Bool) (f : X → Y) (g : Y → R) (h : X → R) (d : R) → ((x : X) → g (f x) ≡ h x) → (xs : List X) → option_map_or g (find p (map f xs)) d ≡ option_map_or h (find (λ x. p (f x)) xs) d
found_same {X} {Y} p f g h d same xs = ap (λ (o : Option Y). option_map_or g o d) (find_map p f xs) ∙ or_same f g h d same (find (λ x. p (f x)) xs)

or_in : {X Y R : Type 0} (f : X → Option Y) (g : Y → R) (d : R) (o : Option X) → option_map_or g (option_map_or f o None) d ≡ option_map_or (λ x. option_map_or g (f x) d) o d
or_in f g d None = refl
or_in f g d (Some x) = refl

or_mapped : {X Y R : Type 0} (f : X → Y) (g : Y → R) (d : R) (o : Option X) → option_map_or g (option_map f o) d ≡ option_map_or (λ x. g (f x)) o d
or_mapped f g d None = refl
or_mapped f g d (Some x) = refl

-- ---- in the texts of some steps

-- three texts of each step: the two beside the first of an id
step_found : {X : Type 0} (id one two : X → Utf8) (step : Utf8) (xs : List X) → find_step step (flat_map (λ x. id x ∷ one x ∷ two x ∷ []) xs) ≡ option_map (λ x. (one x, two x)) (find (λ x. bytes_eq step (id x)) xs)
step_found id one two step [] = refl
step_found {X} id one two step (x ∷ xs) = go (bytes_eq step (id x)) refl (step_found id one two step xs)
  where
    go : (b : Bool) → bytes_eq step (id x) ≡ b → find_step step (flat_map (λ x. id x ∷ one x ∷ two x ∷ []) xs) ≡ option_map (λ x. (one x, two x)) (find (λ x. bytes_eq step (id x)) xs)
        → find_step step (flat_map (λ x. id x ∷ one x ∷ two x ∷ []) (x ∷ xs)) ≡ option_map (λ x. (one x, two x)) (find (λ x. bytes_eq step (id x)) (x ∷ xs))
    go true e rec = rw e refl
    go false e rec = rw e rec

-- what is said of them is what is said of the step
step_told : {X R : Type 0} (id one two : X → Utf8) (of step : Utf8) (g : Utf8 × Utf8 × Utf8 → R) (h : X → R) (d : R) → ((x : X) → g (of, one x, two x) ≡ h x) → (xs : List X)
    → option_map_or g (option_map (λ p. (of, p.0, p.1)) (find_step step (flat_map (λ x. id x ∷ one x ∷ two x ∷ []) xs))) d ≡ option_map_or h (find (λ x. bytes_eq step (id x)) xs) d
step_told {X} id one two of step g h d same xs =
    ap (λ (o : Option (Utf8 × Utf8)). option_map_or g (option_map (λ p. (of, p.0, p.1)) o) d) (step_found id one two step xs)
    ∙ or_mapped (λ p. (of, p.0, p.1)) g d (option_map (λ x. (one x, two x)) (find (λ x. bytes_eq step (id x)) xs))
    ∙ or_same (λ x. (one x, two x)) (λ p. g (of, p.0, p.1)) h d same (find (λ x. bytes_eq step (id x)) xs)

-- the line of the first place of a node
line_found : (node : Utf8) (places : List Place) → find_line node (flat_map place_texts places) ≡ decimal (option_map_or (λ x. x.line) (find (λ x. bytes_eq node x.id) places) 0)
line_found node [] = sym (decimal_digit 0 (omega arith))
line_found node (x ∷ xs) = go (bytes_eq node x.id) refl (line_found node xs)
  where
    go : (b : Bool) → bytes_eq node x.id ≡ b → find_line node (flat_map place_texts xs) ≡ decimal (option_map_or (λ x. x.line) (find (λ x. bytes_eq node x.id) xs) 0)
        → find_line node (flat_map place_texts (x ∷ xs)) ≡ decimal (option_map_or (λ x. x.line) (find (λ x. bytes_eq node x.id) (x ∷ xs)) 0)
    go true e rec = rw e refl
    go false e rec = rw e rec

-- ---- the line of a step

same_line : (node : Utf8) (o : Option GherkinDocument)
    → option_map_or (λ d. decimal (option_map_or (λ x. x.line) (find (λ x. bytes_eq node x.id) (step_places d)) 0)) o (codes "0") ≡ decimal (option_map_or (λ x. x.line) (find (λ x. bytes_eq node x.id) (option_map_or step_places o [])) 0)
same_line node None = sym (decimal_digit 0 (omega arith))
same_line node (Some d) = refl

line_listed : (es : List Envelope) (p : Pickle) (s : PickleStep) → line_in (step_listing_of es) p.uri (own_node s) ≡ decimal (step_line es p s)
line_listed es p s =
    found_same (begins_with p.uri) document_row (line_of_row (own_node s)) (λ d. decimal (option_map_or (λ x. x.line) (find (λ x. bytes_eq (own_node s) x.id) (step_places d)) 0)) (codes "0")
    (λ d. line_found (own_node s) (step_places d)) (filter_map as_document es)
    ∙ same_line (own_node s) (find (λ d. bytes_eq p.uri d.uri) (filter_map as_document es))

-- ---- the text of a step

same_text : (es : List Envelope) (p : Pickle) (s : PickleStep) → step_entry_text (step_listing_of es) (p.uri, s.text, own_node s) ≡ pickle_step_text es p s
same_text es p s = ap (λ (n : List ℕ). shown_text p.uri ++ codes ":" ++ n ++ codes " " ++ shown_text s.text) (line_listed es p s)

text_in : (es : List Envelope) (step : Utf8) (p : Pickle) → option_map_or (step_entry_text (step_listing_of es)) (step_of_row step (pickle_row p)) [] ≡ step_text_in es step p
text_in es step p = step_told (λ s. s.id) (λ s. s.text) own_node p.uri step (step_entry_text (step_listing_of es)) (pickle_step_text es p) [] (same_text es p) p.steps

text_of : (es : List Envelope) (pickle step : Utf8) → step_entry_text_of (step_listing_of es) pickle step ≡ step_text_of es pickle step
text_of es pickle step =
    or_in (step_of_row step) (step_entry_text (step_listing_of es)) [] (find (begins_with pickle) (map pickle_row (pickles es)))
    ∙ found_same (begins_with pickle) pickle_row (λ r. option_map_or (step_entry_text (step_listing_of es)) (step_of_row step r) []) (step_text_in es step) [] (text_in es step) (pickles es)

entry_told : (word : List ℕ) (es : List Envelope) (pickle : Utf8) (hook step : Option Utf8) → told_entry word (step_listing_of es) (pickle, source_kind hook step, source_id hook step) ≡ told_step word es pickle hook step
entry_told word es pickle (Some hook) step = refl
entry_told word es pickle None (Some step) = ap (λ (t : List ℕ). word ++ t) (text_of es pickle step)
entry_told word es pickle None None = refl

plan_told : (word : List ℕ) (es : List Envelope) (step : Utf8) (c : TestCase) → option_map_or (told_entry word (step_listing_of es)) (step_of_row step (plan_row c)) [] ≡ told_step_in word es step c
plan_told word es step c =
    step_told (λ s. s.id) (λ s. source_kind s.hook_id s.pickle_step_id) (λ s. source_id s.hook_id s.pickle_step_id) c.pickle_id step (told_entry word (step_listing_of es)) (told_test_step word es c) []
    (λ s. entry_told word es c.pickle_id s.hook_id s.pickle_step_id) c.test_steps

case_told : (word : List ℕ) (es : List Envelope) (case step : Utf8) → told_in word (step_listing_of es) case step ≡ told_case_step word es case step
case_told word es case step =
    or_in (step_of_row step) (told_entry word (step_listing_of es)) [] (find (begins_with case) (map plan_row (cases es)))
    ∙ found_same (begins_with case) plan_row (λ r. option_map_or (told_entry word (step_listing_of es)) (step_of_row step r) []) (told_step_in word es step) [] (plan_told word es step) (cases es)

pub listing_told : (word : List ℕ) (es : List Envelope) (l : StepListing) (case step : Utf8) → l ≡ step_listing_of es → told_in word l case step ≡ told_case_step word es case step
listing_told word es l case step is = ap (λ (k : StepListing). told_in word k case step) is ∙ case_told word es case step
