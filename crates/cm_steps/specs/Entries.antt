-- What is told of steps and attempts, by what is kept of a stream's envelopes.
use Rattle.std.specs.Prelude.{ℕ, ◌&&◌, Bool, not, List, [], ◌∷◌, ◌++◌, Option, Some, None, codes, find, if◌then◌else◌, option_map, slice_get}
use Rattle.std.specs.List.{filter, filter_map, list_any}
use Rattle.std.specs.Option.{option_map_or}
use Rattle.std.specs.Str.{bytes_eq}
use Rattle.text_rows.specs.Rows.{begins_with}
use Rattle.cm_attempt.specs.Calls.{last_of}
use Rattle.cm_attempt.specs.declared.status.Status.{Status}
use Rattle.cm_stream.specs.Texts.{Utf8}
use Rattle.cm_cases.specs.Shown.{shown_text}
use Rattle.cm_steps.specs.Attempts.{is_status}
use Rattle.cm_steps.specs.Steps.{hook_text}
use Rattle.cm_steps.specs.declared.listing.StartEntry.{StartEntry}
use Rattle.cm_steps.specs.declared.listing.StepListing.{StepListing}

-- ---- steps

-- the two texts beside the id of a step, of three texts of each
abbrev pub find_step : (step : Utf8) → List Utf8 → Option (Utf8 × Utf8)
find_step step [] = None
find_step step (id ∷ []) = None
find_step step (id ∷ one ∷ []) = None
find_step step (id ∷ one ∷ two ∷ rest) =
    if bytes_eq step id then Some (one, two) else find_step step rest

-- the second text of a row, and those two of a step in it
abbrev pub step_of_row : (step : Utf8) → List Utf8 → Option (Utf8 × Utf8 × Utf8)
step_of_row step [] = None
step_of_row step (id ∷ []) = None
step_of_row step (id ∷ of ∷ steps) = option_map (λ x. (of, x.0, x.1)) (find_step step steps)

-- in the first row of an id
abbrev pub row_step : List (List Utf8) → (id step : Utf8) → Option (Utf8 × Utf8 × Utf8)
row_step rows id step = option_map_or (step_of_row step) (find (begins_with id) rows) None

-- the line of a node, and 0 where there is none
abbrev pub find_line : (node : Utf8) → List Utf8 → Utf8
find_line node [] = codes "0"
find_line node (id ∷ []) = codes "0"
find_line node (id ∷ line ∷ rest) = if bytes_eq node id then line else find_line node rest

abbrev pub line_of_row : (node : Utf8) → List Utf8 → Utf8
line_of_row node [] = codes "0"
line_of_row node (uri ∷ places) = find_line node places

abbrev pub line_in : StepListing → (uri node : Utf8) → Utf8
line_in l uri node =
    option_map_or (line_of_row node) (find (begins_with uri) l.documents) (codes "0")

-- that of a pickle's step: its uri, its text and its node
abbrev pub step_entry_text : StepListing → Utf8 × Utf8 × Utf8 → List ℕ
step_entry_text l s =
    shown_text s.0 ++ codes ":" ++ line_in l s.0 s.2 ++ codes " " ++ shown_text s.1

abbrev pub step_entry_text_of : StepListing → (pickle step : Utf8) → List ℕ
step_entry_text_of l pickle step = option_map_or (step_entry_text l) (row_step l.pickles pickle step) []

-- that of a test step: its pickle, what it is of, and the id of that
abbrev pub told_entry : (word : List ℕ) → StepListing → Utf8 × Utf8 × Utf8 → List ℕ
told_entry word l s =
    if bytes_eq s.1 (codes "h") then hook_text s.2
    else if bytes_eq s.1 (codes "s") then word ++ step_entry_text_of l s.0 s.2
    else []

abbrev pub told_in : (word : List ℕ) → StepListing → (test_case step : Utf8) → List ℕ
told_in word l case step = option_map_or (told_entry word l) (row_step l.plans case step) []

-- ---- attempts

-- the attempt isn't finished
abbrev pub is_open_in : StepListing → StartEntry → Bool
is_open_in l s = not (list_any (bytes_eq s.id) l.ends)

-- an attempt of the test case isn't
abbrev pub has_open_in : StepListing → (test_case : Utf8) → Bool
has_open_in l case = list_any (λ s. is_open_in l s && bytes_eq case s.case_id) l.starts

-- the ids that rows begin with
abbrev pub ids_of : List (List Utf8) → List Utf8
ids_of rows = filter_map (λ r. slice_get r 0) rows

abbrev pub open_in : StepListing → List Utf8
open_in l = filter (has_open_in l) (ids_of l.plans)

abbrev pub last_in : StepListing → (test_case : Utf8) → Option Utf8
last_in l case = option_map (λ s. s.id) (last_of (filter (λ s. bytes_eq case s.case_id) l.starts))

abbrev pub step_in : StepListing → (attempt : Utf8) → Status → Option Utf8
step_in l attempt status =
    option_map (λ f. f.step)
    (find (λ f. bytes_eq attempt f.attempt && is_status status f.status) l.finishes)
