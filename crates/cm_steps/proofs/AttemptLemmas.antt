-- What is told of attempts, by what a listing of a stream's envelopes keeps, is what is said of the envelopes.
use Rattle.std.proofs.Common.{◌≡◌, ◌∙◌, ap, sym, refl, ℕ, ◌==◌, Bool, true, false, not, ◌||◌, ◌&&◌, List, [], ◌∷◌, ◌++◌, map, Option, None, Some, append-nil, take, get_or, length, ◌+◌, ◌<◌, Bor, Result, Ok, Err}
use Rattle.std.specs.Prelude.{IfOk, is_some, find, if◌then◌else◌, option_map}
use Rattle.std.specs.List.{filter, filter_map, list_any}
use Rattle.std.specs.Option.{option_map_or}
use Rattle.std.specs.Str.{bytes_eq}
use Rattle.std.proofs.lemmas.Bool.{eqb-true}
use Rattle.std.proofs.lemmas.List.{take_more}
use Rattle.std.proofs.lemmas.List.Elements.{filter-append}
use Rattle.indexmap.specs.IndexMap.{IndexMap}
use Rattle.cm_attempt.specs.Calls.{Move, Started, StepStarted, StepFinished, Ended, is_end, last_of}
use Rattle.cm_attempt.specs.Worst.{rank}
use Rattle.cm_attempt.specs.declared.status.Status.{Status}
use Rattle.cm_attempt.specs.declared.status.Status.TheVariants as status
use Rattle.cm_envelope.specs.declared.envelope.Envelope.{Envelope}
use Rattle.cm_envelope.specs.declared.envelope.Envelope.TheVariants as envelope
use Rattle.cm_envelope.specs.declared.envelope.TestCase.{TestCase}
use Rattle.cm_envelope.specs.declared.envelope.TestStepFinished.{TestStepFinished}
use Rattle.cm_stream.specs.References.{cases, is_ended, move_of, starts, starts_of}
use Rattle.cm_stream.specs.Texts.{Utf8}
use Rattle.cm_stream.proofs.Lists.{any_found, find_map}
use Rattle.cm_cases.specs.Firsts.{or_else, value_at}
use Rattle.cm_steps.specs.Attempts.{as_finish, finish_status, has_open_attempt, is_quiet, is_status, last_attempt, open_cases, start_facts, start_of, step_finishes, step_with}
use Rattle.cm_steps.specs.Entries.{has_open_in, ids_of, is_open_in, last_in, open_in, step_in}
use Rattle.cm_steps.specs.Kept.{finish_entry, plan_row, start_entry, step_listing_of}
use Rattle.cm_steps.specs.declared.listing.StartEntry.{StartEntry}
use Rattle.cm_steps.specs.declared.listing.StepListing.{StepListing}

-- ---- lists

any_map : {X Y : Type 0} (p : Y → Bool) (f : X → Y) (xs : List X) → list_any p (map f xs) ≡ list_any (λ x. p (f x)) xs
any_map p f [] = refl
any_map p f (x ∷ xs) = ap (λ b. p (f x) || b) (any_map p f xs)

any_same : {X : Type 0} (p q : X → Bool) → ((x : X) → p x ≡ q x) → (xs : List X) → list_any p xs ≡ list_any q xs
any_same p q same [] = refl
any_same p q same (x ∷ xs) = λ j. same x j || any_same p q same xs j

and_yes : (b : Bool) → (b && true) ≡ b
and_yes true = refl
and_yes false = refl

and_no : (b : Bool) → (b && false) ≡ false
and_no true = refl
and_no false = refl

any_kept : {X : Type 0} (p q : X → Bool) (xs : List X) → list_any (λ x. p x && q x) xs ≡ list_any p (filter q xs)
any_kept p q [] = refl
any_kept {X} p q (x ∷ xs) = go (q x) refl (any_kept p q xs)
  where
    go : (b : Bool) → q x ≡ b → list_any (λ z. p z && q z) xs ≡ list_any p (filter q xs) → list_any (λ z. p z && q z) (x ∷ xs) ≡ list_any p (filter q (x ∷ xs))
    go true e rec = rw (e, and_yes (p x), rec) refl
    go false e rec = rw (e, and_no (p x), rec) refl

find_kept : {X : Type 0} (q p : X → Bool) (xs : List X) → find (λ x. q x && p x) xs ≡ find p (filter q xs)
find_kept q p [] = refl
find_kept {X} q p (x ∷ xs) = go (q x) refl (find_kept q p xs)
  where
    go : (b : Bool) → q x ≡ b → find (λ z. q z && p z) xs ≡ find p (filter q xs) → find (λ z. q z && p z) (x ∷ xs) ≡ find p (filter q (x ∷ xs))
    go true e rec = rw (e, rec) refl
    go false e rec = rw (e, rec) refl

-- what passes one test passes the other: the first that passes is among those that pass the other
find_among : {X : Type 0} (p q : X → Bool) → ((x : X) → p x ≡ true → q x ≡ true) → (xs : List X) → find p (filter q xs) ≡ find p xs
find_among p q passes [] = refl
find_among {X} p q passes (x ∷ xs) = go (p x) refl (q x) refl (find_among p q passes xs)
  where
    go : (a : Bool) → p x ≡ a → (b : Bool) → q x ≡ b → find p (filter q xs) ≡ find p xs → find p (filter q (x ∷ xs)) ≡ find p (x ∷ xs)
    go true d true e rec = rw (e, d) refl
    go true d false e rec = let yes = passes x d in let no : true ≡ false = sym yes ∙ e in cc
    go false d true e rec = rw (e, d) rec
    go false d false e rec = rw (e, d) rec

filter_mapped : {X Y : Type 0} (q : Y → Bool) (f : X → Y) (xs : List X) → filter q (map f xs) ≡ map f (filter (λ x. q (f x)) xs)
filter_mapped q f [] = refl
filter_mapped {X} q f (x ∷ xs) = go (q (f x)) refl (filter_mapped q f xs)
  where
    go : (b : Bool) → q (f x) ≡ b → filter q (map f xs) ≡ map f (filter (λ z. q (f z)) xs) → filter q (map f (x ∷ xs)) ≡ map f (filter (λ z. q (f z)) (x ∷ xs))
    go true e rec = rw e (ap (λ zs. f x ∷ zs) rec)
    go false e rec = rw e rec

last_mapped : {X Y Z : Type 0} (g : Y → Z) (f : X → Y) (xs : List X) → option_map g (last_of (map f xs)) ≡ option_map (λ x. g (f x)) (last_of xs)
last_mapped g f [] = refl
last_mapped g f (x ∷ []) = refl
last_mapped g f (x ∷ y ∷ more) = last_mapped g f (y ∷ more)

map_found : {X Y Z : Type 0} (g : Y → Z) (f : X → Y) (o : Option X) → option_map g (option_map f o) ≡ option_map (λ x. g (f x)) o
map_found g f None = refl
map_found g f (Some x) = refl

last_push : {X : Type 0} (xs : List X) (x : X) → last_of (xs ++ x ∷ []) ≡ Some x
last_push [] x = refl
last_push (y ∷ []) x = refl
last_push (y ∷ z ∷ more) x = last_push (z ∷ more) x

-- ---- one element more

take_one : {X : Type 0} (xs : List X) (i : ℕ) (x : X) → i < length xs → x ≡ get_or xs i x → take (i + 1) xs ≡ take i xs ++ x ∷ []
take_one xs i x less at = take_more xs i x less ∙ ap (λ y. take i xs ++ y ∷ []) (sym at)

pub kept_one : {X : Type 0} (q : X → Bool) (xs : List X) (i : ℕ) (x : X) → i < length xs → x ≡ get_or xs i x → q x ≡ true → filter q (take (i + 1) xs) ≡ filter q (take i xs) ++ x ∷ []
kept_one q xs i x less at e =
    let one : filter q (x ∷ []) ≡ x ∷ [] = rw e refl in
    ap (filter q) (take_one xs i x less at) ∙ filter-append q (take i xs) (x ∷ []) ∙ ap (λ ys. filter q (take i xs) ++ ys) one

pub kept_none : {X : Type 0} (q : X → Bool) (xs : List X) (i : ℕ) (x : X) → i < length xs → x ≡ get_or xs i x → q x ≡ false → filter q (take (i + 1) xs) ≡ filter q (take i xs)
kept_none q xs i x less at e =
    let none : filter q (x ∷ []) ≡ [] = rw e refl in
    ap (filter q) (take_one xs i x less at) ∙ filter-append q (take i xs) (x ∷ []) ∙ ap (λ ys. filter q (take i xs) ++ ys) none ∙ append-nil (filter q (take i xs))

pub last_kept : {X : Type 0} (q : X → Bool) (xs : List X) (i : ℕ) (x : X) → i < length xs → x ≡ get_or xs i x → q x ≡ true → last_of (filter q (take (i + 1) xs)) ≡ Some x
last_kept q xs i x less at e = ap last_of (kept_one q xs i x less at e) ∙ last_push (filter q (take i xs)) x

-- ---- attempts that are finished

never_end : (b : Bool) (m : Move) → is_end m ≡ false → option_map_or is_end (if b then Some m else None) false ≡ false
never_end true m e = e
never_end false m e = refl

is_at_end : (b : Bool) → option_map_or is_end (if b then Some Ended else None) false ≡ b
is_at_end true = refl
is_at_end false = refl

end_in : (a : Utf8) (e : Envelope) → option_map_or is_end (move_of a e) false ≡ option_map_or (λ f. bytes_eq a f.test_case_started_id) (as_finish e) false
end_in a (envelope.Source x) = refl
end_in a (envelope.GherkinDocument x) = refl
end_in a (envelope.ParseError x) = refl
end_in a (envelope.Pickle x) = refl
end_in a (envelope.StepDefinition x) = refl
end_in a (envelope.Hook x) = refl
end_in a (envelope.TestCase x) = refl
end_in a (envelope.TestRunStarted x) = refl
end_in a (envelope.TestCaseStarted x) = never_end (bytes_eq a x.id) Started refl
end_in a (envelope.TestStepStarted x) = never_end (bytes_eq a x.test_case_started_id) (StepStarted x.test_step_id) refl
end_in a (envelope.TestStepFinished x) = never_end (bytes_eq a x.test_case_started_id) (StepFinished x.test_step_id) refl
end_in a (envelope.TestCaseFinished x) = is_at_end (bytes_eq a x.test_case_started_id)
end_in a (envelope.TestRunFinished x) = refl
end_in a (envelope.Attachment x) = refl
end_in a (envelope.TestRunHookStarted x) = refl
end_in a (envelope.TestRunHookFinished x) = refl
end_in a envelope.Other = refl

-- an attempt is finished where a `testCaseFinished` names it
pub ended_listed : (a : Utf8) (es : List Envelope) → list_any (bytes_eq a) (step_listing_of es).ends ≡ is_ended a es
ended_listed a es =
    any_map (bytes_eq a) (λ f. f.test_case_started_id) (filter_map as_finish es) ∙ any_found as_finish (λ f. bytes_eq a f.test_case_started_id) es
    ∙ sym (any_same (λ e. option_map_or is_end (move_of a e) false) (λ e. option_map_or (λ f. bytes_eq a f.test_case_started_id) (as_finish e) false) (end_in a) es)
    ∙ sym (any_found (move_of a) is_end es)

open_case : (es : List Envelope) (c : TestCase) → has_open_in (step_listing_of es) c.id ≡ has_open_attempt es c
open_case es c =
    any_map (λ s. is_open_in (step_listing_of es) s && bytes_eq c.id s.case_id) start_entry (starts es)
    ∙ any_kept (λ s. is_open_in (step_listing_of es) (start_entry s)) (λ s. bytes_eq c.id s.test_case_id) (starts es)
    ∙ any_same (λ s. is_open_in (step_listing_of es) (start_entry s)) (λ s. not (is_ended s.id es)) (λ s. ap not (ended_listed s.id es)) (starts_of c.id es)

ids_kept : (cs : List TestCase) → ids_of (map plan_row cs) ≡ map (λ c. c.id) cs
ids_kept [] = refl
ids_kept (c ∷ cs) = ap (λ ids. c.id ∷ ids) (ids_kept cs)

filter_same : {X : Type 0} (p q : X → Bool) → ((x : X) → p x ≡ q x) → (xs : List X) → filter p xs ≡ filter q xs
filter_same p q same [] = refl
filter_same p q same (x ∷ xs) = λ j. if same x j then x ∷ filter_same p q same xs j else filter_same p q same xs j

pub open_listed : (l : StepListing) (es : List Envelope) → l ≡ step_listing_of es → open_in l ≡ open_cases es
open_listed l es is =
    ap open_in is ∙ ap (filter (has_open_in (step_listing_of es))) (ids_kept (cases es)) ∙ filter_mapped (has_open_in (step_listing_of es)) (λ c. c.id) (cases es)
    ∙ ap (map (λ c. c.id)) (filter_same (λ c. has_open_in (step_listing_of es) c.id) (has_open_attempt es) (open_case es) (cases es))

-- the test cases that are in a map of those with an open attempt
pub open_by : {V W S T : Type 0} (l : StepListing) (ended : IndexMap (Bor Utf8) V S) (opened : IndexMap (Bor Utf8) W T) (ss : List StartEntry) → ss ≡ l.starts → ((id : Utf8) → is_some (value_at ended id) ≡ list_any (bytes_eq id) l.ends)
    → ((case : Utf8) → is_some (value_at opened case) ≡ list_any (λ s. not (is_some (value_at ended s.id)) && bytes_eq case s.case_id) ss)
    → filter (λ id. is_some (value_at opened id)) (ids_of l.plans) ≡ open_in l
open_by l ended opened ss is ended_is opens =
    let open_is : (case : Utf8) → is_some (value_at opened case) ≡ has_open_in l case = λ case. opens case ∙ (λ j. list_any (λ s. not (ended_is s.id j) && bytes_eq case s.case_id) (is j)) in
    filter_same (λ id. is_some (value_at opened id)) (has_open_in l) open_is (ids_of l.plans)

-- one id more in a map
one_asked : {V : Type 0} (o : Option V) (b : Bool) (v : V) → is_some (or_else o (if b then Some v else None)) ≡ (is_some o || b)
one_asked None true v = refl
one_asked None false v = refl
one_asked (Some w) true v = refl
one_asked (Some w) false v = refl

or_again : (a b c : Bool) → ((a || b) || c) ≡ (a || (b || c))
or_again true b c = refl
or_again false b c = refl

pub one_ended : {V S : Type 0} (old new : IndexMap (Bor Utf8) V S) (text : Utf8) (v : V) (rest : List Utf8) (id : Utf8) → value_at new id ≡ or_else (value_at old id) (if bytes_eq id text then Some v else None)
    → (is_some (value_at new id) || list_any (bytes_eq id) rest) ≡ (is_some (value_at old id) || list_any (bytes_eq id) (text ∷ rest))
one_ended {V} old new text v rest id e =
    ap (λ (o : Option V). is_some o || list_any (bytes_eq id) rest) e ∙ ap (λ b. b || list_any (bytes_eq id) rest) (one_asked (value_at old id) (bytes_eq id text) v)
    ∙ or_again (is_some (value_at old id)) (bytes_eq id text) (list_any (bytes_eq id) rest)

pub open_given : {V E : Type 0} (r : Result V E) (names : V → List Utf8) (l : StepListing) (given : List Utf8) → IfOk r (λ v. names v ≡ given) → given ≡ open_in l → IfOk r (λ v. (es : List Envelope) → l ≡ step_listing_of es → names v ≡ open_cases es)
open_given (Ok v) names l given h e = λ es is. h ∙ e ∙ open_listed l es is
open_given (Err x) names l given h e = h

-- ---- the start, the last attempt, and the step with a status

start_listed : (l : StepListing) (es : List Envelope) (attempt : Utf8) → l ≡ step_listing_of es → find (λ s. bytes_eq attempt s.id) l.starts ≡ option_map start_entry (start_of attempt es)
start_listed l es attempt is = ap (λ (k : StepListing). find (λ s. bytes_eq attempt s.id) k.starts) is ∙ find_map (λ s. bytes_eq attempt s.id) start_entry (starts es)

abbrev entry_facts : StartEntry → Utf8 × ℕ
entry_facts s = (s.case_id, s.number)

-- the case and the number of what is found
pub facts_listed : (l : StepListing) (es : List Envelope) (attempt : Utf8) (o : Option StartEntry) → l ≡ step_listing_of es → o ≡ find (λ s. bytes_eq attempt s.id) l.starts → option_map entry_facts o ≡ option_map start_facts (start_of attempt es)
facts_listed l es attempt o is found = ap (option_map entry_facts) (found ∙ start_listed l es attempt is) ∙ map_found entry_facts start_entry (start_of attempt es)

pub last_listed : (l : StepListing) (es : List Envelope) (case : Utf8) → l ≡ step_listing_of es → last_in l case ≡ last_attempt case es
last_listed l es case is =
    ap (λ (k : StepListing). last_in k case) is ∙ ap (λ (ss : List StartEntry). option_map (λ s. s.id) (last_of ss)) (filter_mapped (λ s. bytes_eq case s.case_id) start_entry (starts es))
    ∙ last_mapped (λ s. s.id) start_entry (starts_of case es)

abbrev quiet_rank : ℕ → Bool
quiet_rank n = (n == 1) || (n == 2)

quiet_by : (s : Status) → is_quiet s ≡ quiet_rank (rank s)
quiet_by status.Unknown = refl
quiet_by status.Passed = refl
quiet_by status.Skipped = refl
quiet_by status.Pending = refl
quiet_by status.Undefined = refl
quiet_by status.Ambiguous = refl
quiet_by status.Failed = refl

stays_loud : (a b : Status) → is_quiet a ≡ false → is_status a b ≡ true → not (is_quiet b) ≡ true
stays_loud a b loud same = ap not (quiet_by b ∙ ap quiet_rank (sym (eqb-true (rank a) (rank b) same)) ∙ sym (quiet_by a) ∙ loud)

second : (a b : Bool) → (a && b) ≡ true → b ≡ true
second true b h = h
second false b h = cc

pub step_listed : (l : StepListing) (es : List Envelope) (attempt : Utf8) (s : Status) → l ≡ step_listing_of es → is_quiet s ≡ false → step_in l attempt s ≡ step_with attempt s es
step_listed l es attempt s is loud =
    let among = λ (f : TestStepFinished). bytes_eq attempt f.test_case_started_id && is_status s (finish_status f) in
    let told = λ (f : TestStepFinished). not (is_quiet (finish_status f)) in
    ap (λ (k : StepListing). step_in k attempt s) is
    ∙ ap (option_map (λ f. f.step)) (find_map (λ f. bytes_eq attempt f.attempt && is_status s f.status) finish_entry (filter told (step_finishes es)))
    ∙ map_found (λ f. f.step) finish_entry (find among (filter told (step_finishes es)))
    ∙ ap (option_map (λ f. f.test_step_id))
    (find_among among told (λ f h. stays_loud s (finish_status f) loud (second (bytes_eq attempt f.test_case_started_id) (is_status s (finish_status f)) h)) (step_finishes es)
    ∙ find_kept (λ f. bytes_eq attempt f.test_case_started_id) (λ f. is_status s (finish_status f)) (step_finishes es))
