-- What is counted of what is kept of a good stream is what is counted of its envelopes.
use Rattle.std.proofs.Common.{◌≡◌, ◌∙◌, ap, sym, refl, ◌+◌, Bool, true, false, cond, List, [], ◌∷◌, ◌++◌, ◌&&◌, ◌||◌, append_assoc, length, map, not, Option, None, Some, add-zero, ⊎_elim}
use Rattle.std.specs.Prelude.{count_by, find, if◌then◌else◌, nat_lt, option_map}
use Rattle.std.specs.List.{filter, filter_map, flat_map, list_any}
use Rattle.std.specs.Option.{option_and_then, option_map_or}
use Rattle.std.specs.Str.{bytes_eq}
use Rattle.std.proofs.lemmas.Bool.{cases_Bool}
use Rattle.std.proofs.lemmas.List.{length-map}
use Rattle.std.proofs.lemmas.List.Folds.{flat_map-map, list_any-append}
use Rattle.std.proofs.lemmas.List.Sums.{length-filter, sum_by-append, sum_by-cons}
use Rattle.cm_attempt.specs.Calls.{last_of}
use Rattle.cm_attempt.specs.Table.{has_repeat, has_text, passes_pending}
use Rattle.cm_attempt.specs.declared.status.Policy.{Policy}
use Rattle.cm_attempt.specs.declared.status.Status as kept
use Rattle.cm_attempt.specs.declared.status.Settings.{Settings}
use Rattle.cm_envelope.specs.declared.envelope.Envelope.{Envelope}
use Rattle.cm_envelope.specs.declared.envelope.Envelope.TheVariants as envelope
use Rattle.cm_envelope.specs.declared.envelope.Status.{Status}
use Rattle.cm_envelope.specs.declared.envelope.Status.TheVariants as status
use Rattle.cm_envelope.specs.declared.envelope.TestCase.{TestCase}
use Rattle.cm_envelope.specs.declared.envelope.TestCaseStarted.{TestCaseStarted}
use Rattle.cm_envelope.specs.declared.envelope.TestStep.{TestStep}
use Rattle.cm_envelope.specs.declared.envelope.TestStepFinished.{TestStepFinished}
use Rattle.cm_envelope.specs.declared.pickle.Pickle.{Pickle}
use Rattle.cm_envelope.specs.declared.pickle.PickleTag.{PickleTag}
use Rattle.cm_stream.specs.Good.{Good, Sound, has_same_names}
use Rattle.cm_stream.specs.References.{Attempt, Case, Name, Step, as_case, as_start, cases, declares, find_case, find_pickle, if_any, pickles, same_name, starts, starts_of, status_in, statuses, times_declared}
use Rattle.cm_stream.specs.Release.{Conditions, attempts_of, has_skip, has_tag, is_attempt_of, is_missed, is_named, is_passing, is_retried_pickle, is_skipped, is_stepless, is_unmatched, may_stay_unrun, passes_unmatched, release_counts_of, test_step_of}
use Rattle.cm_stream.specs.Statuses.{kept_status}
use Rattle.cm_stream.specs.Texts.{Utf8}
use Rattle.cm_stream.proofs.Declared.{case_is, declarer, declares_attempt, declares_case, same_any, start_is}
use Rattle.cm_stream.proofs.Found.{bytes_are, bytes_same, eq_back, still_found}
use Rattle.cm_stream.proofs.Lists.{any_front, find_map, map_twice, or_false, or_no}
use Rattle.cm_stream.proofs.Refuted.{declared_append, names_after}
use Rattle.cm_release.specs.Counts.{attempts_in, case_in, case_of_attempt, counts_in, has_skip_in, is_attempt_in, is_end_in, is_missed_in, is_retried_in, is_stepless_in, is_undefined_in, last_start, may_stay, missed_in, passes_undefined_in, retried_in, skipped_in, stepless_in, steps_passing, undefined_steps_in}
use Rattle.cm_release.specs.Kept.{all_unmatched, case_entry, finish_after, finish_among, finish_entry, finishes_from, kept_of, pickle_entry, skip_of, skips_in, start_entry, unmatched_ids}
use Rattle.cm_release.specs.declared.tally.CaseEntry.{CaseEntry}
use Rattle.cm_release.specs.declared.tally.FinishEntry.{FinishEntry}
use Rattle.cm_release.specs.declared.tally.PickleEntry.{PickleEntry}
use Rattle.cm_release.specs.declared.tally.StartEntry.{StartEntry}
use Rattle.cm_release.proofs.CountLemmas.{any_map, or_of_map, same_count, same_picked}
use Rattle.cm_reasons.specs.Reasons.{is_end_of, is_undefined_step, missed_pickles, retried_pickles, skipped_cases, stepless_cases, undefined_steps, undefined_steps_of}

count_map : {X Y : Type 0} (q : Y → Bool) (f : X → Y) (xs : List X) → count_by q (map f xs) ≡ count_by (λ x. q (f x)) xs
count_map q f [] = refl
count_map q f (x ∷ xs) =
    sum_by-cons (λ y. cond (q y) 1 0) (f x) (map f xs) ∙ ap (λ n. cond (q (f x)) 1 0 + n) (count_map q f xs) ∙ sym (sum_by-cons (λ y. cond (q (f y)) 1 0) x xs)

filter_of_map : {X Y : Type 0} (q : Y → Bool) (f : X → Y) (xs : List X) → filter q (map f xs) ≡ map f (filter (λ x. q (f x)) xs)
filter_of_map q f [] = refl
filter_of_map {X} q f (x ∷ xs) = ⊎_elim (λ yes. rw yes (ap (λ l. f x ∷ l) (filter_of_map q f xs))) (λ no. rw no (filter_of_map q f xs)) (cases_Bool (q (f x)))

-- what of values passes a test, of what they are made of
picked_map : {X Y Z : Type 0} (g : Y → Z) (q : Y → Bool) (f : X → Y) (xs : List X) → map g (filter q (map f xs)) ≡ map (λ x. g (f x)) (filter (λ x. q (f x)) xs)
picked_map g q f xs = ap (map g) (filter_of_map q f xs) ∙ map_twice g f (filter (λ x. q (f x)) xs)

picked_count : {X Y : Type 0} (g : X → Y) (p : X → Bool) (xs : List X) → length (map g (filter p xs)) ≡ count_by p xs
picked_count g p xs = length-map (filter p xs) g ∙ length-filter p xs

-- ---- missed

named_same : (es : List Envelope) (p : Pickle) → list_any (λ c. bytes_eq p.id c.pickle_id) (map case_entry (cases es)) ≡ is_named es p
named_same es p = any_map (λ (c : CaseEntry). bytes_eq p.id c.pickle_id) case_entry (cases es)

may_same : (asked : Conditions) (p : Pickle) → may_stay asked (pickle_entry p) ≡ may_stay_unrun asked p
may_same asked p =
    ap (λ b. asked.allows_unrun || b)
    (same_any (λ tag. list_any (bytes_eq tag) (map (λ (t : PickleTag). t.name) p.tags)) (has_tag p) (λ tag. any_map (bytes_eq tag) (λ (t : PickleTag). t.name) p.tags) asked.allowed_tags)

pub missed_same : (asked : Conditions) (es : List Envelope) → missed_in asked (kept_of es) ≡ missed_pickles asked es
missed_same asked es =
    picked_map (λ (p : PickleEntry). p.id) (is_missed_in asked (kept_of es)) pickle_entry (pickles es)
    ∙ same_picked (λ (p : Pickle). p.id) (λ p. is_missed_in asked (kept_of es) (pickle_entry p)) (is_missed asked es) (λ p. λ j. not asked.is_part && not (named_same es p j) && not (may_same asked p j)) (pickles es)

-- ---- retried

attempt_same : (es : List Envelope) (p : Pickle) (s : TestCaseStarted) → is_attempt_in (map case_entry (cases es)) p.id (start_entry s) ≡ is_attempt_of es p s
attempt_same es p s =
    ap (λ (o : Option CaseEntry). option_map_or (λ c. bytes_eq p.id c.pickle_id) o false) (find_map (λ (c : CaseEntry). bytes_eq s.test_case_id c.id) case_entry (cases es))
    ∙ sym (or_of_map (λ (c : CaseEntry). bytes_eq p.id c.pickle_id) case_entry (find_case s.test_case_id es) false)

attempts_same : (es : List Envelope) (p : Pickle) → attempts_in (map case_entry (cases es)) p.id (map start_entry (starts es)) ≡ length (attempts_of es p)
attempts_same es p =
    count_map (is_attempt_in (map case_entry (cases es)) p.id) start_entry (starts es)
    ∙ same_count (λ s. is_attempt_in (map case_entry (cases es)) p.id (start_entry s)) (is_attempt_of es p) (attempt_same es p) (starts es)
    ∙ sym (length-filter (is_attempt_of es p) (starts es))

pub retried_same : (es : List Envelope) → retried_in (kept_of es) ≡ retried_pickles es
retried_same es =
    picked_map (λ (p : PickleEntry). p.id) (is_retried_in (kept_of es)) pickle_entry (pickles es)
    ∙ same_picked (λ (p : Pickle). p.id) (λ p. is_retried_in (kept_of es) (pickle_entry p)) (is_retried_pickle es) (λ p. ap (nat_lt 1) (attempts_same es p)) (pickles es)

-- ---- skipped

last_map : {X Y : Type 0} (f : X → Y) (xs : List X) → last_of (map f xs) ≡ option_map f (last_of xs)
last_map f [] = refl
last_map f (x ∷ []) = refl
last_map f (x ∷ y ∷ more) = last_map f (y ∷ more)

last_same : (es : List Envelope) (c : TestCase) → last_start (map start_entry (starts es)) c.id ≡ option_map start_entry (last_of (starts_of c.id es))
last_same es c = ap last_of (filter_of_map (λ (s : StartEntry). bytes_eq c.id s.case_id) start_entry (starts es)) ∙ last_map start_entry (starts_of c.id es)

found_first : {X Y : Type 0} (h : X → Option Y) (x : X) (xs : List X) → filter_map h (x ∷ xs) ≡ if_any (h x) ++ filter_map h xs
found_first {X} {Y} h x xs = go (h x) refl
  where
    go : (o : Option Y) → h x ≡ o → filter_map h (x ∷ xs) ≡ if_any (h x) ++ filter_map h xs
    go None e = rw e refl
    go (Some y) e = rw e refl

skip_or_not : (b : Bool) (s : kept.Status) (rest : Bool) (ys : List kept.Status) → rest ≡ list_any is_skipped ys → is_skipped s ≡ false → rest ≡ list_any is_skipped (if_any (if b then Some s else None) ++ ys)
skip_or_not true s rest ys h e = h ∙ rw e refl
skip_or_not false s rest ys h e = h

skip_said : (b : Bool) (rest : Bool) (ys : List kept.Status) (s : kept.Status) → rest ≡ list_any is_skipped ys → is_skipped s ≡ true → (b || rest) ≡ list_any is_skipped (if_any (if b then Some s else None) ++ ys)
skip_said true rest ys s h e = rw e refl
skip_said false rest ys s h e = h

skip_same : (a : Utf8) (f : TestStepFinished) (s : Status) (xs : List Utf8) (ys : List kept.Status) → list_any (bytes_eq a) xs ≡ list_any is_skipped ys
    → list_any (bytes_eq a) (skip_of f s ++ xs) ≡ list_any is_skipped (if_any (if bytes_eq a f.test_case_started_id then Some (kept_status s) else None) ++ ys)
skip_same a f status.Skipped xs ys h = skip_said (bytes_eq a f.test_case_started_id) (list_any (bytes_eq a) xs) ys (kept_status status.Skipped) h refl
skip_same a f status.Passed xs ys h = skip_or_not (bytes_eq a f.test_case_started_id) (kept_status status.Passed) (list_any (bytes_eq a) xs) ys h refl
skip_same a f status.Pending xs ys h = skip_or_not (bytes_eq a f.test_case_started_id) (kept_status status.Pending) (list_any (bytes_eq a) xs) ys h refl
skip_same a f status.Unknown xs ys h = skip_or_not (bytes_eq a f.test_case_started_id) (kept_status status.Unknown) (list_any (bytes_eq a) xs) ys h refl
skip_same a f status.Undefined xs ys h = skip_or_not (bytes_eq a f.test_case_started_id) (kept_status status.Undefined) (list_any (bytes_eq a) xs) ys h refl
skip_same a f status.Ambiguous xs ys h = skip_or_not (bytes_eq a f.test_case_started_id) (kept_status status.Ambiguous) (list_any (bytes_eq a) xs) ys h refl
skip_same a f status.Failed xs ys h = skip_or_not (bytes_eq a f.test_case_started_id) (kept_status status.Failed) (list_any (bytes_eq a) xs) ys h refl

skips_same : (a : Utf8) (es : List Envelope) → list_any (bytes_eq a) (flat_map skips_in es) ≡ list_any is_skipped (statuses a es)
skips_same a [] = refl
skips_same a (envelope.TestStepFinished f ∷ es) =
    skip_same a f f.test_step_result.status (flat_map skips_in es) (statuses a es) (skips_same a es)
    ∙ ap (list_any is_skipped) (sym (found_first (status_in a) (envelope.TestStepFinished f) es))
skips_same a (envelope.Pickle x ∷ es) = skips_same a es
skips_same a (envelope.TestCase x ∷ es) = skips_same a es
skips_same a (envelope.TestCaseStarted x ∷ es) = skips_same a es
skips_same a (envelope.Source x ∷ es) = skips_same a es
skips_same a (envelope.GherkinDocument x ∷ es) = skips_same a es
skips_same a (envelope.ParseError x ∷ es) = skips_same a es
skips_same a (envelope.StepDefinition x ∷ es) = skips_same a es
skips_same a (envelope.Hook x ∷ es) = skips_same a es
skips_same a (envelope.TestRunStarted x ∷ es) = skips_same a es
skips_same a (envelope.TestStepStarted x ∷ es) = skips_same a es
skips_same a (envelope.TestCaseFinished x ∷ es) = skips_same a es
skips_same a (envelope.TestRunFinished x ∷ es) = skips_same a es
skips_same a (envelope.Attachment x ∷ es) = skips_same a es
skips_same a (envelope.TestRunHookStarted x ∷ es) = skips_same a es
skips_same a (envelope.TestRunHookFinished x ∷ es) = skips_same a es
skips_same a (envelope.Other ∷ es) = skips_same a es

or_same : {X Y : Type 0} (f g : X → Y) → ((x : X) → f x ≡ g x) → (o : Option X) (d : Y) → option_map_or f o d ≡ option_map_or g o d
or_same f g h None d = refl
or_same f g h (Some x) d = h x

skip_of_case : (es : List Envelope) (c : TestCase) → has_skip_in (kept_of es) (case_entry c) ≡ has_skip es c
skip_of_case es c =
    ap (λ o. option_map_or (λ (s : StartEntry). list_any (bytes_eq s.id) (flat_map skips_in es)) o false) (last_same es c)
    ∙ sym (or_of_map (λ (s : StartEntry). list_any (bytes_eq s.id) (flat_map skips_in es)) start_entry (last_of (starts_of c.id es)) false)
    ∙ or_same (λ (s : TestCaseStarted). list_any (bytes_eq s.id) (flat_map skips_in es)) (λ s. list_any is_skipped (statuses s.id es)) (λ s. skips_same s.id es) (last_of (starts_of c.id es)) false

pub skipped_same : (es : List Envelope) → skipped_in (kept_of es) ≡ skipped_cases es
skipped_same es =
    picked_map (λ (c : CaseEntry). c.id) (has_skip_in (kept_of es)) case_entry (cases es)
    ∙ same_picked (λ (c : TestCase). c.id) (λ c. has_skip_in (kept_of es) (case_entry c)) (has_skip es) (skip_of_case es) (cases es)

-- ---- stepless

stepless_case : (es : List Envelope) (c : TestCase) → is_stepless_in (kept_of es) (case_entry c) ≡ is_stepless es c
stepless_case es c =
    ap (λ (o : Option PickleEntry). option_map_or (λ p. p.is_stepless) o false) (find_map (λ (p : PickleEntry). bytes_eq c.pickle_id p.id) pickle_entry (pickles es))
    ∙ sym (or_of_map (λ (p : PickleEntry). p.is_stepless) pickle_entry (find_pickle c.pickle_id es) false)

pub stepless_same : (es : List Envelope) → stepless_in (kept_of es) ≡ stepless_cases es
stepless_same es =
    picked_map (λ (c : CaseEntry). c.id) (is_stepless_in (kept_of es)) case_entry (cases es)
    ∙ same_picked (λ (c : TestCase). c.id) (λ c. is_stepless_in (kept_of es) (case_entry c)) (is_stepless es) (stepless_case es) (cases es)

-- ---- undefined: the unmatched steps of a case whose steps have distinct ids

none_filtered : {X : Type 0} (q : Utf8 → Bool) (g : X → Utf8) (p : X → Bool) (xs : List X) → list_any q (map g xs) ≡ false → list_any q (map g (filter p xs)) ≡ false
none_filtered q g p [] h = refl
none_filtered {X} q g p (x ∷ xs) h = go (p x) refl (or_false (q (g x)) (list_any q (map g xs)) h).0 (none_filtered q g p xs (or_false (q (g x)) (list_any q (map g xs)) h).1)
  where
    go : (b : Bool) → p x ≡ b → q (g x) ≡ false → list_any q (map g (filter p xs)) ≡ false → list_any q (map g (filter p (x ∷ xs))) ≡ false
    go true e out rec = ap (λ b. list_any q (map g (cond b (x ∷ filter p xs) (filter p xs)))) e ∙ (λ j. out j || rec j)
    go false e out rec = ap (λ b. list_any q (map g (cond b (x ∷ filter p xs) (filter p xs)))) e ∙ rec

one_step : (step : Utf8) (t : TestStep) (ts : List TestStep) (b u : Bool) → bytes_eq step t.id ≡ b → is_unmatched t ≡ u
    → (b ≡ true → list_any (bytes_eq step) (unmatched_ids ts) ≡ false)
    → list_any (bytes_eq step) (unmatched_ids ts) ≡ option_map_or is_unmatched (find (λ x. bytes_eq step x.id) ts) false
    → list_any (bytes_eq step) (map (λ x. x.id) (cond u (t ∷ filter is_unmatched ts) (filter is_unmatched ts))) ≡ option_map_or is_unmatched (if b then Some t else find (λ x. bytes_eq step x.id) ts) false
one_step step t ts true true e k out rest = ap (λ b. b || list_any (bytes_eq step) (unmatched_ids ts)) e ∙ sym k
one_step step t ts true false e k out rest = out refl ∙ sym k
one_step step t ts false true e k out rest = ap (λ b. b || list_any (bytes_eq step) (unmatched_ids ts)) e ∙ rest
one_step step t ts false false e k out rest = rest

found_cons : {X : Type 0} (p : X → Bool) (x : X) (xs : List X) → find p (x ∷ xs) ≡ (if p x then Some x else find p xs)
found_cons p x xs = ⊎_elim (λ yes. rw yes refl) (λ no. rw no refl) (cases_Bool (p x))

unmatched_found : (step : Utf8) (ts : List TestStep) → has_repeat (map (λ t. t.id) ts) ≡ false → list_any (bytes_eq step) (unmatched_ids ts) ≡ option_map_or is_unmatched (find (λ t. bytes_eq step t.id) ts) false
unmatched_found step [] h = refl
unmatched_found step (t ∷ ts) h =
    let parts = or_false (has_text t.id (map (λ (x : TestStep). x.id) ts)) (has_repeat (map (λ (x : TestStep). x.id) ts)) h in
    one_step step t ts (bytes_eq step t.id) (is_unmatched t) refl refl
    (λ e. none_filtered (bytes_eq step) (λ (x : TestStep). x.id) is_unmatched ts (ap (λ s. has_text s (map (λ (x : TestStep). x.id) ts)) (bytes_are step t.id e) ∙ parts.0))
    (unmatched_found step ts parts.1)
    ∙ ap (λ (o : Option TestStep). option_map_or is_unmatched o false) (sym (found_cons (λ (x : TestStep). bytes_eq step x.id) t ts))

-- ---- undefined: the case of a step that ends

names_before : (ns ms : List Name) → has_same_names (ns ++ ms) ≡ false → has_same_names ns ≡ false
names_before [] ms h = refl
names_before (n ∷ ns) ms h =
    let k = or_false _ _ h in
    rw (any_front (λ later. same_name later n) ns ms k.0, names_before ns ms k.1) refl

same_later : (id x : Utf8) (ss : List TestStep) → list_any (λ later. same_name later (Step id x)) (map (λ s. Step id s.id) ss) ≡ has_text x (map (λ s. s.id) ss)
same_later id x [] = refl
same_later id x (s ∷ ss) = rw (bytes_same id, same_later id x ss, eq_back s.id x) refl

same_repeat : (id : Utf8) (ss : List TestStep) → has_same_names (map (λ s. Step id s.id) ss) ≡ has_repeat (map (λ s. s.id) ss)
same_repeat id [] = refl
same_repeat id (s ∷ ss) = rw (same_later id s.id ss, same_repeat id ss) refl

steps_distinct : (es front : List Envelope) (c : TestCase) (back : List Envelope) → has_same_names (flat_map declares es) ≡ false → es ≡ front ++ envelope.TestCase c ∷ back → has_repeat (map (λ s. s.id) c.test_steps) ≡ false
steps_distinct es front c back h cut =
    let e = envelope.TestCase c in
    let all : has_same_names (flat_map declares front ++ (declares e ++ flat_map declares back)) ≡ false = sym (ap has_same_names (ap (flat_map declares) cut ∙ declared_append front (e ∷ back))) ∙ h in
    let own : has_same_names (declares e) ≡ false = names_before (declares e) (flat_map declares back) (names_after (flat_map declares front) (declares e ++ flat_map declares back) all) in
    sym (same_repeat c.id c.test_steps) ∙ (or_false _ _ own).1

-- The attempt is one that was started before, of a case that was declared before, whose steps have distinct ids.
record HasCase (es before : List Envelope) (a : Utf8) : Type 0 where
  start : TestCaseStarted
  found : find (λ s. bytes_eq a s.id) (starts es) ≡ Some start
  test_case : TestCase
  in_all : find_case start.test_case_id es ≡ Some test_case
  in_before : find_case start.test_case_id before ≡ Some test_case
  distinct : has_repeat (map (λ s. s.id) test_case.test_steps) ≡ false

-- a list that is cut at an element, and before it at another
cut_before : {X : Type 0} (es before front : List X) (here e x : X) (back after : List X) → es ≡ before ++ e ∷ after → before ≡ front ++ here ∷ back → here ≡ x → es ≡ front ++ x ∷ (back ++ e ∷ after)
cut_before es before front here e x back after cut earlier is =
    cut ∙ ap (λ xs. xs ++ e ∷ after) earlier ∙ append_assoc front (here ∷ back) (e ∷ after) ∙ ap (λ y. front ++ y ∷ (back ++ e ∷ after)) is

found_later : {X Y : Type 0} (h : X → Option Y) (p : Y → Bool) (es xs ys : List X) (y : Y) → es ≡ xs ++ ys → find p (filter_map h xs) ≡ Some y → find p (filter_map h es) ≡ Some y
found_later h p es xs ys y cut found = ap (λ zs. find p (filter_map h zs)) cut ∙ still_found h p xs ys y found

has_case : (es before : List Envelope) (e : Envelope) (after : List Envelope) → Sound es → es ≡ before ++ e ∷ after → (a : Utf8) → times_declared (Attempt a) before ≡ 1 → HasCase es before a
has_case es before e after good cut a one =
    let at = declarer (Attempt a) as_start (λ x. bytes_eq a x.id) (declares_attempt a) before one in
    let its_cut = cut_before es before at.front at.here e (envelope.TestCaseStarted at.value) at.back after cut at.cut (start_is at.here at.value at.is) in
    let id = at.value.test_case_id in
    let known = declarer (Case id) as_case (λ x. bytes_eq id x.id) (declares_case id) at.front (good.references at.front (envelope.TestCaseStarted at.value) (at.back ++ e ∷ after) its_cut).0 in
    let case_cut = cut_before es at.front known.front known.here (envelope.TestCaseStarted at.value) (envelope.TestCase known.value) known.back (at.back ++ e ∷ after) its_cut known.cut (case_is known.here known.value known.is) in
    record {
      start = at.value;
      found = found_later as_start (λ x. bytes_eq a x.id) es before (e ∷ after) at.value cut at.found;
      test_case = known.value;
      in_all = found_later as_case (λ x. bytes_eq id x.id) es at.front (envelope.TestCaseStarted at.value ∷ (at.back ++ e ∷ after)) known.value its_cut known.found;
      in_before = found_later as_case (λ x. bytes_eq id x.id) before at.front (at.here ∷ at.back) known.value at.cut known.found;
      distinct = steps_distinct es known.front known.value (known.back ++ envelope.TestCaseStarted at.value ∷ (at.back ++ e ∷ after)) good.distinct case_cut;
    }

-- ---- undefined: a step that ends

-- whether the step is an unmatched one of its attempt's case, by the envelopes and by what is kept
abbrev of_envelopes : List Envelope → TestStepFinished → Bool
of_envelopes es f = option_map_or is_unmatched (test_step_of f.test_case_started_id f.test_step_id es) false

abbrev of_kept : List Envelope → TestStepFinished → Bool
of_kept es f = option_map_or (λ c. list_any (bytes_eq f.test_step_id) c.unmatched) (case_of_attempt (kept_of es) f.test_case_started_id) false

kept_case : (es : List Envelope) (id : Utf8) (c : TestCase) → find_case id es ≡ Some c → case_in (map case_entry (cases es)) id ≡ Some (case_entry c)
kept_case es id c found = find_map (λ (x : CaseEntry). bytes_eq id x.id) case_entry (cases es) ∙ ap (option_map case_entry) found

or_yes : (b : Bool) → (b || true) ≡ true
or_yes true = refl
or_yes false = refl

any_flat : {X Y : Type 0} (p : Y → Bool) (g : X → List Y) (q : X → Bool) (xs : List X) (x : X) → find q xs ≡ Some x → list_any p (g x) ≡ true → list_any p (flat_map g xs) ≡ true
any_flat p g q [] x found some = cc
any_flat {X} {Y} p g q (y ∷ ys) x found some = list_any-append p (g y) (flat_map g ys) ∙ go (q y) refl (λ later. any_flat p g q ys x later some)
  where
    go : (b : Bool) → q y ≡ b → (find q ys ≡ Some x → list_any p (flat_map g ys) ≡ true) → (list_any p (g y) || list_any p (flat_map g ys)) ≡ true
    go true e rec =
        let here : Some y ≡ Some x = rw e at found in
        let same : y ≡ x = cc in
        ap (λ z. list_any p (g z) || list_any p (flat_map g ys)) same ∙ ap (λ b. b || list_any p (flat_map g ys)) some
    go false e rec = ap (λ b. list_any p (g y) || b) (rec (rw e at found)) ∙ or_yes (list_any p (g y))

module _ (es before : List Envelope) (f : TestStepFinished) (has : HasCase es before f.test_case_started_id) where
  kept_start : find (λ s. bytes_eq f.test_case_started_id s.id) (map start_entry (starts es)) ≡ Some (start_entry has.start)
  kept_start = find_map (λ (s : StartEntry). bytes_eq f.test_case_started_id s.id) start_entry (starts es) ∙ ap (option_map start_entry) has.found

  by_kept : of_kept es f ≡ list_any (bytes_eq f.test_step_id) (unmatched_ids has.test_case.test_steps)
  by_kept =
      ap (λ o. option_map_or (λ (c : CaseEntry). list_any (bytes_eq f.test_step_id) c.unmatched) (option_and_then (λ (s : StartEntry). case_in (map case_entry (cases es)) s.case_id) o) false) kept_start
      ∙ ap (λ o. option_map_or (λ (c : CaseEntry). list_any (bytes_eq f.test_step_id) c.unmatched) o false) (kept_case es has.start.test_case_id has.test_case has.in_all)

  by_envelopes : of_envelopes es f ≡ option_map_or is_unmatched (find (λ t. bytes_eq f.test_step_id t.id) has.test_case.test_steps) false
  by_envelopes =
      ap (λ (o : Option TestCaseStarted). option_map_or is_unmatched (option_and_then (λ (c : TestCase). find (λ t. bytes_eq f.test_step_id t.id) c.test_steps) (option_and_then (λ id. find_case id es) (option_map (λ s. s.test_case_id) o))) false) has.found
      ∙ ap (λ (o : Option TestCase). option_map_or is_unmatched (option_and_then (λ (c : TestCase). find (λ t. bytes_eq f.test_step_id t.id) c.test_steps) o) false) has.in_all

  same_step : of_kept es f ≡ of_envelopes es f
  same_step = by_kept ∙ unmatched_found f.test_step_id has.test_case.test_steps has.distinct ∙ sym by_envelopes

  -- its id is one that was kept before
  id_before : of_envelopes es f ≡ true → has_text f.test_step_id (all_unmatched (map case_entry (cases before))) ≡ true
  id_before h = any_flat (bytes_eq f.test_step_id) (λ (c : CaseEntry). c.unmatched) (λ (c : CaseEntry). bytes_eq has.start.test_case_id c.id) (map case_entry (cases before)) (case_entry has.test_case) (kept_case before has.start.test_case_id has.test_case has.in_before) (sym by_kept ∙ same_step ∙ h)

-- ---- undefined: counted

one_counted : {X : Type 0} (q : X → Bool) (x : X) (here said : Bool) → q x ≡ said → (said ≡ true → here ≡ true) → count_by q (if here then x ∷ [] else []) ≡ cond said 1 0
one_counted q x true said e h = sum_by-cons (λ y. cond (q y) 1 0) x [] ∙ add-zero (cond (q x) 1 0) ∙ ap (λ b. cond b 1 0) e
one_counted q x false true e h = let no_way : false ≡ true = h refl in cc
one_counted q x false false e h = refl

and_second : (a b : Bool) → (a && b) ≡ true → b ≡ true
and_second true b h = h
and_second false b h = cc

module _ (policy : Policy) (es : List Envelope) (good : Sound es) where
  finish_counted : (before : List Envelope) (f : TestStepFinished) → HasCase es before f.test_case_started_id → (s : Status)
      → count_by (is_undefined_in policy (kept_of es)) (finish_among (all_unmatched (map case_entry (cases before))) f s) ≡ cond (is_passing policy (kept_status s) && of_envelopes es f) 1 0
  finish_counted before f has status.Passed =
      one_counted (is_undefined_in policy (kept_of es)) (finish_entry f false) (has_text f.test_step_id (all_unmatched (map case_entry (cases before)))) (of_envelopes es f) (same_step es before f has) (id_before es before f has)
  finish_counted before f has status.Pending =
      one_counted (is_undefined_in policy (kept_of es)) (finish_entry f true) (has_text f.test_step_id (all_unmatched (map case_entry (cases before)))) (passes_pending policy && of_envelopes es f)
      (ap (λ b. passes_pending policy && b) (same_step es before f has)) (λ h. id_before es before f has (and_second (passes_pending policy) (of_envelopes es f) h))
  finish_counted before f has status.Unknown = refl
  finish_counted before f has status.Skipped = refl
  finish_counted before f has status.Undefined = refl
  finish_counted before f has status.Ambiguous = refl
  finish_counted before f has status.Failed = refl

  one_more : (before : List Envelope) (e : Envelope) (after : List Envelope) → es ≡ before ++ e ∷ after
      → count_by (is_undefined_in policy (kept_of es)) (finish_after before e) ≡ cond (passes_unmatched policy es e) 1 0
  one_more before (envelope.TestStepFinished f) after cut =
      finish_counted before f (has_case es before (envelope.TestStepFinished f) after good cut f.test_case_started_id (good.references before (envelope.TestStepFinished f) after cut).0) f.test_step_result.status
  one_more before (envelope.Pickle x) after cut = refl
  one_more before (envelope.TestCase x) after cut = refl
  one_more before (envelope.TestCaseStarted x) after cut = refl
  one_more before (envelope.Source x) after cut = refl
  one_more before (envelope.GherkinDocument x) after cut = refl
  one_more before (envelope.ParseError x) after cut = refl
  one_more before (envelope.StepDefinition x) after cut = refl
  one_more before (envelope.Hook x) after cut = refl
  one_more before (envelope.TestRunStarted x) after cut = refl
  one_more before (envelope.TestStepStarted x) after cut = refl
  one_more before (envelope.TestCaseFinished x) after cut = refl
  one_more before (envelope.TestRunFinished x) after cut = refl
  one_more before (envelope.Attachment x) after cut = refl
  one_more before (envelope.TestRunHookStarted x) after cut = refl
  one_more before (envelope.TestRunHookFinished x) after cut = refl
  one_more before envelope.Other after cut = refl

  from_there : (before rest : List Envelope) → es ≡ before ++ rest → count_by (is_undefined_in policy (kept_of es)) (finishes_from before rest) ≡ count_by (passes_unmatched policy es) rest
  from_there before [] cut = refl
  from_there before (e ∷ rest) cut =
      sum_by-append (λ x. cond (is_undefined_in policy (kept_of es) x) 1 0) (finish_after before e) (finishes_from (before ++ e ∷ []) rest)
      ∙ (λ j. one_more before e rest cut j + from_there (before ++ e ∷ []) rest (cut ∙ sym (append_assoc before (e ∷ []) rest)) j)
      ∙ sym (sum_by-cons (λ x. cond (passes_unmatched policy es x) 1 0) e rest)

-- ---- undefined: which steps

one_any : {X : Type 0} (u r : X → Bool) (x : X) (here said ended : Bool) → u x ≡ said → r x ≡ ended → (said ≡ true → here ≡ true) → list_any (λ y. u y && r y) (if here then x ∷ [] else []) ≡ (said && ended)
one_any u r x true said ended e k h = (λ j. (e j && k j) || false) ∙ or_no (said && ended)
one_any u r x false true ended e k h = let no_way : false ≡ true = h refl in cc
one_any u r x false false ended e k h = refl

module _ (policy : Policy) (es : List Envelope) (good : Sound es) (test_case step : Utf8) where
  ended_same : (f : TestStepFinished) (is_pending : Bool) → is_end_in (kept_of es) test_case step (finish_entry f is_pending) ≡ is_end_of es test_case step (envelope.TestStepFinished f)
  ended_same f is_pending =
      ap (λ b. bytes_eq step f.test_step_id && b)
      (ap (λ o. option_map_or (λ (s : StartEntry). bytes_eq test_case s.case_id) o false) (find_map (λ (s : StartEntry). bytes_eq f.test_case_started_id s.id) start_entry (starts es))
      ∙ sym (or_of_map (λ (s : StartEntry). bytes_eq test_case s.case_id) start_entry (find (λ s. bytes_eq f.test_case_started_id s.id) (starts es)) false)
      ∙ or_of_map (bytes_eq test_case) (λ (s : TestCaseStarted). s.test_case_id) (find (λ s. bytes_eq f.test_case_started_id s.id) (starts es)) false)

  abbrev told_in : FinishEntry → Bool
  told_in f = is_undefined_in policy (kept_of es) f && is_end_in (kept_of es) test_case step f

  abbrev told_of : Envelope → Bool
  told_of e = passes_unmatched policy es e && is_end_of es test_case step e

  finish_told : (before : List Envelope) (f : TestStepFinished) → HasCase es before f.test_case_started_id → (s : Status)
      → list_any told_in (finish_among (all_unmatched (map case_entry (cases before))) f s)
      ≡ ((is_passing policy (kept_status s) && of_envelopes es f) && is_end_of es test_case step (envelope.TestStepFinished f))
  finish_told before f has status.Passed =
      one_any (is_undefined_in policy (kept_of es)) (is_end_in (kept_of es) test_case step) (finish_entry f false) (has_text f.test_step_id (all_unmatched (map case_entry (cases before)))) (of_envelopes es f)
      (is_end_of es test_case step (envelope.TestStepFinished f)) (same_step es before f has) (ended_same f false) (id_before es before f has)
  finish_told before f has status.Pending =
      one_any (is_undefined_in policy (kept_of es)) (is_end_in (kept_of es) test_case step) (finish_entry f true) (has_text f.test_step_id (all_unmatched (map case_entry (cases before)))) (passes_pending policy && of_envelopes es f)
      (is_end_of es test_case step (envelope.TestStepFinished f)) (ap (λ b. passes_pending policy && b) (same_step es before f has)) (ended_same f true)
      (λ h. id_before es before f has (and_second (passes_pending policy) (of_envelopes es f) h))
  finish_told before f has status.Unknown = refl
  finish_told before f has status.Skipped = refl
  finish_told before f has status.Undefined = refl
  finish_told before f has status.Ambiguous = refl
  finish_told before f has status.Failed = refl

  one_told : (before : List Envelope) (e : Envelope) (after : List Envelope) → es ≡ before ++ e ∷ after → list_any told_in (finish_after before e) ≡ told_of e
  one_told before (envelope.TestStepFinished f) after cut =
      finish_told before f (has_case es before (envelope.TestStepFinished f) after good cut f.test_case_started_id (good.references before (envelope.TestStepFinished f) after cut).0) f.test_step_result.status
  one_told before (envelope.Pickle x) after cut = refl
  one_told before (envelope.TestCase x) after cut = refl
  one_told before (envelope.TestCaseStarted x) after cut = refl
  one_told before (envelope.Source x) after cut = refl
  one_told before (envelope.GherkinDocument x) after cut = refl
  one_told before (envelope.ParseError x) after cut = refl
  one_told before (envelope.StepDefinition x) after cut = refl
  one_told before (envelope.Hook x) after cut = refl
  one_told before (envelope.TestRunStarted x) after cut = refl
  one_told before (envelope.TestStepStarted x) after cut = refl
  one_told before (envelope.TestCaseFinished x) after cut = refl
  one_told before (envelope.TestRunFinished x) after cut = refl
  one_told before (envelope.Attachment x) after cut = refl
  one_told before (envelope.TestRunHookStarted x) after cut = refl
  one_told before (envelope.TestRunHookFinished x) after cut = refl
  one_told before envelope.Other after cut = refl

  told_from : (before rest : List Envelope) → es ≡ before ++ rest → list_any told_in (finishes_from before rest) ≡ list_any told_of rest
  told_from before [] cut = refl
  told_from before (e ∷ rest) cut =
      list_any-append told_in (finish_after before e) (finishes_from (before ++ e ∷ []) rest)
      ∙ (λ j. one_told before e rest cut j || told_from (before ++ e ∷ []) rest (cut ∙ sym (append_assoc before (e ∷ []) rest)) j)

  passes_same : passes_undefined_in policy (kept_of es) test_case step ≡ list_any told_of es
  passes_same = told_from [] es refl

filter_twice : {X : Type 0} (p q : X → Bool) (xs : List X) → filter q (filter p xs) ≡ filter (λ x. p x && q x) xs
filter_twice p q [] = refl
filter_twice {X} p q (x ∷ xs) = ⊎_elim (λ yes. rw yes (ap (λ l. if q x then x ∷ l else l) (filter_twice p q xs))) (λ no. rw no (filter_twice p q xs)) (cases_Bool (p x))

same_flat : {X Y : Type 0} (f g : X → List Y) → ((x : X) → f x ≡ g x) → (xs : List X) → flat_map f xs ≡ flat_map g xs
same_flat f g h xs = λ j. flat_map (λ x. h x j) xs

same_filtered : {X Y : Type 0} (f : X → Y) (p q : X → Bool) → ((x : X) → p x ≡ q x) → (xs : List X) → map f (filter p xs) ≡ map f (filter q xs)
same_filtered f p q h xs = λ j. map f (filter (λ x. h x j) xs)

module _ (policy : Policy) (es : List Envelope) (good : Sound es) where
  steps_same : (c : TestCase) → steps_passing (passes_undefined_in policy (kept_of es)) (case_entry c) ≡ undefined_steps_of policy es c
  steps_same c =
      picked_map (λ (step : Utf8). record { test_case = c.id; step = step }) (passes_undefined_in policy (kept_of es) c.id) (λ (t : TestStep). t.id) (filter is_unmatched c.test_steps)
      ∙ ap (map (λ (t : TestStep). record { test_case = c.id; step = t.id })) (filter_twice is_unmatched (λ (t : TestStep). passes_undefined_in policy (kept_of es) c.id t.id) c.test_steps)
      ∙ same_filtered (λ (t : TestStep). record { test_case = c.id; step = t.id }) (λ t. is_unmatched t && passes_undefined_in policy (kept_of es) c.id t.id) (is_undefined_step policy es c)
      (λ t. ap (λ b. is_unmatched t && b) (passes_same policy es good c.id t.id)) c.test_steps

  pub undefined_same : undefined_steps_in policy (kept_of es) ≡ undefined_steps policy es
  undefined_same =
      flat_map-map (steps_passing (passes_undefined_in policy (kept_of es))) case_entry (cases es)
      ∙ same_flat (λ c. steps_passing (passes_undefined_in policy (kept_of es)) (case_entry c)) (undefined_steps_of policy es) steps_same (cases es)

-- ---- all

pub counts_same : (asked : Conditions) (settings : Settings) (es : List Envelope) → Good settings es → counts_in asked settings.policy (kept_of es) ≡ release_counts_of asked settings.policy es
counts_same asked settings es good =
    let missed = ap length (missed_same asked es) ∙ picked_count (λ (p : Pickle). p.id) (is_missed asked es) (pickles es) in
    let retried = ap length (retried_same es) ∙ picked_count (λ (p : Pickle). p.id) (is_retried_pickle es) (pickles es) in
    let skipped = ap length (skipped_same es) ∙ picked_count (λ (c : TestCase). c.id) (has_skip es) (cases es) in
    let stepless = ap length (stepless_same es) ∙ picked_count (λ (c : TestCase). c.id) (is_stepless es) (cases es) in
    let undefined = from_there settings.policy es good.sound [] es refl in
    λ j. record { missed = missed j; retried = retried j; skipped = skipped j; stepless = stepless j; undefined = undefined j }
