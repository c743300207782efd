-- The pickles that no case names, and those that one does.
use Rattle.std.proofs.Common.{◌≡◌, ℕ, ◌+◌, refl, sym, ap, ◌∙◌, List, [], ◌∷◌, ◌++◌, Option, Some, None, true, false, Bool, not, ◌||◌, subst, map, length, arith}
use Rattle.std.specs.Prelude.{count_by, if◌then◌else◌}
use Rattle.std.specs.List.{AllByRecursion, list_any, filter}
use Rattle.std.specs.Str.{bytes_eq}
use Rattle.std.proofs.lemmas.List.Folds.{list_any-append}
use Rattle.std.proofs.lemmas.List.Sums.{length-filter}
use Rattle.std.proofs.lemmas.List.{map-append}
use Rattle.std.proofs.lemmas.Bool.{or_right}
use Rattle.std.proofs.Math.Bool.{or_assoc}
use Rattle.cm_refs.proofs.EntryLemmas.{list_any-map}
use Rattle.cm_attempt.specs.Table.{has_text}
use Rattle.cm_stream.specs.Texts.{Utf8}
use Rattle.cm_stream.specs.References.{Name, PickleNamed, Run, times_declared, refers, if_any, as_pickle, as_case, pickles, cases}
use Rattle.cm_stream.specs.Stream.{unrun_count}
use Rattle.cm_envelope.specs.declared.envelope.Envelope.{Envelope}
use Rattle.cm_envelope.specs.declared.envelope.Envelope.TheVariants as envelope
use Rattle.cm_envelope.specs.declared.envelope.TestCase.{TestCase}
use Rattle.cm_envelope.specs.declared.pickle.Pickle.{Pickle}
use Rattle.cm_stream.proofs.Lists.{or_false, none_counted, count_cut, length-both, or_no, found_more, found_push}
use Rattle.cm_stream.proofs.Found.{bytes_same, bytes_are, by_id, differs_back}
use Rattle.cm_stream.proofs.Declared.{declares_pickle, case_is}
use Rattle.cm_stream.proofs.Passing.{AllPass, by_lines, front_passes, last_passes}
use Rattle.cm_stream.proofs.Distinct.{all_refer}
use Rattle.cm_state.specs.Summary.{with_name, names_from, once_each}
use Rattle.cm_state.proofs.OneMore.{same_count, kept_apart, kept_named, not_found, none_refers}

-- ---- names, each once

or_kept : (a b : Bool) → a ≡ true → (a || b) ≡ a
or_kept true b h = refl
or_kept false b h = cc

has_with : (id : Utf8) (names : List Utf8) (name : Utf8) → has_text id (with_name names name) ≡ (has_text id names || bytes_eq id name)
has_with id names name = at (has_text name names) refl
  where
    at : (b : Bool) → has_text name names ≡ b → has_text id (if b then names else names ++ name ∷ []) ≡ (has_text id names || bytes_eq id name)
    at true e = by_id id name
        (λ k. sym (ap (λ b. has_text id names || b) k ∙ or_no (has_text id names)))
        (λ k. sym (or_kept (has_text id names) (bytes_eq id name) (ap (λ u. has_text u names) k ∙ e)))
    at false e = list_any-append (bytes_eq id) names (name ∷ []) ∙ ap (λ b. has_text id names || b) (or_no (bytes_eq id name))

has_names : (id : Utf8) (names more : List Utf8) → has_text id (names_from names more) ≡ (has_text id names || has_text id more)
has_names id names [] = sym (or_no (has_text id names))
has_names id names (name ∷ more) =
    has_names id (with_name names name) more ∙ ap (λ b. b || has_text id more) (has_with id names name) ∙ or_assoc (has_text id names) (bytes_eq id name) (has_text id more)

names_push : (names more : List Utf8) (name : Utf8) → names_from names (more ++ name ∷ []) ≡ with_name (names_from names more) name
names_push names [] name = refl
names_push names (other ∷ more) name = names_push (with_name names other) more name

-- ---- pickles that no case names

abbrev names_it : Utf8 → TestCase → Bool
names_it id c = bytes_eq id c.pickle_id

abbrev unnamed : List TestCase → Pickle → Bool
unnamed cs p = not (list_any (names_it p.id) cs)

-- the pickles that these cases name
abbrev pub named_by : List TestCase → List Utf8
named_by cs = once_each (map (λ c. c.pickle_id) cs)

is_named : (id : Utf8) (cs : List TestCase) → has_text id (named_by cs) ≡ list_any (names_it id) cs
is_named id cs = has_names id [] (map (λ c. c.pickle_id) cs) ∙ list_any-map (bytes_eq id) (λ (c : TestCase). c.pickle_id) cs

other_unrun : (es : List Envelope) (e : Envelope) → as_case e ≡ None → as_pickle e ≡ None → unrun_count (es ++ e ∷ []) ≡ unrun_count es
other_unrun es e c p = λ i. count_by (unnamed (found_more as_case es e c i)) (found_more as_pickle es e p i)

after_run : (P : Name → Type 0) (run : Option Utf8) (name : Name) (more : List Name) → AllByRecursion P (map Run (if_any run) ++ name ∷ more) → P name
after_run P None name more h = h.0
after_run P (Some id) name more h = (h.1).0

case_refers : (front : List Envelope) (here : Envelope) (c : TestCase) → as_case here ≡ Some c → AllByRecursion (λ n. times_declared n front ≡ 1) (refers front here) → times_declared (PickleNamed c.pickle_id) front ≡ 1
case_refers front here c is refs =
    after_run (λ n. times_declared n front ≡ 1) c.test_run_started_id (PickleNamed c.pickle_id) _
    (subst (λ (e : Envelope). AllByRecursion (λ (n : Name). times_declared n front ≡ 1) (refers front e)) (case_is here c is) refs)

pickle_unrun : (es : List Envelope) (p : Pickle) → AllPass (es ++ envelope.Pickle p ∷ []) → unrun_count (es ++ envelope.Pickle p ∷ []) ≡ unrun_count es + 1
pickle_unrun es p more =
    let e = envelope.Pickle p in
    let pass = front_passes es (e ∷ []) more in
    let again = or_false _ _ ((((last_passes es e more).passes).1).1).0 in
    let new = (or_false _ _ again.1).0 in
    let none = not_found (PickleNamed p.id) as_pickle (λ (x : Pickle). bytes_eq p.id x.id) (declares_pickle p.id) es new in
    let unused : list_any (names_it p.id) (cases es) ≡ false = none_refers es pass PickleNamed as_pickle (λ (x : Pickle). x.id) declares_pickle as_case (λ (c : TestCase). c.pickle_id) case_refers p.id none in
    let same : unrun_count (es ++ e ∷ []) ≡ count_by (unnamed (cases es)) (pickles es ++ p ∷ []) = λ i. count_by (unnamed (found_more as_case es e refl i)) (found_push as_pickle es e p refl i) in
    let back : count_by (unnamed (cases es)) [] ≡ 0 = none_counted (unnamed (cases es)) [] refl in
    same ∙ count_cut (unnamed (cases es)) (pickles es) p [] (ap not unused) ∙ tail (unrun_count es) (count_by (unnamed (cases es)) []) back
  where
    tail : (m n : ℕ) → n ≡ 0 → m + 1 + n ≡ m + 1
    tail m n h = omega (arith, h)

-- one, where no case named the pickle yet
abbrev newly : (is_named : Bool) → ℕ
newly true = 0
newly false = 1

case_unrun : (es : List Envelope) (c : TestCase) → AllPass (es ++ envelope.TestCase c ∷ [])
    → unrun_count (es ++ envelope.TestCase c ∷ []) + newly (list_any (names_it c.pickle_id) (cases es)) ≡ unrun_count es
case_unrun es c more = go (list_any (names_it c.pickle_id) (cases es)) refl
  where
    same : unrun_count (es ++ envelope.TestCase c ∷ []) ≡ count_by (unnamed (cases es ++ c ∷ [])) (pickles es)
    same = λ i. count_by (unnamed (found_push as_case es (envelope.TestCase c) c refl i)) (found_more as_pickle es (envelope.TestCase c) refl i)

    with_it : (p : Pickle) → unnamed (cases es ++ c ∷ []) p ≡ not (list_any (names_it p.id) (cases es) || bytes_eq p.id c.pickle_id)
    with_it p = ap not (list_any-append (names_it p.id) (cases es) (c ∷ []) ∙ ap (λ b. list_any (names_it p.id) (cases es) || b) (or_no (bytes_eq p.id c.pickle_id)))

    away : (p : Pickle) → bytes_eq p.id c.pickle_id ≡ false → unnamed (cases es ++ c ∷ []) p ≡ unnamed (cases es) p
    away p k = with_it p ∙ ap not (ap (λ b. list_any (names_it p.id) (cases es) || b) k ∙ or_no (list_any (names_it p.id) (cases es)))

    again : list_any (names_it c.pickle_id) (cases es) ≡ true → (p : Pickle) → unnamed (cases es ++ c ∷ []) p ≡ unnamed (cases es) p
    again e p = by_id p.id c.pickle_id (away p)
        (λ k. with_it p ∙ ap not (or_kept (list_any (names_it p.id) (cases es)) (bytes_eq p.id c.pickle_id) (ap (λ u. list_any (names_it u) (cases es)) k ∙ e)))

    first : list_any (names_it c.pickle_id) (cases es) ≡ false → (p : Pickle) → bytes_eq c.pickle_id p.id ≡ true → (unnamed (cases es) p ≡ true) × (unnamed (cases es ++ c ∷ []) p ≡ false)
    first e p k =
        let id : p.id ≡ c.pickle_id = sym (bytes_are c.pickle_id p.id k) in
        let here : bytes_eq p.id c.pickle_id ≡ true = ap (bytes_eq p.id) (sym id) ∙ bytes_same p.id in
        (ap not (ap (λ u. list_any (names_it u) (cases es)) id ∙ e), with_it p ∙ ap not (or_right (list_any (names_it p.id) (cases es)) (bytes_eq p.id c.pickle_id) here))

    one : length (filter (λ p. bytes_eq c.pickle_id p.id) (pickles es)) ≡ 1
    one = kept_named (PickleNamed c.pickle_id) as_pickle (λ p. bytes_eq c.pickle_id p.id) (declares_pickle c.pickle_id) es
        ∙ case_refers es (envelope.TestCase c) c refl (all_refer (es ++ envelope.TestCase c ∷ []) more es (envelope.TestCase c) [] refl)

    go : (b : Bool) → list_any (names_it c.pickle_id) (cases es) ≡ b → unrun_count (es ++ envelope.TestCase c ∷ []) + newly b ≡ unrun_count es
    go true e =
        let as_many = same ∙ same_count (unnamed (cases es ++ c ∷ [])) (unnamed (cases es)) (again e) (pickles es) in
        omega (arith, as_many)
    go false e =
        let parts = kept_apart (unnamed (cases es)) (unnamed (cases es ++ c ∷ [])) (λ p. bytes_eq c.pickle_id p.id) (first e) (λ p k. sym (away p (differs_back c.pickle_id p.id k))) (pickles es) in
        let all : unrun_count es ≡ count_by (unnamed (cases es ++ c ∷ [])) (pickles es) + length (filter (λ p. bytes_eq c.pickle_id p.id) (pickles es)) =
        sym (length-filter (unnamed (cases es)) (pickles es)) ∙ parts ∙ ap (λ n. n + length (filter (λ (p : Pickle). bytes_eq c.pickle_id p.id) (pickles es))) (length-filter (unnamed (cases es ++ c ∷ [])) (pickles es)) in
        omega (arith, all, same, one)

-- ---- each pickle is named or left

named_longer : (names : List Utf8) (name : Utf8) → length (with_name names name) ≡ length names + newly (has_text name names)
named_longer names name = go (has_text name names)
  where
    go : (b : Bool) → length (if b then names else names ++ name ∷ []) ≡ length names + newly b
    go true = omega arith
    go false = length-both names (name ∷ [])

pub one_more_named : (cs : List TestCase) (c : TestCase) → named_by (cs ++ c ∷ []) ≡ with_name (named_by cs) c.pickle_id
one_more_named cs c = ap once_each (map-append (λ (x : TestCase). x.pickle_id) cs (c ∷ [])) ∙ names_push [] (map (λ x. x.pickle_id) cs) c.pickle_id

abbrev EachOnce : List Envelope → Type 0
EachOnce es = unrun_count es + length (named_by (cases es)) ≡ length (pickles es)

pub named_or_unrun : (es : List Envelope) → AllPass es → EachOnce es
named_or_unrun es pass = by_lines EachOnce (omega arith) step es pass
  where
    step : (xs : List Envelope) (e : Envelope) → AllPass (xs ++ e ∷ []) → EachOnce xs → EachOnce (xs ++ e ∷ [])
    step xs (envelope.Pickle p) h rec =
        let e = envelope.Pickle p in
        let names = ap (λ cs. length (named_by cs)) (found_more as_case xs e refl) in
        let longer : length (pickles (xs ++ e ∷ [])) ≡ length (pickles xs) + 1 = ap length (found_push as_pickle xs e p refl) ∙ length-both (pickles xs) (p ∷ []) in
        omega (arith, pickle_unrun xs p h, names, longer, rec)
    step xs (envelope.TestCase c) h rec =
        let e = envelope.TestCase c in
        let known : newly (has_text c.pickle_id (named_by (cases xs))) ≡ newly (list_any (names_it c.pickle_id) (cases xs)) = ap newly (is_named c.pickle_id (cases xs)) in
        let names : length (named_by (cases (xs ++ e ∷ []))) ≡ length (named_by (cases xs)) + newly (has_text c.pickle_id (named_by (cases xs))) =
        ap (λ cs. length (named_by cs)) (found_push as_case xs e c refl) ∙ ap length (one_more_named (cases xs) c) ∙ named_longer (named_by (cases xs)) c.pickle_id in
        let as_many = ap length (found_more as_pickle xs e refl) in
        omega (arith, case_unrun xs c h, known, names, as_many, rec)
    step xs e h rec =
        let names = ap (λ cs. length (named_by cs)) (found_more as_case xs e refl) in
        let as_many = ap length (found_more as_pickle xs e refl) in
        omega (arith, other_unrun xs e refl refl, names, as_many, rec)
