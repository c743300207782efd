-- The documents of a stream that is read have nodes that are numbered in order.
use Rattle.std.proofs.Common.{◌≡◌, ℕ, Bool, true, false, cond, List, [], ◌∷◌, ◌++◌, Option, Some, None, Result, Ok, Err, map, refl, sym, ap, subst}
use Rattle.std.specs.Prelude.{⊤, is_some, option_map}
use Rattle.std.specs.List.{AllByRecursion, filter_map}
use Rattle.serde_json.specs.Data.{Data}
use Rattle.serde_json.specs.Find.{as_object}
use Rattle.cm_envelope.specs.declared.envelope.Envelope.{Envelope}
use Rattle.cm_envelope.specs.declared.envelope.Envelope.TheVariants as envelope
use Rattle.cm_envelope.specs.declared.envelope.GherkinDocument.{GherkinDocument}
use Rattle.cm_envelope.specs.Member.{◌>>=◌, present_member}
use Rattle.cm_envelope.specs.Reading.{LineFault, envelope_in_one, envelope_of, envelope_of_line, in_kind, json_of_line, judged_kinds_of, kind_name, kinds, members, result_map, shape, the_one}
use Rattle.cm_envelope.specs.Pickles.{pickle}
use Rattle.cm_envelope.specs.Envelopes.{source, parse_error, step_definition, hook, test_case, test_run_started, test_case_started, test_step_started, test_step_finished, test_case_finished, test_run_finished, attachment, test_run_hook_started, test_run_hook_finished}
use Rattle.cm_envelope.specs.Documents.{gherkin_document}
use Rattle.cm_attempt.specs.declared.status.Settings.{Settings}
use Rattle.cm_stream.specs.Redeclared.{judged_after, judged_as, passed_over}
use Rattle.cm_stream.specs.Stream.{IsReadAs, as_read, envelopes, read_line}
use Rattle.cm_shown_laws.proofs.Spots.{cons_parts}
use Rattle.cm_shown_laws.proofs.Numbered.{Holds, IsCounted, after, document_reads, option_cases, past}

-- a document's nodes are numbered in order
abbrev pub InOrder : Envelope → Type 0
InOrder (envelope.GherkinDocument g) = IsCounted g
InOrder _ = ⊤

mapped : {A E : Type 0} (f : A → Envelope) (r : Result A E) → ((x : A) → InOrder (f x)) → Holds InOrder (result_map f r)
mapped f (Ok x) h = h x
mapped f (Err e) h = tt

document_in : (r : Result GherkinDocument (List ℕ)) → Holds IsCounted r → Holds InOrder (result_map envelope.GherkinDocument r)
document_in (Ok g) h = h
document_in (Err e) h = tt

-- what is read of each kind
abbrev KindsAreInOrder : Type 0
KindsAreInOrder = AllByRecursion (λ k. (d : Data) → Holds InOrder (members k d)) kinds

each_kind : KindsAreInOrder
each_kind = (
  λ d. mapped envelope.Source (source d) (λ x. tt),
  (
    λ d. document_in (gherkin_document d) (document_reads d),
    (
      λ d. mapped envelope.ParseError (parse_error d) (λ x. tt),
      (
        λ d. mapped envelope.Pickle (pickle d) (λ x. tt),
        (
          λ d. mapped envelope.StepDefinition (step_definition d) (λ x. tt),
          (
            λ d. mapped envelope.Hook (hook d) (λ x. tt),
            (
              λ d. mapped envelope.TestCase (test_case d) (λ x. tt),
              (
                λ d. mapped envelope.TestRunStarted (test_run_started d) (λ x. tt),
                (
                  λ d. mapped envelope.TestCaseStarted (test_case_started d) (λ x. tt),
                  (
                    λ d. mapped envelope.TestStepStarted (test_step_started d) (λ x. tt),
                    (
                      λ d. mapped envelope.TestStepFinished (test_step_finished d) (λ x. tt),
                      (
                        λ d. mapped envelope.TestCaseFinished (test_case_finished d) (λ x. tt),
                        (
                          λ d. mapped envelope.TestRunFinished (test_run_finished d) (λ x. tt),
                          (
                            λ d. mapped envelope.Attachment (attachment d) (λ x. tt),
                            (
                              λ d. mapped envelope.TestRunHookStarted (test_run_hook_started d) (λ x. tt),
                              (λ d. mapped envelope.TestRunHookFinished (test_run_hook_finished d) (λ x. tt), tt),
                            ),
                          ),
                        ),
                      ),
                    ),
                  ),
                ),
              ),
            ),
          ),
        ),
      ),
    ),
  ),
)

-- what holds of each key holds of each that is found, with its value
kept_in : {A B : Type 0} (P : A → Type 0) (Q : A × B → Type 0) (f : A → Option B) → ((a : A) (b : B) → P a → Q (a, b)) → (xs : List A) → AllByRecursion P xs → AllByRecursion Q (filter_map (λ a. option_map (λ b. (a, b)) (f a)) xs)
kept_in P Q f so [] h = tt
kept_in {A} {B} P Q f so (x ∷ xs) h = go (f x) refl (kept_in P Q f so xs h.1)
  where
    go : (o : Option B) → f x ≡ o → AllByRecursion Q (filter_map (λ a. option_map (λ b. (a, b)) (f a)) xs) → AllByRecursion Q (filter_map (λ a. option_map (λ b. (a, b)) (f a)) (x ∷ xs))
    go None e rest = rw e rest
    go (Some b) e rest = rw e (so x b h.0, rest)

abbrev IfAny : {A : Type 0} → (A → Type 0) → Option A → Type 0
IfAny Q None = ⊤
IfAny Q (Some x) = Q x

one_of : {A : Type 0} (Q : A → Type 0) (xs : List A) → AllByRecursion Q xs → Holds (IfAny Q) (the_one xs)
one_of Q [] h = tt
one_of Q (x ∷ []) h = h.0
one_of Q (x ∷ y ∷ more) h = tt

result_cases : {A E : Type 0} (P : Result A E → Type 0) → ((x : A) → P (Ok x)) → ((e : E) → P (Err e)) → (r : Result A E) → P r
result_cases P ok err (Ok x) = ok x
result_cases P ok err (Err e) = err e

unless_bad : (b : Bool) (r : Result Envelope LineFault) (f : LineFault) → Holds InOrder r → Holds InOrder (cond b r (Err f))
unless_bad true r f h = h
unless_bad false r f h = tt

kinds_in : (d : Data) → Holds InOrder (the_one (judged_kinds_of d) >>= envelope_in_one)
kinds_in d =
    after (the_one (judged_kinds_of d)) (IfAny (λ j. Holds InOrder (members j.0 j.1))) InOrder envelope_in_one
    (one_of (λ j. Holds InOrder (members j.0 j.1)) (judged_kinds_of d)
    (kept_in (λ k. (v : Data) → Holds InOrder (members k v)) (λ j. Holds InOrder (members j.0 j.1)) (λ k. present_member (kind_name k) d) (λ k v h. h v) kinds each_kind))
    (option_cases (λ o. IfAny (λ j. Holds InOrder (members j.0 j.1)) o → Holds InOrder (envelope_in_one o)) (λ h. tt)
    (λ j h. unless_bad (is_some (as_object j.1)) (in_kind j.0 (members j.0 j.1)) shape (result_cases (λ r. Holds InOrder r → Holds InOrder (in_kind j.0 r)) (λ x k. k) (λ e k. tt) (members j.0 j.1) h)))

value_in : (d : Data) → Holds InOrder (envelope_of d)
value_in d = unless_bad (is_some (as_object d)) (the_one (judged_kinds_of d) >>= envelope_in_one) shape (kinds_in d)

line_in : (line : List ℕ) → Holds InOrder (envelope_of_line line)
line_in line = past InOrder (json_of_line line) envelope_of value_in

-- ---- the lines

lines_in : (ls : List (ℕ × List ℕ)) (es : List (ℕ × Envelope)) → map read_line ls ≡ map as_read es → AllByRecursion InOrder (envelopes es)
lines_in [] [] e = tt
lines_in [] (x ∷ xs) e = cc
lines_in (l ∷ ls) [] e = cc
lines_in (l ∷ ls) (x ∷ xs) e =
    let parts = cons_parts (read_line l) (as_read x) (map read_line ls) (map as_read xs) e in
    let first : envelope_of_line l.1 ≡ Ok x.1 = ap (λ (p : ℕ × Result Envelope LineFault). p.1) parts.0 in
    (subst (λ (r : Result Envelope LineFault). Holds InOrder r) first (line_in l.1), lines_in ls xs parts.1)

judged_in : (e : Envelope) (b : Bool) → InOrder e → InOrder (cond b passed_over e)
judged_in e true h = tt
judged_in e false h = h

all_judged : (settings : Settings) (before es : List Envelope) → AllByRecursion InOrder es → AllByRecursion InOrder (judged_after settings before es)
all_judged settings before [] h = tt
all_judged settings before (e ∷ es) h =
    (judged_in e _ h.0, all_judged settings (before ++ judged_as settings before e ∷ []) es h.1)

pub read_in_order : (settings : Settings) (bytes : List ℕ) (es : List Envelope) → IsReadAs settings bytes es → AllByRecursion InOrder es
read_in_order settings bytes es r =
    subst (AllByRecursion InOrder) (sym r.judged) (all_judged settings [] (envelopes r.lines) (lines_in _ r.lines r.read.read))
