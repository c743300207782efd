-- The texts of an envelope that is read of a line are UTF-8.
use Rattle.std.proofs.Common.{◌≡◌, ℕ, Bool, true, false, cond, List, [], ◌∷◌, Option, Some, None, Result, Ok, Err, IsUtf8, codes, refl}
use Rattle.std.specs.Prelude.{⊤, IfOk, IfSome, is_some, option_map}
use Rattle.std.specs.List.{AllByRecursion, cons_option, filter_map}
use Rattle.std.specs.Str.{is_utf8}
use Rattle.std.proofs.lemmas.Str.{IsUtf8-from_is_utf8}
use Rattle.serde_json.specs.Data.{Data}
use Rattle.serde_json.specs.Find.{as_object, as_str}
use Rattle.serde_json.specs.Read.{read}
use Rattle.cm_envelope.specs.declared.envelope.Envelope.{Envelope}
use Rattle.cm_envelope.specs.declared.envelope.Envelope.TheVariants as envelope
use Rattle.cm_envelope.specs.Documents.{gherkin_document}
use Rattle.cm_envelope.specs.Envelopes.{attachment, hook, parse_error, source, step_definition, test_case, test_case_finished, test_case_started, test_run_finished, test_run_hook_finished, test_run_hook_started, test_run_started, test_step_finished, test_step_started}
use Rattle.cm_envelope.specs.Member.{◌>>=◌, present_member, required_member}
use Rattle.cm_envelope.specs.Pickles.{pickle}
use Rattle.cm_envelope.specs.Reading.{LineFault, envelope_in, envelope_in_one, envelope_of, envelope_of_line, in_kind, json_of_line, json_or_fault, judged_kinds_of, kind_name, kinds, members, result_map, the_one, value_of_line}
use Rattle.cm_shown_laws.proofs.JsonTexts.{HasTexts}
use Rattle.cm_shown_laws.proofs.JsonTexts.{read_texts}
use Rattle.cm_shown_laws.proofs.Readings.{Reads, bound, present, required_text}
use Rattle.cm_shown_laws.proofs.ReadTrees.{DocumentFine, document_read}
use Rattle.cm_shown_laws.proofs.ReadPickles.{PickleHasTexts, pickle_read}

-- what holds of an envelope that is read: the content of a source is UTF-8, and so are all texts of a document and of a pickle
abbrev pub EnvelopeTexts : Envelope → Type 0
EnvelopeTexts (envelope.Source s) = IsUtf8 s.content
EnvelopeTexts (envelope.GherkinDocument g) = DocumentFine g
EnvelopeTexts (envelope.Pickle p) = PickleHasTexts p
EnvelopeTexts _ = ⊤

source_read : Reads source (λ s. IsUtf8 s.content)
source_read d h =
    bound (required_member as_str (codes "uri") d) _ IsUtf8 _ (required_text (codes "uri") d h)
    (λ uri u. bound (required_member as_str (codes "data") d) _ IsUtf8 _ (required_text (codes "data") d h)
    (λ content c. bound (required_member as_str (codes "mediaType") d) _ IsUtf8 _ (required_text (codes "mediaType") d h) (λ media m. c)))

-- ---- by kind

mapped : {A : Type 0} (f : A → Envelope) (r : Result A (List ℕ)) (P : A → Type 0) → ((x : A) → P x → EnvelopeTexts (f x)) → IfOk r P → IfOk (result_map f r) EnvelopeTexts
mapped f (Ok x) P one h = one x h
mapped f (Err e) P one h = tt

untold : {A : Type 0} (f : A → Envelope) (r : Result A (List ℕ)) → ((x : A) → EnvelopeTexts (f x)) → IfOk (result_map f r) EnvelopeTexts
untold f (Ok x) one = one x
untold f (Err e) one = tt

-- of each judged kind
each_kind : AllByRecursion (λ k. (d : Data) → HasTexts d → IfOk (members k d) EnvelopeTexts) kinds
each_kind = (
  λ d h. mapped envelope.Source (source d) (λ s. IsUtf8 s.content) (λ s k. k) (source_read d h),
  (
    λ d h. mapped envelope.GherkinDocument (gherkin_document d) DocumentFine (λ g k. k) (document_read d h),
    (
      λ d h. untold envelope.ParseError (parse_error d) (λ x. tt),
      (
        λ d h. mapped envelope.Pickle (pickle d) PickleHasTexts (λ p k. k) (pickle_read d h),
        (
          λ d h. untold envelope.StepDefinition (step_definition d) (λ x. tt),
          (
            λ d h. untold envelope.Hook (hook d) (λ x. tt),
            (
              λ d h. untold envelope.TestCase (test_case d) (λ x. tt),
              (
                λ d h. untold envelope.TestRunStarted (test_run_started d) (λ x. tt),
                (
                  λ d h. untold envelope.TestCaseStarted (test_case_started d) (λ x. tt),
                  (
                    λ d h. untold envelope.TestStepStarted (test_step_started d) (λ x. tt),
                    (
                      λ d h. untold envelope.TestStepFinished (test_step_finished d) (λ x. tt),
                      (
                        λ d h. untold envelope.TestCaseFinished (test_case_finished d) (λ x. tt),
                        (
                          λ d h. untold envelope.TestRunFinished (test_run_finished d) (λ x. tt),
                          (
                            λ d h. untold envelope.Attachment (attachment d) (λ x. tt),
                            (
                              λ d h. untold envelope.TestRunHookStarted (test_run_hook_started d) (λ x. tt),
                              (
                                λ d h. untold envelope.TestRunHookFinished (test_run_hook_finished d) (λ x. tt),
                                tt,
                              ),
                            ),
                          ),
                        ),
                      ),
                    ),
                  ),
                ),
              ),
            ),
          ),
        ),
      ),
    ),
  ),
)

-- ---- the line

if_object : (b : Bool) (r : Result Envelope LineFault) (otherwise : LineFault) → IfOk r EnvelopeTexts → IfOk (cond b r (Err otherwise)) EnvelopeTexts
if_object true r otherwise h = h
if_object false r otherwise h = tt

in_each : {K : Type 0} (read : K → Data → Result Envelope (List ℕ)) (inside : K → Result Envelope (List ℕ) → Result Envelope LineFault) → ((k : K) (r : Result Envelope (List ℕ)) → IfOk r EnvelopeTexts → IfOk (inside k r) EnvelopeTexts) → (ks : List K)
    → AllByRecursion (λ k. (d : Data) → HasTexts d → IfOk (read k d) EnvelopeTexts) ks → AllByRecursion (λ k. (d : Data) → HasTexts d → IfOk (cond (is_some (as_object d)) (inside k (read k d)) (Err LineFault.shape)) EnvelopeTexts) ks
in_each read inside one [] h = tt
in_each read inside one (k ∷ ks) h = (λ d u. if_object (is_some (as_object d)) (inside k (read k d)) LineFault.shape (one k (read k d) (h.0 d u)), in_each read inside one ks h.1)

-- what is found of kinds is read so
found_each : {K : Type 0} (name : K → List ℕ) (read : K → Data → Result Envelope LineFault) (ks : List K) → AllByRecursion (λ k. (d : Data) → HasTexts d → IfOk (read k d) EnvelopeTexts) ks → (d : Data) → HasTexts d
    → AllByRecursion (λ (j : K × Data). IfOk (read j.0 j.1) EnvelopeTexts) (filter_map (λ k. option_map (λ v. (k, v)) (present_member (name k) d)) ks)
found_each name read [] h d u = tt
found_each {K} name read (k ∷ ks) h d u = go (present_member (name k) d) (present (name k) d u) (found_each name read ks h.1 d u)
  where
    others : List (K × Data)
    others = filter_map (λ x. option_map (λ v. (x, v)) (present_member (name x) d)) ks

    go : (o : Option Data) → IfSome o HasTexts → AllByRecursion (λ (j : K × Data). IfOk (read j.0 j.1) EnvelopeTexts) others → AllByRecursion (λ (j : K × Data). IfOk (read j.0 j.1) EnvelopeTexts) (cons_option (option_map (λ v. (k, v)) o) others)
    go None x more = more
    go (Some v) x more = (h.0 v x, more)

the_one_is : {A : Type 0} (xs : List A) (P : A → Type 0) → AllByRecursion P xs → IfOk (the_one xs) (λ o. IfSome o P)
the_one_is [] P h = tt
the_one_is (x ∷ []) P h = h.0
the_one_is (x ∷ y ∷ more) P h = tt

envelope_read : (d : Data) → HasTexts d → IfOk (envelope_of d) EnvelopeTexts
envelope_read d h =
    let each = in_each members in_kind (λ k r. elim r as (λ s. IfOk s EnvelopeTexts → IfOk (in_kind k s) EnvelopeTexts) [ Ok x ↦ λ u. u | Err e ↦ λ u. tt ]) kinds each_kind in
    if_object (is_some (as_object d)) (the_one (judged_kinds_of d) >>= envelope_in_one) LineFault.shape
    (bound (the_one (judged_kinds_of d)) envelope_in_one (λ o. IfSome o (λ j. IfOk (envelope_in j.0 j.1) EnvelopeTexts)) EnvelopeTexts
    (the_one_is (judged_kinds_of d) (λ j. IfOk (envelope_in j.0 j.1) EnvelopeTexts) (found_each kind_name envelope_in kinds each d h))
    (λ o. elim o as (λ p. IfSome p (λ j. IfOk (envelope_in j.0 j.1) EnvelopeTexts) → IfOk (envelope_in_one p) EnvelopeTexts) [ None ↦ λ u. tt | Some j ↦ λ u. u ]))

value_read : (line : List ℕ) → IfSome (value_of_line line) HasTexts
value_read line = go (is_utf8 line) refl
  where
    some : (o : Option Data) → read line ≡ o → IsUtf8 line → IfSome o HasTexts
    some None e u = tt
    some (Some d) e u = read_texts line d u e

    go : (b : Bool) → is_utf8 line ≡ b → IfSome (cond b (read line) None) HasTexts
    go true e = some (read line) refl (IsUtf8-from_is_utf8 line e)
    go false e = tt

json_read : (o : Option Data) → IfSome o HasTexts → IfOk (json_or_fault o) HasTexts
json_read None h = tt
json_read (Some d) h = h

pub line_read : (line : List ℕ) → IfOk (envelope_of_line line) EnvelopeTexts
line_read line = bound (json_of_line line) envelope_of HasTexts EnvelopeTexts (json_read (value_of_line line) (value_read line)) envelope_read
