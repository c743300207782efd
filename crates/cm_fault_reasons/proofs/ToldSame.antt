-- What is told of the line that decides, by what is kept of lines without a fault, is what is told of it over all of them.
use Rattle.std.proofs.Common.{◌≡◌, ◌∙◌, refl, ap, arith, ℕ, ◌+◌, ◌-◌, List, [], ◌∷◌, ◌++◌, length, length-append, option_map}
use Rattle.std.specs.Prelude.{if◌then◌else◌}
use Rattle.std.specs.List.{filter}
use Rattle.std.specs.Str.{bytes_eq}
use Rattle.std.proofs.lemmas.List.Elements.{filter-append, filter_map-append}
use Rattle.cm_attempt.specs.declared.status.Settings.{Settings}
use Rattle.cm_attempt.proofs.Growing.{bytes_same}
use Rattle.cm_envelope.specs.declared.envelope.Envelope.{Envelope}
use Rattle.cm_envelope.specs.declared.envelope.Envelope.TheVariants as envelope
use Rattle.cm_envelope.specs.declared.envelope.TestCaseStarted.{TestCaseStarted}
use Rattle.cm_state.specs.ByOnePass.{summary_of_lines}
use Rattle.cm_stream.specs.ByOnePass.{IsFaultless}
use Rattle.cm_stream.specs.Findings as bad
use Rattle.cm_stream.specs.Findings.{Finding, IsBad, IsUnsupported}
use Rattle.cm_stream.specs.References.{as_start, starts, starts_of}
use Rattle.cm_stream.specs.Texts.{Utf8}
use Rattle.cm_fault_reasons.specs.AttemptLines.{due_number, number_line, number_lines, order_lines, start_lines}
use Rattle.cm_fault_reasons.specs.ToldAt.{lines_at}
use Rattle.cm_fault_reasons.specs.ToldKept.{last_number, lines_by}
use Rattle.cm_fault_reasons.specs.Unknown.{told_id, told_lines}
use Rattle.cm_fault_reasons.proofs.DueSame.{due_same}
use Rattle.cm_fault_reasons.proofs.DuplicateSame.{duplicate_same}
use Rattle.cm_fault_reasons.proofs.UnknownSame.{unknown_same}

-- ---- the number of an attempt

start_alone : (s : TestCaseStarted) → starts_of s.test_case_id (envelope.TestCaseStarted s ∷ []) ≡ s ∷ []
start_alone s = ap (λ b. if b then s ∷ [] else []) (bytes_same s.test_case_id)

starts_both : (es : List Envelope) (s : TestCaseStarted) → starts_of s.test_case_id (es ++ envelope.TestCaseStarted s ∷ []) ≡ starts_of s.test_case_id es ++ s ∷ []
starts_both es s =
    ap (filter (λ (x : TestCaseStarted). bytes_eq s.test_case_id x.test_case_id)) (filter_map-append as_start es (envelope.TestCaseStarted s ∷ []))
    ∙ filter-append (λ (x : TestCaseStarted). bytes_eq s.test_case_id x.test_case_id) (starts es) (starts (envelope.TestCaseStarted s ∷ []))
    ∙ ap (λ ss. starts_of s.test_case_id es ++ ss) (start_alone s)

one_less : (n : ℕ) → (n + 1) - 1 ≡ n
one_less n = omega arith

-- the last of the attempts of a case has the number that is due after the others
last_is_due : (first : ℕ) (es : List Envelope) (s : TestCaseStarted) → last_number first (es ++ envelope.TestCaseStarted s ∷ []) s.test_case_id ≡ due_number first es s.test_case_id
last_is_due first es s =
    ap (λ (ss : List TestCaseStarted). first + (length ss - 1)) (starts_both es s)
    ∙ ap (λ n. first + (n - 1)) (length-append (starts_of s.test_case_id es) (s ∷ []))
    ∙ ap (λ n. first + n) (one_less (length (starts_of s.test_case_id es)))

number_same : (first : ℕ) (es : List Envelope) (e : Envelope) → number_lines (last_number first (es ++ e ∷ [])) (es ++ e ∷ []) e ≡ number_lines (due_number first es) (es ++ e ∷ []) e
number_same first es (envelope.TestCaseStarted s) =
    ap (λ n. start_lines (es ++ envelope.TestCaseStarted s ∷ []) s ++ number_line n) (last_is_due first es s)
number_same first es _ = refl

-- ---- all of it

pub lines_same : (settings : Settings) (es : List Envelope) → IsFaultless settings es → (e : Envelope) (f : Finding) → lines_by settings (summary_of_lines settings.first_attempt es) (es ++ e ∷ []) e f ≡ lines_at settings es e f
lines_same settings es none e (IsBad bad.UnknownReference) = ap told_lines (unknown_same settings es none e)
lines_same settings es none e (IsBad bad.DuplicateId) = ap (λ o. told_lines (option_map told_id o)) (duplicate_same settings es none e)
lines_same settings es none e (IsBad bad.AttemptNumber) = number_same settings.first_attempt es e
lines_same settings es none e (IsBad bad.StepOrder) = λ i. order_lines (λ (a : Utf8). due_same settings es none a i) (es ++ e ∷ []) e
lines_same settings es none e (IsBad bad.FinishedEarly) = λ i. order_lines (λ (a : Utf8). due_same settings es none a i) (es ++ e ∷ []) e
lines_same settings es none e (IsBad _) = refl
lines_same settings es none e (IsUnsupported r) = refl
