-- What is told of the line that decides, by what an audit keeps, is what is told of it by the whole stream.
use Rattle.std.proofs.Common.{◌≡◌, ◌∙◌, ◌<◌, refl, sym, ap, subst, ℕ, Bool, List, [], ◌∷◌, ◌++◌, Option, Some, None, true, false, length}
use Rattle.std.specs.Prelude.{IfSome, IsSomeAnd, ⊤, ◌&&◌, if◌then◌else◌}
use Rattle.cm_attempt.specs.Results.{case_results}
use Rattle.cm_attempt.specs.declared.status.Settings.{Settings}
use Rattle.cm_judge.specs.Deciding.{DecidesVerdict, IsDecidedAt, judged_in}
use Rattle.cm_envelope.specs.Reading.{fault_named}
use Rattle.cm_envelope.specs.declared.envelope.Envelope.{Envelope}
use Rattle.cm_envelope.specs.declared.envelope.Envelope.TheVariants as envelope
use Rattle.cm_state.specs.Summary.{Summary, summary_of_lines_by}
use Rattle.cm_stream.specs.Checks.{fault_by}
use Rattle.cm_stream.specs.FaultlessLines.{IsFaultlessBy}
use Rattle.cm_stream.specs.Findings as at
use Rattle.cm_stream.specs.Findings.{Finding, IsBad, IsUnsupported, stream_fault_named}
use Rattle.cm_stream.specs.OnePass.{reads}
use Rattle.cm_stream.specs.Readings.{Reading}
use Rattle.cm_stream.specs.Redeclared.{is_redeclared, judged_as, passed_over}
use Rattle.cm_stream.specs.References.{has_run_finished}
use Rattle.cm_stream.specs.Stream.{FirstFault, IsFirstFault, answer_for, answer_in, feed_of}
use Rattle.cm_stream.specs.Texts.{Utf8}
use Rattle.cm_stream.specs.declared.laws.Reason.{Reason}
use Rattle.cm_stream.specs.declared.laws.StreamFault.{StreamFault}
use Rattle.cm_stream.specs.declared.laws.StreamFault.TheVariants as bad
use Rattle.cm_stream.specs.declared.laws.Verdict.{Verdict}
use Rattle.cm_stream.specs.declared.laws.Verdict.TheVariants as verdict
use Rattle.cm_reasons.specs.Trail.{trail_of}
use Rattle.cm_reasons.specs.declared.trail.Trail.{Trail}
use Rattle.cm_causes.proofs.KeptResults.{kept_results, results_at_end}
use Rattle.cm_stream.proofs.ByGrammar.{same_reads}
use Rattle.cm_fault_reasons.specs.AtLine.{IsToldOfLine, IsToldUnder, IsToldWith, TellsFault, TellsOf, TellsReason, TellsWith}
use Rattle.cm_source_reasons.specs.Deciding.{IsDeciding}
use Rattle.cm_source_reasons.specs.SourceReasons.{IsSourceReason}
use Rattle.cm_fault_reasons.specs.RunLines.{IsRefusedAt, IsTruthAt}
use Rattle.cm_fault_reasons.specs.ToldAt.{IsTold, lines_at, reason_lines}
use Rattle.cm_fault_reasons.specs.ToldKept.{HasResults, is_of_refused, is_of_source, is_of_success, lines_by}
use Rattle.cm_fault_reasons.proofs.AtEnd.{past_end}
use Rattle.cm_fault_reasons.proofs.ToldSame.{lines_same}

-- ---- by what is kept

-- the lines by what is kept are those over all envelopes
pub lines_deciding : (settings : Settings) (s : Summary) (trail : Trail) (before : List Envelope) (e : Envelope) (f : Finding) → IsDeciding settings s trail before e f → lines_by settings s (before ++ e ∷ []) e f ≡ lines_at settings before e f
lines_deciding settings s trail before e f d =
    let one : d.read ≡ reads = sym (same_reads d.read d.by_the_grammar) in
    let faultless = subst (λ (z : Utf8 → Reading). IsFaultlessBy z settings before) one d.faultless in
    ap (λ (z : Summary). lines_by settings z (before ++ e ∷ []) e f) (d.left ∙ ap (λ (z : Utf8 → Reading). summary_of_lines_by z settings.first_attempt before) one)
    ∙ lines_same settings before faultless e f

-- ---- by which fault it is told

pub told_of_source : (read : Utf8 → Reading) (settings : Settings) (before : List Envelope) (e : Envelope) (b : StreamFault) (text : List ℕ) → is_of_source b ≡ true → IsSourceReason read before e b text → IsTold read settings before e (IsBad (stream_fault_named b)) text
told_of_source read settings before e (bad.NoEnvelope fault) text h told = absurd cc
told_of_source read settings before e bad.DuplicateId text h told = absurd cc
told_of_source read settings before e bad.DuplicateUri text h told = absurd cc
told_of_source read settings before e bad.UnknownReference text h told = absurd cc
told_of_source read settings before e bad.DocumentOfRefusedSource text h told = absurd cc
told_of_source read settings before e bad.TreeDiffers text h told = told
told_of_source read settings before e bad.PickleDiffers text h told = told
told_of_source read settings before e bad.ParseErrorOfGoodSource text h told = absurd cc
told_of_source read settings before e bad.CaseStepsDiffer text h told = absurd cc
told_of_source read settings before e bad.AttemptNumber text h told = absurd cc
told_of_source read settings before e bad.AttemptOverlap text h told = absurd cc
told_of_source read settings before e bad.StepOrder text h told = absurd cc
told_of_source read settings before e bad.FinishedEarly text h told = absurd cc
told_of_source read settings before e bad.SecondRunStarted text h told = absurd cc
told_of_source read settings before e bad.OutsideRun text h told = absurd cc
told_of_source read settings before e bad.AfterRunFinished text h told = absurd cc
told_of_source read settings before e bad.AttemptOpen text h told = absurd cc
told_of_source read settings before e bad.SourceIncomplete text h told = told
told_of_source read settings before e bad.SuccessDiffers text h told = absurd cc
told_of_source read settings before e bad.NoRunFinished text h told = absurd cc
told_of_source read settings before e bad.RunHookOpen text h told = absurd cc
told_of_source read settings before e bad.RunHookTwice text h told = absurd cc

pub told_of_success : (read : Utf8 → Reading) (settings : Settings) (before : List Envelope) (e : Envelope) (b : StreamFault) (text : List ℕ) → is_of_success b ≡ true → IsTruthAt settings.policy (before ++ e ∷ []) e text → IsTold read settings before e (IsBad (stream_fault_named b)) text
told_of_success read settings before e (bad.NoEnvelope fault) text h told = absurd cc
told_of_success read settings before e bad.DuplicateId text h told = absurd cc
told_of_success read settings before e bad.DuplicateUri text h told = absurd cc
told_of_success read settings before e bad.UnknownReference text h told = absurd cc
told_of_success read settings before e bad.DocumentOfRefusedSource text h told = absurd cc
told_of_success read settings before e bad.TreeDiffers text h told = absurd cc
told_of_success read settings before e bad.PickleDiffers text h told = absurd cc
told_of_success read settings before e bad.ParseErrorOfGoodSource text h told = absurd cc
told_of_success read settings before e bad.CaseStepsDiffer text h told = absurd cc
told_of_success read settings before e bad.AttemptNumber text h told = absurd cc
told_of_success read settings before e bad.AttemptOverlap text h told = absurd cc
told_of_success read settings before e bad.StepOrder text h told = absurd cc
told_of_success read settings before e bad.FinishedEarly text h told = absurd cc
told_of_success read settings before e bad.SecondRunStarted text h told = absurd cc
told_of_success read settings before e bad.OutsideRun text h told = absurd cc
told_of_success read settings before e bad.AfterRunFinished text h told = absurd cc
told_of_success read settings before e bad.AttemptOpen text h told = absurd cc
told_of_success read settings before e bad.SourceIncomplete text h told = absurd cc
told_of_success read settings before e bad.SuccessDiffers text h told = told
told_of_success read settings before e bad.NoRunFinished text h told = absurd cc
told_of_success read settings before e bad.RunHookOpen text h told = absurd cc
told_of_success read settings before e bad.RunHookTwice text h told = absurd cc

pub told_of_refused : (read : Utf8 → Reading) (settings : Settings) (before : List Envelope) (e : Envelope) (b : StreamFault) (text : List ℕ) → is_of_refused b ≡ true → IsRefusedAt (before ++ e ∷ []) e text → IsTold read settings before e (IsBad (stream_fault_named b)) text
told_of_refused read settings before e (bad.NoEnvelope fault) text h told = absurd cc
told_of_refused read settings before e bad.DuplicateId text h told = absurd cc
told_of_refused read settings before e bad.DuplicateUri text h told = absurd cc
told_of_refused read settings before e bad.UnknownReference text h told = absurd cc
told_of_refused read settings before e bad.DocumentOfRefusedSource text h told = told
told_of_refused read settings before e bad.TreeDiffers text h told = absurd cc
told_of_refused read settings before e bad.PickleDiffers text h told = absurd cc
told_of_refused read settings before e bad.ParseErrorOfGoodSource text h told = absurd cc
told_of_refused read settings before e bad.CaseStepsDiffer text h told = absurd cc
told_of_refused read settings before e bad.AttemptNumber text h told = absurd cc
told_of_refused read settings before e bad.AttemptOverlap text h told = absurd cc
told_of_refused read settings before e bad.StepOrder text h told = absurd cc
told_of_refused read settings before e bad.FinishedEarly text h told = absurd cc
told_of_refused read settings before e bad.SecondRunStarted text h told = absurd cc
told_of_refused read settings before e bad.OutsideRun text h told = absurd cc
told_of_refused read settings before e bad.AfterRunFinished text h told = absurd cc
told_of_refused read settings before e bad.AttemptOpen text h told = absurd cc
told_of_refused read settings before e bad.SourceIncomplete text h told = absurd cc
told_of_refused read settings before e bad.SuccessDiffers text h told = absurd cc
told_of_refused read settings before e bad.NoRunFinished text h told = absurd cc
told_of_refused read settings before e bad.RunHookOpen text h told = absurd cc
told_of_refused read settings before e bad.RunHookTwice text h told = absurd cc

-- that of the other faults
pub told_by_lines : (settings : Settings) (s : Summary) (trail : Trail) (before : List Envelope) (e : Envelope) (b : StreamFault) → is_of_source b ≡ false → is_of_success b ≡ false → is_of_refused b ≡ false → (d : IsDeciding settings s trail before e (IsBad (stream_fault_named b)))
    → IsTold d.read settings before e (IsBad (stream_fault_named b)) (lines_by settings s (before ++ e ∷ []) e (IsBad (stream_fault_named b)))
told_by_lines settings s trail before e (bad.NoEnvelope fault) x y z d = lines_deciding settings s trail before e (IsBad (at.NoEnvelope (fault_named fault))) d
told_by_lines settings s trail before e bad.DuplicateId x y z d = lines_deciding settings s trail before e (IsBad at.DuplicateId) d
told_by_lines settings s trail before e bad.DuplicateUri x y z d = lines_deciding settings s trail before e (IsBad at.DuplicateUri) d
told_by_lines settings s trail before e bad.UnknownReference x y z d = lines_deciding settings s trail before e (IsBad at.UnknownReference) d
told_by_lines settings s trail before e bad.DocumentOfRefusedSource x y z d = absurd cc
told_by_lines settings s trail before e bad.TreeDiffers x y z d = absurd cc
told_by_lines settings s trail before e bad.PickleDiffers x y z d = absurd cc
told_by_lines settings s trail before e bad.ParseErrorOfGoodSource x y z d = lines_deciding settings s trail before e (IsBad at.ParseErrorOfGoodSource) d
told_by_lines settings s trail before e bad.CaseStepsDiffer x y z d = lines_deciding settings s trail before e (IsBad at.CaseStepsDiffer) d
told_by_lines settings s trail before e bad.AttemptNumber x y z d = lines_deciding settings s trail before e (IsBad at.AttemptNumber) d
told_by_lines settings s trail before e bad.AttemptOverlap x y z d = lines_deciding settings s trail before e (IsBad at.AttemptOverlap) d
told_by_lines settings s trail before e bad.StepOrder x y z d = lines_deciding settings s trail before e (IsBad at.StepOrder) d
told_by_lines settings s trail before e bad.FinishedEarly x y z d = lines_deciding settings s trail before e (IsBad at.FinishedEarly) d
told_by_lines settings s trail before e bad.SecondRunStarted x y z d = lines_deciding settings s trail before e (IsBad at.SecondRunStarted) d
told_by_lines settings s trail before e bad.OutsideRun x y z d = lines_deciding settings s trail before e (IsBad at.OutsideRun) d
told_by_lines settings s trail before e bad.AfterRunFinished x y z d = lines_deciding settings s trail before e (IsBad at.AfterRunFinished) d
told_by_lines settings s trail before e bad.AttemptOpen x y z d = lines_deciding settings s trail before e (IsBad at.AttemptOpen) d
told_by_lines settings s trail before e bad.SourceIncomplete x y z d = absurd cc
told_by_lines settings s trail before e bad.SuccessDiffers x y z d = absurd cc
told_by_lines settings s trail before e bad.NoRunFinished x y z d = lines_deciding settings s trail before e (IsBad at.NoRunFinished) d
told_by_lines settings s trail before e bad.RunHookOpen x y z d = lines_deciding settings s trail before e (IsBad at.RunHookOpen) d
told_by_lines settings s trail before e bad.RunHookTwice x y z d = lines_deciding settings s trail before e (IsBad at.RunHookTwice) d

-- what is kept has the results, where it is told of the end of a run
pub has_results : (settings : Settings) (s : Summary) (trail : Trail) (before : List Envelope) (e : Envelope) (f : Finding) → IsDeciding settings s trail before e f → HasResults s (before ++ e ∷ []) e
has_results settings s trail before (envelope.TestRunFinished x) f d =
    ap (λ (z : Summary). case_results z.table) d.left ∙ kept_results d.read d.by_the_grammar settings before d.faultless ∙ sym (results_at_end before x)
has_results settings s trail before _ f d = tt

-- ---- the envelope that is judged

abbrev is_after : Finding → Bool
is_after (IsBad at.AfterRunFinished) = true
is_after _ = false

never : (f : Finding) → is_after f ≡ false → (b : Bool) → (if b then Some (IsBad at.AfterRunFinished) else None) ≡ Some f → ⊥
never f other true why =
    let same : IsBad at.AfterRunFinished ≡ f = cc in
    let yes : true ≡ is_after f = ap is_after same in
    cc
never f other false why = cc

-- what has another finding than that the run is over is judged as it is
as_said : (read : Utf8 → Reading) (settings : Settings) (es : List Envelope) (e : Envelope) (f : Finding) → is_after f ≡ false → fault_by read settings es (judged_as settings es e) ≡ Some f → judged_as settings es e ≡ e
as_said read settings es e f other why = go (is_redeclared es e && settings.allows_redeclared) why
  where
    go : (b : Bool) → fault_by read settings es (if b then passed_over else e) ≡ Some f → (if b then passed_over else e) ≡ e
    go false why = refl
    go true why = absurd (never f other (has_run_finished es) why)

-- ---- the line

module _ (settings : Settings) (follows : List Envelope → Type 0) (bytes : List ℕ) (n : ℕ) (kept : Summary) (trail : Trail) (text : List ℕ) (keeps : (es : List Envelope) → follows es → trail ≡ trail_of es) where
  at_fault : (f : Finding) → is_after f ≡ false → (last : Option Envelope) → IfSome last (IsDecidedAt settings follows (λ s. kept ≡ s) bytes n f) → TellsOf settings kept trail last f text → IsToldOfLine settings bytes n f text
  at_fault f other None h told = absurd told
  at_fault f other (Some e) h told =
      let es = judged_in settings h.before in
      let same : judged_as settings es e ≡ e = as_said h.read settings es e f other h.why in
      let deciding : IsDeciding settings kept trail es e f = record {
        read = h.read;
        by_the_grammar = h.by_the_grammar;
        faultless = h.faultless;
        left = h.leaves;
        upto = keeps (es ++ judged_as settings es e ∷ []) h.followed ∙ ap (λ (z : Envelope). trail_of (es ++ z ∷ [])) same;
        why = subst (λ (z : Envelope). fault_by h.read settings es z ≡ Some f) same h.why;
      } in
      record {
        read = h.read;
        by_the_grammar = h.by_the_grammar;
        before = h.before;
        line = h.line;
        after = h.after;
        cut = h.cut;
        count = h.count;
        said = e;
        is_read = h.is_read;
        why = h.why;
        told = told es deciding;
      }

  at_reason : (r : Reason) (last : Option Envelope) → IfSome last (IsDecidedAt settings follows (λ s. ⊤) bytes n (IsUnsupported r)) → TellsReason trail last r text → IsToldOfLine settings bytes n (IsUnsupported r) text
  at_reason r None h told = absurd told
  at_reason r (Some e) h told =
      let es = judged_in settings h.before in
      let same : judged_as settings es e ≡ e = as_said h.read settings es e (IsUnsupported r) refl h.why in
      record {
        read = h.read;
        by_the_grammar = h.by_the_grammar;
        before = h.before;
        line = h.line;
        after = h.after;
        cut = h.cut;
        count = h.count;
        said = e;
        is_read = h.is_read;
        why = h.why;
        told = told (es ++ judged_as settings es e ∷ []) (keeps (es ++ judged_as settings es e ∷ []) h.followed) ∙ ap (λ (z : Envelope). reason_lines r (es ++ z ∷ []) e) same;
      }

  -- of a line after the end of the run nothing is told
  after_run : (last : Option Envelope) → IfSome last (IsDecidedAt settings follows (λ s. kept ≡ s) bytes n (IsBad at.AfterRunFinished)) → IsSomeAnd last (λ e. text ≡ []) → IsToldOfLine settings bytes n (IsBad at.AfterRunFinished) text
  after_run None h told = absurd told
  after_run (Some e) h told = record {
    read = h.read;
    by_the_grammar = h.by_the_grammar;
    before = h.before;
    line = h.line;
    after = h.after;
    cut = h.cut;
    count = h.count;
    said = e;
    is_read = h.is_read;
    why = h.why;
    told = told;
  }

  under_fault : (last : Option Envelope) (b : StreamFault) → DecidesVerdict settings follows last kept bytes (verdict.Bad n b) → (b ≡ bad.NoRunFinished → length (feed_of bytes).lines < n) → TellsFault settings kept trail last b text
      → IsToldUnder settings bytes n (IsBad (stream_fault_named b)) text
  under_fault last (bad.NoEnvelope fault) h past told = told
  under_fault last bad.NoRunFinished h past told =
      let ended = h.1 (past refl) in
      record { whole = ended.whole; told = told (judged_in settings (feed_of bytes).lines) (keeps (judged_in settings (feed_of bytes).lines) ended.followed) }
  under_fault last bad.AfterRunFinished h past told = after_run last (h.0 refl) told
  under_fault last bad.DuplicateId h past told = at_fault (IsBad at.DuplicateId) refl last (h.0 refl) told
  under_fault last bad.DuplicateUri h past told = at_fault (IsBad at.DuplicateUri) refl last (h.0 refl) told
  under_fault last bad.UnknownReference h past told = at_fault (IsBad at.UnknownReference) refl last (h.0 refl) told
  under_fault last bad.DocumentOfRefusedSource h past told = at_fault (IsBad at.DocumentOfRefusedSource) refl last (h.0 refl) told
  under_fault last bad.TreeDiffers h past told = at_fault (IsBad at.TreeDiffers) refl last (h.0 refl) told
  under_fault last bad.PickleDiffers h past told = at_fault (IsBad at.PickleDiffers) refl last (h.0 refl) told
  under_fault last bad.ParseErrorOfGoodSource h past told = at_fault (IsBad at.ParseErrorOfGoodSource) refl last (h.0 refl) told
  under_fault last bad.CaseStepsDiffer h past told = at_fault (IsBad at.CaseStepsDiffer) refl last (h.0 refl) told
  under_fault last bad.AttemptNumber h past told = at_fault (IsBad at.AttemptNumber) refl last (h.0 refl) told
  under_fault last bad.AttemptOverlap h past told = at_fault (IsBad at.AttemptOverlap) refl last (h.0 refl) told
  under_fault last bad.StepOrder h past told = at_fault (IsBad at.StepOrder) refl last (h.0 refl) told
  under_fault last bad.FinishedEarly h past told = at_fault (IsBad at.FinishedEarly) refl last (h.0 refl) told
  under_fault last bad.SecondRunStarted h past told = at_fault (IsBad at.SecondRunStarted) refl last (h.0 refl) told
  under_fault last bad.OutsideRun h past told = at_fault (IsBad at.OutsideRun) refl last (h.0 refl) told
  under_fault last bad.AttemptOpen h past told = at_fault (IsBad at.AttemptOpen) refl last (h.0 refl) told
  under_fault last bad.SourceIncomplete h past told = at_fault (IsBad at.SourceIncomplete) refl last (h.0 refl) told
  under_fault last bad.SuccessDiffers h past told = at_fault (IsBad at.SuccessDiffers) refl last (h.0 refl) told
  under_fault last bad.RunHookOpen h past told = at_fault (IsBad at.RunHookOpen) refl last (h.0 refl) told
  under_fault last bad.RunHookTwice h past told = at_fault (IsBad at.RunHookTwice) refl last (h.0 refl) told

past_all : (settings : Settings) (bytes : List ℕ) (n : ℕ) (b : StreamFault) (success : Bool) (first : FirstFault) → IsFirstFault settings bytes first → answer_in (verdict.Bad n b) success ≡ answer_for first → b ≡ bad.NoRunFinished → length (feed_of bytes).lines < n
past_all settings bytes n b success first is answers e = past_end settings bytes n success first is (ap (λ (z : StreamFault). answer_in (verdict.Bad n z) success) (sym e) ∙ answers)

pub told_with : (settings : Settings) (follows : List Envelope → Type 0) (bytes : List ℕ) (v : Verdict) (success : Bool) (kept : Summary) (trail : Trail) (text : List ℕ) (keeps : (es : List Envelope) → follows es → trail ≡ trail_of es) (last : Option Envelope)
    → (first : FirstFault) → IsFirstFault settings bytes first → answer_in v success ≡ answer_for first → DecidesVerdict settings follows last kept bytes v → TellsWith settings kept trail last v text → IsToldWith settings bytes v text
told_with settings follows bytes (verdict.Good counts) success kept trail text keeps last first is answers h told = tt
told_with settings follows bytes (verdict.Bad n b) success kept trail text keeps last first is answers h told =
    under_fault settings follows bytes n kept trail text keeps last b h (past_all settings bytes n b success first is answers) told
told_with settings follows bytes (verdict.Unsupported n r) success kept trail text keeps last first is answers h told = at_reason settings follows bytes n kept trail text keeps r last h told
