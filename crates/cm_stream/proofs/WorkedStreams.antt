-- Worked streams and runs, computed.
use Rattle.std.proofs.Common.{◌≡◌, ◌+◌, ℕ, refl, Some, None, [], ◌∷◌, ◌++◌, true, false}
use Rattle.std.specs.Prelude.{codes}
use lib.Utf8.{encode}
use Rattle.std.specs.Str.{chars}
use Rattle.gk_line.specs.Lines.{lines_of, numbered_lines, without_mark}
use Rattle.gk_line.specs.Cells.{cells_of, units}
use Rattle.gk_line.specs.Texts.{after, text_after_indent, first_some, trimmed_text}
use Rattle.gk_line.specs.Tokens.{begins_by, fence_of, indent_of, is_blank_line, language_of, step_of, title_of}
use Rattle.gk_grammar.specs.Token.{token_of}
use Rattle.gk_grammar.specs.Documents.{lines_read}
use Rattle.gk_pickle.specs.Fill.{replaced_after}
use Rattle.gk_pickle.specs.Pickles.{pickles}
use Rattle.cm_stream.specs.Skeleton.{same_skeleton}
use Rattle.cm_stream.specs.OnePass.{reads}
use Rattle.cm_stream.specs.Findings.{IsBad, IsUnsupported}
use Rattle.cm_stream.specs.Findings as fault
use Rattle.cm_envelope.specs.declared.envelope.Status.TheVariants as status
use Rattle.cm_stream.specs.declared.laws.Hold.TheVariants as hold
use Rattle.cm_stream.specs.declared.laws.Hold.TheVariants.{NotSuccessful, Empty, Unrun, Retried, Stepless}
use Rattle.cm_stream.specs.declared.laws.Counts.{Counts}
use Rattle.cm_stream.specs.declared.laws.Reason.TheVariants as reason
use Rattle.cm_stream.specs.Release.{each_runs, hold_of, strict_conditions}
use Rattle.cm_stream.specs.declared.laws.ReleaseCounts.{ReleaseCounts}
use Rattle.cm_attempt.specs.declared.status.Policy.TheVariants.{Strict, PendingPasses}
use Rattle.cm_envelope.specs.declared.envelope.Envelope.TheVariants as envelope
use Rattle.cm_stream.proofs.Streaming.{by, one_step, french, source, document, pickle, parse_error, hook, hook_started, hook_finished, one_step_as, one_pickle, outline_front, first_row, second_row, third_row, no_steps_front, empty_case, run_started, run_finished, case, started, step_started, step_finished, finished, Fault, shown, shown_by, shown_redeclared, good}

-- A pickle without a case is counted as not run.
never_run : shown (one_pickle ++ run_started ∷ run_finished true ∷ []) ≡ good 1 1 0 0 1
unfolding reads lines_read lines_of numbered_lines without_mark chars after text_after_indent first_some trimmed_text begins_by fence_of indent_of is_blank_line language_of step_of title_of token_of cells_of units pickles replaced_after same_skeleton encode
never_run = refl

-- The ids of a document are its own; its pickles name nodes by them.
ids_of_the_document : shown (one_step_as (codes "x0") (codes "x1") ++ run_started ∷ run_finished true ∷ []) ≡ good 1 1 0 0 1
unfolding reads lines_read lines_of numbered_lines without_mark chars after text_after_indent first_some trimmed_text begins_by fence_of indent_of is_blank_line language_of step_of title_of token_of cells_of units pickles replaced_after same_skeleton encode
ids_of_the_document = refl

-- A pickle that names nodes by their numbers differs where the document has other ids.
numbers_in_place_of_ids : shown (source (codes "a") one_step ∷ document (codes "a") one_step (codes "x0" ∷ codes "x1" ∷ []) ∷ pickle (codes "a") (codes "3") (codes "0" ∷ []) (codes "2") (codes "a") (codes "1" ∷ []) ∷ run_started ∷ run_finished true ∷ []) ≡ Fault 3 (IsBad fault.PickleDiffers)
unfolding reads lines_read lines_of numbered_lines without_mark chars after text_after_indent first_some trimmed_text begins_by fence_of indent_of is_blank_line language_of step_of title_of token_of cells_of units pickles replaced_after same_skeleton encode
numbers_in_place_of_ids = refl

-- The final attempt passed.
retried_then_passed : shown (one_pickle ++ run_started ∷ case (codes "c1") ∷ started (codes "a1") (codes "c1") 0 ∷ step_started (codes "a1") ∷ step_finished (codes "a1") status.Failed ∷ finished (codes "a1") true ∷ started (codes "a2") (codes "c1") 1 ∷ step_started (codes "a2") ∷ step_finished (codes "a2") status.Passed ∷ finished (codes "a2") false ∷ run_finished true ∷ []) ≡ good 1 1 1 2 0
unfolding reads lines_read lines_of numbered_lines without_mark chars after text_after_indent first_some trimmed_text begins_by fence_of indent_of is_blank_line language_of step_of title_of token_of cells_of units pickles replaced_after same_skeleton encode
retried_then_passed = refl

-- The final attempt failed, and success is said.
retried_then_failed : shown (one_pickle ++ run_started ∷ case (codes "c1") ∷ started (codes "a1") (codes "c1") 0 ∷ step_started (codes "a1") ∷ step_finished (codes "a1") status.Pending ∷ finished (codes "a1") true ∷ started (codes "a2") (codes "c1") 1 ∷ step_started (codes "a2") ∷ step_finished (codes "a2") status.Failed ∷ finished (codes "a2") false ∷ run_finished true ∷ []) ≡ Fault 14 (IsBad fault.SuccessDiffers)
unfolding reads lines_read lines_of numbered_lines without_mark chars after text_after_indent first_some trimmed_text begins_by fence_of indent_of is_blank_line language_of step_of title_of token_of cells_of units pickles replaced_after same_skeleton encode
retried_then_failed = refl

-- The final attempt failed, and no success is said.
retried_then_failed_and_said : shown (one_pickle ++ run_started ∷ case (codes "c1") ∷ started (codes "a1") (codes "c1") 0 ∷ step_started (codes "a1") ∷ step_finished (codes "a1") status.Pending ∷ finished (codes "a1") true ∷ started (codes "a2") (codes "c1") 1 ∷ step_started (codes "a2") ∷ step_finished (codes "a2") status.Failed ∷ finished (codes "a2") false ∷ run_finished false ∷ []) ≡ good 1 1 1 2 0
unfolding reads lines_read lines_of numbered_lines without_mark chars after text_after_indent first_some trimmed_text begins_by fence_of indent_of is_blank_line language_of step_of title_of token_of cells_of units pickles replaced_after same_skeleton encode
retried_then_failed_and_said = refl

-- Attempts of two cases of one pickle interleave.
interleaved_attempts : shown (one_pickle ++ run_started ∷ case (codes "c1") ∷ case (codes "c2") ∷ started (codes "a1") (codes "c1") 0 ∷ started (codes "b1") (codes "c2") 0 ∷ step_started (codes "a1") ∷ step_started (codes "b1") ∷ step_finished (codes "a1") status.Passed ∷ step_finished (codes "b1") status.Skipped ∷ finished (codes "b1") false ∷ finished (codes "a1") false ∷ run_finished true ∷ []) ≡ good 1 1 2 2 0
unfolding reads lines_read lines_of numbered_lines without_mark chars after text_after_indent first_some trimmed_text begins_by fence_of indent_of is_blank_line language_of step_of title_of token_of cells_of units pickles replaced_after same_skeleton encode
interleaved_attempts = refl

-- A case comes before its pickle.
case_before_its_pickle : shown (source (codes "a") one_step ∷ document (codes "a") one_step (codes "0" ∷ codes "1" ∷ []) ∷ case (codes "c1") ∷ pickle (codes "a") (codes "3") (codes "0" ∷ []) (codes "2") (codes "a") (codes "1" ∷ []) ∷ run_started ∷ run_finished false ∷ []) ≡ Fault 3 (IsBad fault.UnknownReference)
unfolding reads lines_read lines_of numbered_lines without_mark chars after text_after_indent first_some trimmed_text begins_by fence_of indent_of is_blank_line language_of step_of title_of token_of cells_of units pickles replaced_after same_skeleton encode
case_before_its_pickle = refl

-- Each row of an outline has its pickle.
all_pickles : shown (outline_front ++ first_row ∷ second_row ∷ third_row (codes "12") ∷ run_started ∷ run_finished true ∷ []) ≡ good 1 3 0 0 3
unfolding reads lines_read lines_of numbered_lines without_mark chars after text_after_indent first_some trimmed_text begins_by fence_of indent_of is_blank_line language_of step_of title_of token_of cells_of units pickles replaced_after same_skeleton encode
all_pickles = refl

-- A pickle is missing.
missing_pickle : shown (outline_front ++ first_row ∷ second_row ∷ run_started ∷ run_finished true ∷ []) ≡ Fault 6 (IsBad fault.SourceIncomplete)
unfolding reads lines_read lines_of numbered_lines without_mark chars after text_after_indent first_some trimmed_text begins_by fence_of indent_of is_blank_line language_of step_of title_of token_of cells_of units pickles replaced_after same_skeleton encode
missing_pickle = refl

-- A pickle comes again.
repeated_pickle : shown (outline_front ++ first_row ∷ second_row ∷ third_row (codes "12") ∷ third_row (codes "13") ∷ run_started ∷ run_finished true ∷ []) ≡ Fault 6 (IsBad fault.PickleDiffers)
unfolding reads lines_read lines_of numbered_lines without_mark chars after text_after_indent first_some trimmed_text begins_by fence_of indent_of is_blank_line language_of step_of title_of token_of cells_of units pickles replaced_after same_skeleton encode
repeated_pickle = refl

-- Two pickles are exchanged.
exchanged_pickles : shown (outline_front ++ second_row ∷ first_row ∷ third_row (codes "12") ∷ run_started ∷ run_finished true ∷ []) ≡ Fault 3 (IsBad fault.PickleDiffers)
unfolding reads lines_read lines_of numbered_lines without_mark chars after text_after_indent first_some trimmed_text begins_by fence_of indent_of is_blank_line language_of step_of title_of token_of cells_of units pickles replaced_after same_skeleton encode
exchanged_pickles = refl

-- A case that never ran is no success.
case_never_ran : shown (one_pickle ++ run_started ∷ case (codes "c1") ∷ run_finished false ∷ []) ≡ good 1 1 1 0 0
unfolding reads lines_read lines_of numbered_lines without_mark chars after text_after_indent first_some trimmed_text begins_by fence_of indent_of is_blank_line language_of step_of title_of token_of cells_of units pickles replaced_after same_skeleton encode
case_never_ran = refl

-- Success is said where a case never ran.
case_never_ran_as_success : shown (one_pickle ++ run_started ∷ case (codes "c1") ∷ run_finished true ∷ []) ≡ Fault 6 (IsBad fault.SuccessDiffers)
unfolding reads lines_read lines_of numbered_lines without_mark chars after text_after_indent first_some trimmed_text begins_by fence_of indent_of is_blank_line language_of step_of title_of token_of cells_of units pickles replaced_after same_skeleton encode
case_never_ran_as_success = refl

-- A scenario without steps gives a pickle without steps, whose case passes without one.
no_steps_to_run : shown (no_steps_front ++ run_started ∷ empty_case ∷ started (codes "a1") (codes "c1") 0 ∷ finished (codes "a1") false ∷ run_finished true ∷ []) ≡ good 1 1 1 1 0
unfolding reads lines_read lines_of numbered_lines without_mark chars after text_after_indent first_some trimmed_text begins_by fence_of indent_of is_blank_line language_of step_of title_of token_of cells_of units pickles replaced_after same_skeleton encode
no_steps_to_run = refl

-- An attempt has a number too high.
number_left_out : shown (one_pickle ++ run_started ∷ case (codes "c1") ∷ started (codes "a1") (codes "c1") 0 ∷ step_started (codes "a1") ∷ step_finished (codes "a1") status.Failed ∷ finished (codes "a1") true ∷ started (codes "a2") (codes "c1") 2 ∷ []) ≡ Fault 10 (IsBad fault.AttemptNumber)
unfolding reads lines_read lines_of numbered_lines without_mark chars after text_after_indent first_some trimmed_text begins_by fence_of indent_of is_blank_line language_of step_of title_of token_of cells_of units pickles replaced_after same_skeleton encode
number_left_out = refl

-- An attempt starts beside another of its case.
overlapping_attempts : shown (one_pickle ++ run_started ∷ case (codes "c1") ∷ started (codes "a1") (codes "c1") 0 ∷ started (codes "a2") (codes "c1") 1 ∷ []) ≡ Fault 7 (IsBad fault.AttemptOverlap)
unfolding reads lines_read lines_of numbered_lines without_mark chars after text_after_indent first_some trimmed_text begins_by fence_of indent_of is_blank_line language_of step_of title_of token_of cells_of units pickles replaced_after same_skeleton encode
overlapping_attempts = refl

-- An attempt starts after the final one.
attempt_after_the_final : shown (one_pickle ++ run_started ∷ case (codes "c1") ∷ started (codes "a1") (codes "c1") 0 ∷ step_started (codes "a1") ∷ step_finished (codes "a1") status.Failed ∷ finished (codes "a1") true ∷ started (codes "a2") (codes "c1") 1 ∷ step_started (codes "a2") ∷ step_finished (codes "a2") status.Passed ∷ finished (codes "a2") false ∷ started (codes "a3") (codes "c1") 2 ∷ []) ≡ Fault 14 (IsBad fault.AttemptOverlap)
unfolding reads lines_read lines_of numbered_lines without_mark chars after text_after_indent first_some trimmed_text begins_by fence_of indent_of is_blank_line language_of step_of title_of token_of cells_of units pickles replaced_after same_skeleton encode
attempt_after_the_final = refl

-- A step finishes that did not start.
step_not_started : shown (one_pickle ++ run_started ∷ case (codes "c1") ∷ started (codes "a1") (codes "c1") 0 ∷ step_finished (codes "a1") status.Failed ∷ []) ≡ Fault 7 (IsBad fault.StepOrder)
unfolding reads lines_read lines_of numbered_lines without_mark chars after text_after_indent first_some trimmed_text begins_by fence_of indent_of is_blank_line language_of step_of title_of token_of cells_of units pickles replaced_after same_skeleton encode
step_not_started = refl

-- A step finishes twice.
step_finishes_twice : shown (one_pickle ++ run_started ∷ case (codes "c1") ∷ started (codes "a1") (codes "c1") 0 ∷ step_started (codes "a1") ∷ step_finished (codes "a1") status.Failed ∷ step_finished (codes "a1") status.Failed ∷ []) ≡ Fault 9 (IsBad fault.StepOrder)
unfolding reads lines_read lines_of numbered_lines without_mark chars after text_after_indent first_some trimmed_text begins_by fence_of indent_of is_blank_line language_of step_of title_of token_of cells_of units pickles replaced_after same_skeleton encode
step_finishes_twice = refl

-- An attempt finishes before its steps.
finished_early : shown (one_pickle ++ run_started ∷ case (codes "c1") ∷ started (codes "a1") (codes "c1") 0 ∷ finished (codes "a1") false ∷ []) ≡ Fault 7 (IsBad fault.FinishedEarly)
unfolding reads lines_read lines_of numbered_lines without_mark chars after text_after_indent first_some trimmed_text begins_by fence_of indent_of is_blank_line language_of step_of title_of token_of cells_of units pickles replaced_after same_skeleton encode
finished_early = refl

-- An attempt names a step that its case has not.
step_of_another_case : shown (one_pickle ++ run_started ∷ case (codes "c1") ∷ started (codes "a1") (codes "c1") 0 ∷ envelope.TestStepStarted (record { test_case_started_id = codes "a1"; test_step_id = codes "t9" }) ∷ []) ≡ Fault 7 (IsBad fault.UnknownReference)
unfolding reads lines_read lines_of numbered_lines without_mark chars after text_after_indent first_some trimmed_text begins_by fence_of indent_of is_blank_line language_of step_of title_of token_of cells_of units pickles replaced_after same_skeleton encode
step_of_another_case = refl

-- The run finishes inside an attempt.
run_finished_inside_an_attempt : shown (one_pickle ++ run_started ∷ case (codes "c1") ∷ started (codes "a1") (codes "c1") 0 ∷ step_started (codes "a1") ∷ step_finished (codes "a1") status.Failed ∷ run_finished false ∷ []) ≡ Fault 9 (IsBad fault.AttemptOpen)
unfolding reads lines_read lines_of numbered_lines without_mark chars after text_after_indent first_some trimmed_text begins_by fence_of indent_of is_blank_line language_of step_of title_of token_of cells_of units pickles replaced_after same_skeleton encode
run_finished_inside_an_attempt = refl

-- The run does not finish: the fault comes after the last line.
no_run_finished : shown (one_pickle ++ run_started ∷ case (codes "c1") ∷ []) ≡ Fault 6 (IsBad fault.NoRunFinished)
unfolding reads lines_read lines_of numbered_lines without_mark chars after text_after_indent first_some trimmed_text begins_by fence_of indent_of is_blank_line language_of step_of title_of token_of cells_of units pickles replaced_after same_skeleton encode
no_run_finished = refl

-- A hook is declared twice.
hook_declared_twice : shown (hook ∷ hook ∷ []) ≡ Fault 2 (IsBad fault.DuplicateId)
unfolding reads lines_read lines_of numbered_lines without_mark chars after text_after_indent first_some trimmed_text begins_by fence_of indent_of is_blank_line language_of step_of title_of token_of cells_of units pickles replaced_after same_skeleton encode
hook_declared_twice = refl

-- A hook that may be declared again is passed over, and not after the run.
hook_passed_over : shown_redeclared (hook ∷ run_started ∷ hook ∷ hook_started (codes "r1") ∷ hook_finished (codes "r1") status.Passed ∷ run_finished true ∷ []) ≡ good 0 0 0 0 0
hook_passed_over = refl

hook_after_the_run : shown_redeclared (hook ∷ run_started ∷ run_finished true ∷ hook ∷ []) ≡ Fault 4 (IsBad fault.AfterRunFinished)
hook_after_the_run = refl

-- A run hook that starts again isn't.
run_hook_not_passed_over : shown_redeclared (hook ∷ run_started ∷ hook_started (codes "r1") ∷ hook_started (codes "r1") ∷ []) ≡ Fault 4 (IsBad fault.DuplicateId)
run_hook_not_passed_over = refl

-- A text in another language is not judged.
another_language : shown (source (codes "f") french ∷ []) ≡ Fault 1 (IsUnsupported reason.Language)
unfolding reads lines_read lines_of numbered_lines without_mark chars after text_after_indent first_some trimmed_text begins_by fence_of indent_of is_blank_line language_of step_of title_of token_of cells_of units pickles replaced_after same_skeleton encode
another_language = refl

-- A source of another media type is not judged.
another_media_type : shown (envelope.Source (record { uri = codes "m"; content = one_step; media_type = codes "text/x.cucumber.gherkin+markdown" }) ∷ []) ≡ Fault 1 (IsUnsupported reason.MediaType)
unfolding reads lines_read lines_of numbered_lines without_mark chars after text_after_indent first_some trimmed_text begins_by fence_of indent_of is_blank_line language_of step_of title_of token_of cells_of units pickles replaced_after same_skeleton encode
another_media_type = refl

-- A status that is not known is not judged.
unknown_status : shown (one_pickle ++ run_started ∷ case (codes "c1") ∷ started (codes "a1") (codes "c1") 0 ∷ step_started (codes "a1") ∷ step_finished (codes "a1") status.Unknown ∷ []) ≡ Fault 8 (IsUnsupported reason.UnknownStatus)
unfolding reads lines_read lines_of numbered_lines without_mark chars after text_after_indent first_some trimmed_text begins_by fence_of indent_of is_blank_line language_of step_of title_of token_of cells_of units pickles replaced_after same_skeleton encode
unknown_status = refl

-- A refused source is no success.
refused_source : shown (source (codes "b") (codes "Given x") ∷ parse_error (codes "b") ∷ run_started ∷ run_finished false ∷ []) ≡ good 1 0 0 0 0
unfolding reads lines_read lines_of numbered_lines without_mark chars after text_after_indent first_some trimmed_text begins_by fence_of indent_of is_blank_line language_of step_of title_of token_of cells_of units pickles replaced_after same_skeleton encode
refused_source = refl

-- Success is said where a source is refused.
refused_source_as_success : shown (source (codes "b") (codes "Given x") ∷ parse_error (codes "b") ∷ run_started ∷ run_finished true ∷ []) ≡ Fault 4 (IsBad fault.SuccessDiffers)
unfolding reads lines_read lines_of numbered_lines without_mark chars after text_after_indent first_some trimmed_text begins_by fence_of indent_of is_blank_line language_of step_of title_of token_of cells_of units pickles replaced_after same_skeleton encode
refused_source_as_success = refl

-- A parse error names a source that is accepted.
parse_error_of_a_good_source : shown (source (codes "a") one_step ∷ parse_error (codes "a") ∷ []) ≡ Fault 2 (IsBad fault.ParseErrorOfGoodSource)
unfolding reads lines_read lines_of numbered_lines without_mark chars after text_after_indent first_some trimmed_text begins_by fence_of indent_of is_blank_line language_of step_of title_of token_of cells_of units pickles replaced_after same_skeleton encode
parse_error_of_a_good_source = refl

-- Success is said where the run has an exception.
exception_as_success : shown (one_pickle ++ run_started ∷ envelope.TestRunFinished (record { test_run_started_id = None; success = true; has_exception = true }) ∷ []) ≡ Fault 5 (IsBad fault.SuccessDiffers)
unfolding reads lines_read lines_of numbered_lines without_mark chars after text_after_indent first_some trimmed_text begins_by fence_of indent_of is_blank_line language_of step_of title_of token_of cells_of units pickles replaced_after same_skeleton encode
exception_as_success = refl

-- A run hook is started and finished.
run_hook_passed : shown (one_pickle ++ hook ∷ run_started ∷ hook_started (codes "r1") ∷ hook_finished (codes "r1") status.Passed ∷ run_finished true ∷ []) ≡ good 1 1 0 0 1
unfolding reads lines_read lines_of numbered_lines without_mark chars after text_after_indent first_some trimmed_text begins_by fence_of indent_of is_blank_line language_of step_of title_of token_of cells_of units pickles replaced_after same_skeleton encode
run_hook_passed = refl

-- Success is said where a run hook failed.
run_hook_failed_as_success : shown (one_pickle ++ hook ∷ run_started ∷ hook_started (codes "r1") ∷ hook_finished (codes "r1") status.Failed ∷ run_finished true ∷ []) ≡ Fault 8 (IsBad fault.SuccessDiffers)
unfolding reads lines_read lines_of numbered_lines without_mark chars after text_after_indent first_some trimmed_text begins_by fence_of indent_of is_blank_line language_of step_of title_of token_of cells_of units pickles replaced_after same_skeleton encode
run_hook_failed_as_success = refl

-- A run hook failed, and no success is said.
run_hook_failed_and_said : shown (one_pickle ++ hook ∷ run_started ∷ hook_started (codes "r1") ∷ hook_finished (codes "r1") status.Failed ∷ run_finished false ∷ []) ≡ good 1 1 0 0 1
unfolding reads lines_read lines_of numbered_lines without_mark chars after text_after_indent first_some trimmed_text begins_by fence_of indent_of is_blank_line language_of step_of title_of token_of cells_of units pickles replaced_after same_skeleton encode
run_hook_failed_and_said = refl

-- A run hook is of no hook.
run_hook_of_no_hook : shown (one_pickle ++ run_started ∷ hook_started (codes "r1") ∷ []) ≡ Fault 5 (IsBad fault.UnknownReference)
unfolding reads lines_read lines_of numbered_lines without_mark chars after text_after_indent first_some trimmed_text begins_by fence_of indent_of is_blank_line language_of step_of title_of token_of cells_of units pickles replaced_after same_skeleton encode
run_hook_of_no_hook = refl

-- A run hook starts outside the run.
run_hook_outside_the_run : shown (one_pickle ++ hook ∷ hook_started (codes "r1") ∷ []) ≡ Fault 5 (IsBad fault.OutsideRun)
unfolding reads lines_read lines_of numbered_lines without_mark chars after text_after_indent first_some trimmed_text begins_by fence_of indent_of is_blank_line language_of step_of title_of token_of cells_of units pickles replaced_after same_skeleton encode
run_hook_outside_the_run = refl

-- A run hook starts twice.
run_hook_starts_twice : shown (one_pickle ++ hook ∷ run_started ∷ hook_started (codes "r1") ∷ hook_started (codes "r1") ∷ []) ≡ Fault 7 (IsBad fault.DuplicateId)
unfolding reads lines_read lines_of numbered_lines without_mark chars after text_after_indent first_some trimmed_text begins_by fence_of indent_of is_blank_line language_of step_of title_of token_of cells_of units pickles replaced_after same_skeleton encode
run_hook_starts_twice = refl

-- A run hook is finished twice.
run_hook_finished_twice : shown (one_pickle ++ hook ∷ run_started ∷ hook_started (codes "r1") ∷ hook_finished (codes "r1") status.Passed ∷ hook_finished (codes "r1") status.Passed ∷ []) ≡ Fault 8 (IsBad fault.RunHookTwice)
unfolding reads lines_read lines_of numbered_lines without_mark chars after text_after_indent first_some trimmed_text begins_by fence_of indent_of is_blank_line language_of step_of title_of token_of cells_of units pickles replaced_after same_skeleton encode
run_hook_finished_twice = refl

-- A run hook isn't finished.
run_hook_not_finished : shown (one_pickle ++ hook ∷ run_started ∷ hook_started (codes "r1") ∷ run_finished true ∷ []) ≡ Fault 7 (IsBad fault.RunHookOpen)
unfolding reads lines_read lines_of numbered_lines without_mark chars after text_after_indent first_some trimmed_text begins_by fence_of indent_of is_blank_line language_of step_of title_of token_of cells_of units pickles replaced_after same_skeleton encode
run_hook_not_finished = refl

-- The result of a run hook isn't known.
run_hook_of_unknown_status : shown (one_pickle ++ hook ∷ run_started ∷ hook_started (codes "r1") ∷ hook_finished (codes "r1") status.Unknown ∷ []) ≡ Fault 7 (IsUnsupported reason.UnknownStatus)
unfolding reads lines_read lines_of numbered_lines without_mark chars after text_after_indent first_some trimmed_text begins_by fence_of indent_of is_blank_line language_of step_of title_of token_of cells_of units pickles replaced_after same_skeleton encode
run_hook_of_unknown_status = refl

-- Attempts are numbered from 1.
numbered_from_one : shown_by (by Strict 1) (one_pickle ++ run_started ∷ case (codes "c1") ∷ started (codes "a1") (codes "c1") 1 ∷ step_started (codes "a1") ∷ step_finished (codes "a1") status.Failed ∷ finished (codes "a1") true ∷ started (codes "a2") (codes "c1") 2 ∷ step_started (codes "a2") ∷ step_finished (codes "a2") status.Passed ∷ finished (codes "a2") false ∷ run_finished true ∷ []) ≡ good 1 1 1 2 0
unfolding reads lines_read lines_of numbered_lines without_mark chars after text_after_indent first_some trimmed_text begins_by fence_of indent_of is_blank_line language_of step_of title_of token_of cells_of units pickles replaced_after same_skeleton encode
numbered_from_one = refl

-- There the first attempt isn't number 0.
numbered_from_zero_where_one_is_due : shown_by (by Strict 1) (one_pickle ++ run_started ∷ case (codes "c1") ∷ started (codes "a1") (codes "c1") 0 ∷ step_started (codes "a1") ∷ step_finished (codes "a1") status.Failed ∷ finished (codes "a1") true ∷ started (codes "a2") (codes "c1") 1 ∷ step_started (codes "a2") ∷ step_finished (codes "a2") status.Passed ∷ finished (codes "a2") false ∷ run_finished true ∷ []) ≡ Fault 6 (IsBad fault.AttemptNumber)
unfolding reads lines_read lines_of numbered_lines without_mark chars after text_after_indent first_some trimmed_text begins_by fence_of indent_of is_blank_line language_of step_of title_of token_of cells_of units pickles replaced_after same_skeleton encode
numbered_from_zero_where_one_is_due = refl

-- Where attempts are numbered from 0, the first isn't number 1.
numbered_from_one_where_zero_is_due : shown (one_pickle ++ run_started ∷ case (codes "c1") ∷ started (codes "a1") (codes "c1") 1 ∷ step_started (codes "a1") ∷ step_finished (codes "a1") status.Failed ∷ finished (codes "a1") true ∷ started (codes "a2") (codes "c1") 2 ∷ step_started (codes "a2") ∷ step_finished (codes "a2") status.Passed ∷ finished (codes "a2") false ∷ run_finished true ∷ []) ≡ Fault 6 (IsBad fault.AttemptNumber)
unfolding reads lines_read lines_of numbered_lines without_mark chars after text_after_indent first_some trimmed_text begins_by fence_of indent_of is_blank_line language_of step_of title_of token_of cells_of units pickles replaced_after same_skeleton encode
numbered_from_one_where_zero_is_due = refl

-- A pending attempt is no success.
pending_as_success : shown_by (by Strict 0) (one_pickle ++ run_started ∷ case (codes "c1") ∷ started (codes "a1") (codes "c1") 0 ∷ step_started (codes "a1") ∷ step_finished (codes "a1") status.Pending ∷ finished (codes "a1") false ∷ run_finished true ∷ []) ≡ Fault 10 (IsBad fault.SuccessDiffers)
unfolding reads lines_read lines_of numbered_lines without_mark chars after text_after_indent first_some trimmed_text begins_by fence_of indent_of is_blank_line language_of step_of title_of token_of cells_of units pickles replaced_after same_skeleton encode
pending_as_success = refl

-- A pending attempt is a success where pending passes.
pending_passes : shown_by (by PendingPasses 0) (one_pickle ++ run_started ∷ case (codes "c1") ∷ started (codes "a1") (codes "c1") 0 ∷ step_started (codes "a1") ∷ step_finished (codes "a1") status.Pending ∷ finished (codes "a1") false ∷ run_finished true ∷ []) ≡ good 1 1 1 1 0
unfolding reads lines_read lines_of numbered_lines without_mark chars after text_after_indent first_some trimmed_text begins_by fence_of indent_of is_blank_line language_of step_of title_of token_of cells_of units pickles replaced_after same_skeleton encode
pending_passes = refl

-- There no failure is said of it.
pending_passes_and_failure_is_said : shown_by (by PendingPasses 0) (one_pickle ++ run_started ∷ case (codes "c1") ∷ started (codes "a1") (codes "c1") 0 ∷ step_started (codes "a1") ∷ step_finished (codes "a1") status.Pending ∷ finished (codes "a1") false ∷ run_finished false ∷ []) ≡ Fault 10 (IsBad fault.SuccessDiffers)
unfolding reads lines_read lines_of numbered_lines without_mark chars after text_after_indent first_some trimmed_text begins_by fence_of indent_of is_blank_line language_of step_of title_of token_of cells_of units pickles replaced_after same_skeleton encode
pending_passes_and_failure_is_said = refl

-- An undefined attempt is no success where pending passes.
undefined_as_success : shown_by (by PendingPasses 0) (one_pickle ++ run_started ∷ case (codes "c1") ∷ started (codes "a1") (codes "c1") 0 ∷ step_started (codes "a1") ∷ step_finished (codes "a1") status.Undefined ∷ finished (codes "a1") false ∷ run_finished true ∷ []) ≡ Fault 10 (IsBad fault.SuccessDiffers)
unfolding reads lines_read lines_of numbered_lines without_mark chars after text_after_indent first_some trimmed_text begins_by fence_of indent_of is_blank_line language_of step_of title_of token_of cells_of units pickles replaced_after same_skeleton encode
undefined_as_success = refl

-- A pending run hook is a success where pending passes.
pending_run_hook_passes : shown_by (by PendingPasses 0) (one_pickle ++ hook ∷ run_started ∷ hook_started (codes "r1") ∷ hook_finished (codes "r1") status.Pending ∷ run_finished true ∷ []) ≡ good 1 1 0 0 1
unfolding reads lines_read lines_of numbered_lines without_mark chars after text_after_indent first_some trimmed_text begins_by fence_of indent_of is_blank_line language_of step_of title_of token_of cells_of units pickles replaced_after same_skeleton encode
pending_run_hook_passes = refl

-- a stream with so many cases and pickles without one
abbrev counted : (cases unrun : ℕ) → Counts
counted cases unrun = record { sources = 1; pickles = cases + unrun; cases = cases; attempts = cases; unrun = unrun }

-- so many pickles that may not be without a case, and so much of all else
abbrev found : (missed others : ℕ) → ReleaseCounts
found missed others = record { missed = missed; retried = others; skipped = others; stepless = others; undefined = others }

-- A run without success and without a case is held for the first.
held_without_success : hold_of strict_conditions false (counted 0 0) (found 1 1) ≡ Some NotSuccessful
held_without_success = refl

-- A run that succeeds without a case is held, also where pickles may be unrun.
held_without_a_case : hold_of (record strict_conditions { allows_unrun = true }) true (counted 0 1) (found 0 1) ≡ Some Empty
held_without_a_case = refl

-- A part that succeeds without a case isn't held.
part_without_a_case : hold_of (record strict_conditions { is_part = true }) true (counted 0 1) (found 0 0) ≡ None
part_without_a_case = refl

-- A pickle that may not be without a case holds a run, whatever else is asked.
held_with_a_pickle_unrun : hold_of each_runs true (counted 1 1) (found 1 0) ≡ Some Unrun
held_with_a_pickle_unrun = refl

held_for_a_pickle_first : hold_of strict_conditions true (counted 1 1) (found 1 1) ≡ Some Unrun
held_for_a_pickle_first = refl

released_with_a_pickle_unrun : hold_of each_runs true (counted 1 1) (found 0 1) ≡ None
released_with_a_pickle_unrun = refl

-- of what is asked for the first that holds is told
held_for_a_retry : hold_of strict_conditions true (counted 1 0) (found 0 1) ≡ Some Retried
held_for_a_retry = refl

held_for_a_skip : hold_of (record strict_conditions { no_retries = false }) true (counted 1 0) (found 0 1) ≡ Some hold.Skipped
held_for_a_skip = refl

held_without_steps : hold_of (record each_runs { no_stepless = true; no_undefined = true }) true (counted 1 0) (found 0 1) ≡ Some Stepless
held_without_steps = refl

held_undefined : hold_of (record each_runs { no_undefined = true }) true (counted 1 0) (found 0 1) ≡ Some hold.Undefined
held_undefined = refl
