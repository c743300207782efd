use Rattle.std.proofs.Common.{◌∙◌, ap, sym, map, ◌++◌, ◌∷◌, []}
use Rattle.std.specs.String.{string_bytes}
use Rattle.cm_attempt.specs.Table.{has_text}
use Rattle.cm_cases.proofs.ListingLemmas.{on_ok}
use Rattle.cm_release.specs.Kept.{all_unmatched}
use Rattle.cm_release.specs.declared.tally.Kept.{Kept}
use Rattle.cm_release.specs.declared.tally.PickleEntry.{PickleEntry}
use Rattle.cm_release.specs.declared.tally.StartEntry.{StartEntry}
use Rattle.cm_release.proofs.KeptLemmas.{case_noted, finish_noted, on_two, other_noted, pickle_noted, start_noted}
use Rattle.cm_release.proofs.tally.Keeping.note.Goals as goal

pub returns-in_ok-pickle_entry-in-Pickle : goal.returns-in_ok-pickle_entry-in-Pickle
returns-in_ok-pickle_entry-in-Pickle c =
    on_ok c.push.result c.push.ensures.ok
    (λ pushed es was.
    rw c.in-Pickle.is (
      pickle_noted c.args.self.now.kept es c.in-Pickle.pickle c.push.new.self was.0
          (pushed ∙ ap (λ (x : PickleEntry). c.args.self.now.kept.pickles ++ x ∷ []) c.in_ok-pickle_entry-in-Pickle.ensures),
      was.1,
    ))

pub returns-in-TestCase : goal.returns-in-TestCase
returns-in-TestCase c =
    on_two c.note_case.result c.note_case.ensures.kept c.note_case.ensures.unmatched
    (λ kept has es was. rw c.in-TestCase.is (case_noted c.args.self.now.kept c.note_case.new.self.kept es c.in-TestCase.case was.0 kept, has was.1))

pub returns-in_ok-start_entry-in-TestCaseStarted : goal.returns-in_ok-start_entry-in-TestCaseStarted
returns-in_ok-start_entry-in-TestCaseStarted c =
    on_ok c.push-in-TestCaseStarted.result c.push-in-TestCaseStarted.ensures.ok
    (λ pushed es was.
    rw c.in-TestCaseStarted.is (
      start_noted c.args.self.now.kept es c.in-TestCaseStarted.start c.push-in-TestCaseStarted.new.self was.0
          (pushed ∙ ap (λ (x : StartEntry). c.args.self.now.kept.starts ++ x ∷ []) c.in_ok-start_entry-in-TestCaseStarted.ensures),
      was.1,
    ))

pub returns-in-TestStepFinished : goal.returns-in-TestStepFinished
returns-in-TestStepFinished c =
    on_ok c.note_finish.result c.note_finish.ensures
    (λ kept es was.
    rw c.in-TestStepFinished.is (
      finish_noted c.args.self.now.kept c.note_finish.new.kept (map string_bytes c.args.self.now.unmatched.keys) es c.in-TestStepFinished.finish was.0 was.1 kept,
      λ text. was.1 text ∙ ap (λ (k : Kept). has_text text (all_unmatched k.cases)) (sym kept),
    ))

pub returns-in_default : goal.returns-in_default
returns-in_default c es was =
    (was.0 ∙ other_noted es c.args.envelope.now c.in_default.not-Pickle c.in_default.not-TestCase c.in_default.not-TestCaseStarted c.in_default.not-TestStepFinished, was.1)
