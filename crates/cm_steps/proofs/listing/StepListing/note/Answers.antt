use Rattle.std.proofs.Common.{◌∙◌, ap, ◌++◌, ◌∷◌, [], List}
use Rattle.cm_stream.specs.Texts.{Utf8}
use Rattle.cm_cases.proofs.ListingLemmas.{on_ok}
use Rattle.cm_steps.specs.declared.listing.StartEntry.{StartEntry}
use Rattle.cm_steps.proofs.ListingLemmas.{case_noted, document_noted, end_noted, other_noted, pickle_noted, start_noted}
use Rattle.cm_steps.proofs.listing.StepListing.note.Goals as goal

pub returns-in_ok-plan_row-in-TestCase : goal.returns-in_ok-plan_row-in-TestCase
returns-in_ok-plan_row-in-TestCase c =
    on_ok c.push-in-TestCase.result c.push-in-TestCase.ensures.ok
    (λ h es is. rw c.in-TestCase.is (case_noted c.args.self.now es c.in-TestCase.case c.push-in-TestCase.new.self is (h ∙ ap (λ (x : List Utf8). c.args.self.now.plans ++ x ∷ []) c.in_ok-plan_row-in-TestCase.ensures)))

pub returns-in_ok-pickle_row-in-Pickle : goal.returns-in_ok-pickle_row-in-Pickle
returns-in_ok-pickle_row-in-Pickle c =
    on_ok c.push-in-Pickle-2.result c.push-in-Pickle-2.ensures.ok
    (λ h es is. rw c.in-Pickle.is (pickle_noted c.args.self.now es c.in-Pickle.pickle c.push-in-Pickle-2.new.self is (h ∙ ap (λ (x : List Utf8). c.args.self.now.pickles ++ x ∷ []) c.in_ok-pickle_row-in-Pickle.ensures)))

pub returns-in_ok-document_row-in-GherkinDocument : goal.returns-in_ok-document_row-in-GherkinDocument
returns-in_ok-document_row-in-GherkinDocument c =
    on_ok c.push-in-GherkinDocument-2.result c.push-in-GherkinDocument-2.ensures.ok
    (λ h es is. rw c.in-GherkinDocument.is (document_noted c.args.self.now es c.in-GherkinDocument.document c.push-in-GherkinDocument-2.new.self is (h ∙ ap (λ (x : List Utf8). c.args.self.now.documents ++ x ∷ []) c.in_ok-document_row-in-GherkinDocument.ensures)))

pub returns-in_ok-start_entry-in-TestCaseStarted : goal.returns-in_ok-start_entry-in-TestCaseStarted
returns-in_ok-start_entry-in-TestCaseStarted c =
    on_ok c.push-in-TestCaseStarted.result c.push-in-TestCaseStarted.ensures.ok
    (λ h es is. rw c.in-TestCaseStarted.is (start_noted c.args.self.now es c.in-TestCaseStarted.start c.push-in-TestCaseStarted.new.self is (h ∙ ap (λ (x : StartEntry). c.args.self.now.starts ++ x ∷ []) c.in_ok-start_entry-in-TestCaseStarted.ensures)))

pub returns-in-TestCaseFinished : goal.returns-in-TestCaseFinished
returns-in-TestCaseFinished c =
    on_ok c.add.result c.add.ensures.ok
    (λ h es is. rw c.in-TestCaseFinished.is (end_noted c.args.self.now es c.in-TestCaseFinished.end c.add.new.self is (h ∙ ap (λ (x : Utf8). c.args.self.now.ends ++ x ∷ []) c.as_str.ensures)))

pub returns-in_default : goal.returns-in_default
returns-in_default c es is =
    other_noted c.args.self.now es c.args.envelope.now c.in_default.not-TestCase c.in_default.not-Pickle c.in_default.not-GherkinDocument c.in_default.not-TestCaseStarted c.in_default.not-TestCaseFinished c.in_default.not-TestStepFinished is
