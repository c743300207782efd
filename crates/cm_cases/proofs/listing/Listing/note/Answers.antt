use Rattle.std.proofs.Common.{◌∙◌, ap, ◌++◌, ◌∷◌, []}
use Rattle.cm_cases.specs.declared.listing.CaseEntry.{CaseEntry}
use Rattle.cm_cases.specs.declared.listing.DocumentEntry.{DocumentEntry}
use Rattle.cm_cases.specs.declared.listing.PickleEntry.{PickleEntry}
use Rattle.cm_stream.specs.Texts.{Utf8}
use Rattle.cm_cases.proofs.ListingLemmas.{case_noted, document_noted, on_ok, other_noted, pickle_noted, start_noted}
use Rattle.cm_cases.proofs.listing.Listing.note.Goals as goal

pub returns-in_ok-case_entry-in-TestCase-clause-ok : goal.returns-in_ok-case_entry-in-TestCase-clause-ok
returns-in_ok-case_entry-in-TestCase-clause-ok c =
    on_ok c.push.result c.push.ensures.ok
    (λ h es is. rw c.in-TestCase.is (case_noted c.args.self.now es c.in-TestCase.case c.push.new.self is (h ∙ ap (λ (x : CaseEntry). c.args.self.now.cases ++ x ∷ []) c.in_ok-case_entry-in-TestCase.ensures)))

pub returns-in_ok-pickle_entry-in-Pickle-clause-ok : goal.returns-in_ok-pickle_entry-in-Pickle-clause-ok
returns-in_ok-pickle_entry-in-Pickle-clause-ok c =
    on_ok c.push-in-Pickle.result c.push-in-Pickle.ensures.ok
    (λ h es is. rw c.in-Pickle.is (pickle_noted c.args.self.now es c.in-Pickle.pickle c.push-in-Pickle.new.self is (h ∙ ap (λ (x : PickleEntry). c.args.self.now.pickles ++ x ∷ []) c.in_ok-pickle_entry-in-Pickle.ensures)))

pub returns-in_ok-document_entry-in-GherkinDocument-clause-ok : goal.returns-in_ok-document_entry-in-GherkinDocument-clause-ok
returns-in_ok-document_entry-in-GherkinDocument-clause-ok c =
    on_ok c.push-in-GherkinDocument.result c.push-in-GherkinDocument.ensures.ok
    (λ h es is. rw c.in-GherkinDocument.is (document_noted c.args.self.now es c.in-GherkinDocument.document c.push-in-GherkinDocument.new.self is (h ∙ ap (λ (x : DocumentEntry). c.args.self.now.documents ++ x ∷ []) c.in_ok-document_entry-in-GherkinDocument.ensures)))

pub returns-in_ok-copy_of-in-TestCaseStarted-clause-ok : goal.returns-in_ok-copy_of-in-TestCaseStarted-clause-ok
returns-in_ok-copy_of-in-TestCaseStarted-clause-ok c =
    on_ok c.push-in-TestCaseStarted.result c.push-in-TestCaseStarted.ensures.ok
    (λ h es is. rw c.in-TestCaseStarted.is (start_noted c.args.self.now es c.in-TestCaseStarted.start c.push-in-TestCaseStarted.new.self is (h ∙ ap (λ (x : Utf8). c.args.self.now.starts ++ x ∷ []) (c.in_ok-copy_of-in-TestCaseStarted.ensures ∙ c.as_str.ensures))))

pub returns-in_default : goal.returns-in_default
returns-in_default c = record {
  ok = λ es is. is ∙ other_noted es c.args.envelope.now c.in_default.not-TestCase c.in_default.not-Pickle c.in_default.not-GherkinDocument c.in_default.not-TestCaseStarted;
  err = tt;
}
