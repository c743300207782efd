use Rattle.std.proofs.Common.{◌∙◌, ap, ◌++◌, ◌∷◌, []}
use Rattle.cm_cases.proofs.ListingLemmas.{on_ok}
use Rattle.cm_reasons.specs.declared.run_listing.RunHookEnd.{RunHookEnd}
use Rattle.cm_reasons.specs.declared.run_listing.RunHookEntry.{RunHookEntry}
use Rattle.cm_reasons.specs.declared.run_listing.SourceEntry.{SourceEntry}
use Rattle.cm_reasons.proofs.RunListed.{end_noted, hook_noted, other_noted, source_noted}
use Rattle.cm_reasons.proofs.run_listing.RunListing.note.Goals as goal

pub returns-in_ok-source_entry-in-Source-clause-ok : goal.returns-in_ok-source_entry-in-Source-clause-ok
returns-in_ok-source_entry-in-Source-clause-ok c =
    on_ok c.push.result c.push.ensures.ok
    (λ h es is. rw c.in-Source.is (source_noted c.args.self.now es c.in-Source.source c.push.new.self is (h ∙ ap (λ (x : SourceEntry). c.args.self.now.sources ++ x ∷ []) c.in_ok-source_entry-in-Source.ensures)))

pub returns-in_ok-run_hook_entry-in-TestRunHookStarted-clause-ok : goal.returns-in_ok-run_hook_entry-in-TestRunHookStarted-clause-ok
returns-in_ok-run_hook_entry-in-TestRunHookStarted-clause-ok c =
    on_ok c.push-in-TestRunHookStarted.result c.push-in-TestRunHookStarted.ensures.ok
    (λ h es is. rw c.in-TestRunHookStarted.is (hook_noted c.args.self.now es c.in-TestRunHookStarted.start c.push-in-TestRunHookStarted.new.self is (h ∙ ap (λ (x : RunHookEntry). c.args.self.now.hooks ++ x ∷ []) c.in_ok-run_hook_entry-in-TestRunHookStarted.ensures)))

pub returns-in_ok-run_hook_end-in-TestRunHookFinished-clause-ok : goal.returns-in_ok-run_hook_end-in-TestRunHookFinished-clause-ok
returns-in_ok-run_hook_end-in-TestRunHookFinished-clause-ok c =
    on_ok c.push-in-TestRunHookFinished.result c.push-in-TestRunHookFinished.ensures.ok
    (λ h es is. rw c.in-TestRunHookFinished.is (end_noted c.args.self.now es c.in-TestRunHookFinished.end c.push-in-TestRunHookFinished.new.self is (h ∙ ap (λ (x : RunHookEnd). c.args.self.now.ends ++ x ∷ []) c.in_ok-run_hook_end-in-TestRunHookFinished.ensures)))

pub returns-in_default : goal.returns-in_default
returns-in_default c = record {
  ok = λ es is. is ∙ other_noted es c.args.envelope.now c.in_default.not-Source c.in_default.not-TestRunHookStarted c.in_default.not-TestRunHookFinished;
  err = tt;
}
