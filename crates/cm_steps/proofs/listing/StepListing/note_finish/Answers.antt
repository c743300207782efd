use Rattle.std.proofs.Common.{◌∙◌, ap, sym, ◌++◌, ◌∷◌, []}
use Rattle.cm_cases.proofs.ListingLemmas.{on_ok}
use Rattle.cm_steps.specs.Attempts.{is_quiet}
use Rattle.cm_steps.specs.declared.listing.FinishEntry.{FinishEntry}
use Rattle.cm_steps.proofs.ListingLemmas.{finish_noted, quiet_noted}
use Rattle.cm_steps.proofs.listing.StepListing.note_finish.Goals as goal

pub returns-then-is_quiet : goal.returns-then-is_quiet
returns-then-is_quiet c es is = quiet_noted c.args.self.now es c.args.finish.now (ap is_quiet (sym c.kept_status.ensures) ∙ sym c.is_quiet.ensures ∙ c.if-is_quiet.true) is

pub returns : goal.returns
returns c =
    on_ok c.push.result c.push.ensures.ok
    (λ h es is.
    finish_noted c.args.self.now es c.args.finish.now c.push.new.self (ap is_quiet (sym c.kept_status.ensures) ∙ sym c.is_quiet.ensures ∙ c.if-is_quiet.false) is
    (h ∙ ap (λ (x : FinishEntry). c.args.self.now.finishes ++ x ∷ []) c.in_ok-finish_entry.ensures))
