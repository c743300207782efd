use Rattle.std.proofs.Common.{◌∙◌, ap, ◌&&◌, Bor, List, ℕ, Some}
use Rattle.std.specs.Prelude.{find, option_map}
use Rattle.std.specs.Str.{bytes_eq}
use Rattle.cm_steps.specs.Attempts.{is_status}
use Rattle.cm_steps.specs.declared.listing.FinishEntry.{FinishEntry}
use Rattle.cm_steps.proofs.AttemptLemmas.{step_listed}
use Rattle.cm_steps.proofs.listing.StepListing.step_with.Goals as goal

pub returns-in_err-finish : goal.returns-in_err-finish
returns-in_err-finish c es is loud =
    let found = c.in_err-finish.ensures ∙ ap (λ (fs : List FinishEntry). find (λ f. bytes_eq c.args.attempt.now f.attempt && is_status c.args.status f.status) fs) c.as_slice.ensures in
    ap (option_map (λ (t : Bor (List ℕ)). t.now)) c.from_residual.ensures ∙ ap (option_map (λ (f : FinishEntry). f.step)) found ∙ step_listed c.args.self.now es c.args.attempt.now c.args.status is loud

pub returns : goal.returns
returns c es is loud =
    let found = c.in_ok-finish.ensures ∙ ap (λ (fs : List FinishEntry). find (λ f. bytes_eq c.args.attempt.now f.attempt && is_status c.args.status f.status) fs) c.as_slice.ensures in
    ap Some c.as_str.ensures ∙ ap (option_map (λ (f : FinishEntry). f.step)) found ∙ step_listed c.args.self.now es c.args.attempt.now c.args.status is loud
