use Rattle.std.proofs.Common.{Bor, List, ℕ, map}
use Rattle.cm_steps.proofs.AttemptLemmas.{open_by, open_given}
use Rattle.cm_steps.proofs.listing.StepListing.open_cases.Goals as goal

pub returns : goal.returns
returns c =
    open_given c.plans_in.result (λ v. map (λ (t : Bor (List ℕ)). t.now) v.items) c.args.self.now _ c.plans_in.ensures
    (open_by c.args.self.now c.in_ok-ended.ended c.in_ok-open.open c.as_slice.result.now c.as_slice.ensures c.in_ok-ended.ensures c.in_ok-open.ensures)
