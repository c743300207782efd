use Rattle.std.proofs.Common.{◌∙◌, ap, List}
use Rattle.std.specs.Prelude.{option_map}
use Rattle.std.specs.List.{filter}
use Rattle.std.specs.Str.{bytes_eq}
use Rattle.cm_attempt.specs.Calls.{last_of}
use Rattle.cm_steps.specs.declared.listing.StartEntry.{StartEntry}
use Rattle.cm_steps.proofs.AttemptLemmas.{last_listed}
use Rattle.cm_steps.proofs.listing.StepListing.last_attempt.Goals as goal

pub returns : goal.returns
returns c es is =
    c.last_of.ensures ∙ ap (λ (ss : List StartEntry). option_map (λ s. s.id) (last_of (filter (λ s. bytes_eq c.args.case.now s.case_id) ss))) c.as_slice.ensures ∙ last_listed c.args.self.now es c.args.case.now is
