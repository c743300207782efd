use Rattle.std.proofs.Common.{◌∙◌, ap, List}
use Rattle.std.specs.Prelude.{count_by}
use Rattle.std.specs.Str.{bytes_eq}
use Rattle.cm_stream.specs.References.{starts}
use Rattle.cm_steps.specs.declared.listing.StartEntry.{StartEntry}
use Rattle.cm_steps.specs.declared.listing.StepListing.{StepListing}
use Rattle.cm_steps.proofs.CountLemmas.{count_starts}
use Rattle.cm_steps.proofs.listing.StepListing.attempt_count.Goals as goal

pub returns : goal.returns
returns c es is =
    c.count_of.ensures ∙ ap (λ (ss : List StartEntry). count_by (λ s. bytes_eq c.args.case.now s.case_id) ss) c.as_slice.ensures
    ∙ ap (λ (l : StepListing). count_by (λ (s : StartEntry). bytes_eq c.args.case.now s.case_id) l.starts) is
    ∙ count_starts c.args.case.now (starts es)
