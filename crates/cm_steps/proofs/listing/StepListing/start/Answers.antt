use Rattle.std.proofs.Common.{◌∙◌, ap, List, None, Some}
use Rattle.std.specs.Prelude.{find, option_map}
use Rattle.std.specs.Str.{bytes_eq}
use Rattle.cm_stream.specs.Texts.{Utf8}
use Rattle.cm_steps.specs.Attempts.{started_facts}
use Rattle.cm_steps.specs.declared.listing.StartEntry.{StartEntry}
use Rattle.cm_steps.proofs.AttemptLemmas.{facts_listed}
use Rattle.cm_steps.proofs.listing.StepListing.start.Goals as goal

pub returns-in_err-start : goal.returns-in_err-start
returns-in_err-start c es is =
    let found = c.in_err-start.ensures ∙ ap (λ (ss : List StartEntry). find (λ s. bytes_eq c.args.attempt.now s.id) ss) c.as_slice.ensures in
    ap (option_map started_facts) c.from_residual.ensures ∙ facts_listed c.args.self.now es c.args.attempt.now None is found

pub returns : goal.returns
returns c es is =
    let found = c.in_ok-start.ensures ∙ ap (λ (ss : List StartEntry). find (λ s. bytes_eq c.args.attempt.now s.id) ss) c.as_slice.ensures in
    ap (λ (t : Utf8). Some (t, c.in_ok-start.start.now.number)) c.as_str.ensures ∙ facts_listed c.args.self.now es c.args.attempt.now (Some c.in_ok-start.start.now) is found
