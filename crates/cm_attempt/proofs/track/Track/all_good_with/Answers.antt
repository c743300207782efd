use Rattle.std.proofs.Common.{refl, sym, ◌∙◌}
use Rattle.cm_attempt.specs.Rows.{case_row}
use Rattle.cm_attempt.specs.Table.{is_good_case}
use Rattle.cm_attempt.proofs.EntryLemmas.{list_all-rows}
use Rattle.cm_attempt.proofs.track.Track.all_good_with.Goals as goal

pub returns : goal.returns
returns c = rw (← c.self.view_is) (c.are_good.ensures ∙ sym (list_all-rows case_row (is_good_case c.args.policy) (λ t v. refl) c.self.inside.cases.entries))
