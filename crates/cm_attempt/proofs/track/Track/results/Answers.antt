use Rattle.std.proofs.Common.{◌∙◌, ap, map, rules}
use Rattle.std.proofs.lemmas.Map.Iter.{iter_end}
use Rattle.cm_attempt.specs.Table.{Table, reported_status}
use Rattle.cm_attempt.proofs.Listed.{over_ids}
use Rattle.cm_attempt.proofs.track.Track.results.Goals as goal

pub returns : goal.returns
returns c =
    let all = (iter_end (λ k. k.now) _ c.loop-id.yielded _ _ _ _ (search rules) c.loop-id.yielded_by c.in-None.is c.next.ensures.steps).0 in
    let t = c.args.self.now in
    c.loop-id.invariant ∙ over_ids (λ id. (id, reported_status t id)) c.self.inside.cases.entries c.loop-id.yielded all
    ∙ ap (λ (now : Table). map (λ r. (r.id, reported_status t r.id)) now.cases) c.self.view_is
