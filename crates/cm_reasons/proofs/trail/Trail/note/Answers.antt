use Rattle.std.proofs.Common.{ap}
use Rattle.cm_reasons.specs.declared.trail.Trail.{Trail}
use Rattle.cm_reasons.proofs.trail.Trail.note.Goals as goal

pub returns : goal.returns
returns c es is =
    let listing = c.in_ok-note.ensures.ok es (ap (λ (t : Trail). t.listing) is) in
    let steps = c.in_ok-note-2.ensures es (ap (λ (t : Trail). t.steps) is) in
    let run = c.in_ok-note-3.ensures.ok es (ap (λ (t : Trail). t.run) is) in
    let exception = c.noted_exception-self.ensures es (ap (λ (t : Trail). t.has_exception) is) in
    λ j. record { listing = listing j; steps = steps j; run = run j; has_exception = exception j }
