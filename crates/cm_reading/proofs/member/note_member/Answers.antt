use Rattle.std.proofs.Common.{◌≡◌, ◌∙◌, ◌<◌, length, refl, sym, ap, arith, bytes_eq}
use Rattle.std.proofs.lemmas.List.{get_or_default}
use Rattle.serde_json.specs.View.{view}
use Rattle.cm_reading.proofs.Walking.{noted_here, not_noted}
use Rattle.cm_reading.proofs.member.note_member.Goals as goal
use Rattle.cm_reading.proofs.member.note_member.Goals.{then-eq, else-eq}

pub loop-i-preserved : goal.loop-i-preserved
loop-i-preserved c =
    let x = c.index-members-i.result in
    let within : c.loop-i.i < length c.loop-i.members = omega arith in
    let long : length c.loop-i.members ≡ length c.args.members.now = omega arith in
    let test = ap (λ m. bytes_eq m.name.now c.args.name.now) c.index-members-i.is ∙ sym c.eq.ensures in
    elim c.if-eq.branch [
      | then-eq w ↦ rw w.members-is (noted_here c.args.name.now (view c.args.value.now) c.args.members.now c.loop-i.members c.loop-i.i x within long c.loop-i.invariant c.index-members-i.is _ (test ∙ w.if-eq.true) (ap (λ m. m.name) (get_or_default c.loop-i.members c.loop-i.i _ x within ∙ sym c.index-members-i.is)) refl)
      | else-eq w ↦ rw w.members-is (not_noted c.args.name.now (view c.args.value.now) c.args.members.now c.loop-i.members c.loop-i.i x within long c.loop-i.invariant c.index-members-i.is (test ∙ w.if-eq.false))
    ]
