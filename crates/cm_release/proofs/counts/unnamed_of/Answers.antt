use Rattle.std.proofs.Common.{◌∙◌, sym, ◌&&◌, not}
use Rattle.std.specs.Prelude.{is_some}
use Rattle.std.specs.List.{list_any}
use Rattle.cm_cases.specs.Firsts.{value_at}
use Rattle.cm_release.specs.Counts.{texts_of}
use Rattle.cm_release.proofs.CountLemmas.{picked_in, picked_out}
use Rattle.cm_release.proofs.counts.unnamed_of.Goals as goal
use Rattle.cm_release.proofs.counts.unnamed_of.Goals.{then-is_unnamed+in_ok-push, else-is_unnamed}

pub loop-pickle-preserved : goal.loop-pickle-preserved
loop-pickle-preserved c =
    elim c.if-is_unnamed.branch [
      | then-is_unnamed+in_ok-push w ↦ rw w.ids-is
          (picked_in (λ p. p.id) (λ p. not (is_some (value_at c.args.named.now p.id)) && not (list_any (λ t. is_some (value_at c.args.allowed.now t)) p.tags)) c.args.pickles.now c.loop-pickle.pickle-index c.pickle-item.result
          w.as_str.result c.loop-pickle.ids.items w.push.new.self.items c.loop-pickle-test.true c.pickle-item.is (sym c.is_unnamed.ensures ∙ w.if-is_unnamed.true) w.as_str.ensures w.in_ok-push.ensures.items c.loop-pickle.invariant)
      | else-is_unnamed w ↦ rw w.ids-is
          (picked_out (λ p. p.id) (λ p. not (is_some (value_at c.args.named.now p.id)) && not (list_any (λ t. is_some (value_at c.args.allowed.now t)) p.tags)) c.args.pickles.now c.loop-pickle.pickle-index c.pickle-item.result
          (texts_of c.loop-pickle.ids.items) c.loop-pickle-test.true c.pickle-item.is (sym c.is_unnamed.ensures ∙ w.if-is_unnamed.false) c.loop-pickle.invariant)
    ]
