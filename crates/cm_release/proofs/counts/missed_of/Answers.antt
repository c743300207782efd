use Rattle.std.proofs.Common.{◌∙◌, ◌||◌, ap, sym, map, Bor}
use Rattle.cm_stream.specs.Release.{conditions_of}
use Rattle.cm_stream.specs.Texts.{Utf8}
use Rattle.cm_release.specs.Counts.{texts_of}
use Rattle.cm_release.proofs.CountLemmas.{if_ok, missed_found, none_missed}
use Rattle.cm_release.proofs.counts.missed_of.Goals as goal
use Rattle.cm_release.proofs.counts.missed_of.Goals.{then-conditions-via-then-conditions, then-conditions-via-else-conditions+then-conditions-2}

pub returns-then-conditions : goal.returns-then-conditions
returns-then-conditions c =
    ap texts_of c.new.ensures.items
    ∙ none_missed (conditions_of c.args.conditions.now) c.args.kept.now
    (elim c.then-conditions.branch [
      | then-conditions-via-then-conditions w ↦ ap (λ b. b || c.args.conditions.now.allows_unrun) w.if-conditions.true
      | then-conditions-via-else-conditions+then-conditions-2 w ↦ ap (λ b. b || c.args.conditions.now.allows_unrun) w.if-conditions.false ∙ w.if-conditions-2.true
    ])

pub returns : goal.returns
returns c =
    if_ok _ _ c.unnamed_of.result c.unnamed_of.ensures
    (λ ids found.
    missed_found (texts_of ids.items) (conditions_of c.args.conditions.now) c.args.kept.now c.as_slice-2.result.now c.as_slice.result.now c.as_slice-3.result.now c.in_ok-named.named c.in_ok-allowed.allowed
    c.if-conditions.false c.if-conditions-2.false (ap (map (λ (t : Bor Utf8). t.now)) (sym c.as_slice-2.ensures.value)) c.as_slice.ensures c.as_slice-3.ensures c.in_ok-named.ensures c.in_ok-allowed.ensures found)
