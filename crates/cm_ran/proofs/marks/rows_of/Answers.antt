use Rattle.std.proofs.Common.{◌∙◌, ap, map, take_all}
use Rattle.cm_cases.specs.Listed.{both_texts}
use Rattle.cm_ran.specs.Rows.{flags_in}
use Rattle.cm_ran.proofs.RowLemmas.{pickle_taken}
use Rattle.cm_ran.proofs.marks.rows_of.Goals as goal

pub loop-pickle-preserved : goal.loop-pickle-preserved
loop-pickle-preserved c =
    λ uri. pickle_taken c.args.named.now c.in_ok-among.among c.args.pickles.now c.loop-pickle.pickle-index _ uri c.contains_key-flag.result _ _
    c.in_ok-among.ensures c.loop-pickle-test.true c.contains_key-flag.ensures (c.loop-pickle.invariant uri) (c.in_ok-add_flag.ensures uri)

pub returns : goal.returns
returns c =
    λ uri. c.loop-pickle.invariant uri
    ∙ ap (λ xs. flags_in (map (λ id. id.now) c.args.named.now) (map both_texts xs) uri) (take_all c.loop-pickle.pickle-index c.args.pickles.now c.loop-pickle-test.false)
