use Rattle.std.proofs.Common.{rules}
use Rattle.cm_audit.proofs.Following.{answers_with, ends_early_with, ends_well_with, last_is_there, not_good_with}
use Rattle.cm_audit.proofs.auditing.audit_lines.Goals as goal

pub returns-in-Ok-clause-judged : goal.returns-in-Ok-clause-judged
returns-in-Ok-clause-judged g c =
    rw c.says_success.ensures
    (rw c.counts.ensures
    (ends_well_with g.W.Watch.follows c.args.judging.now c.requires.nothing c.requires.starts c.take_lines.new.taker _ _ _ (search rules) c.in-Ok.ensures.taken))

pub returns-in-Ok-2-clause-judged : goal.returns-in-Ok-2-clause-judged
returns-in-Ok-2-clause-judged g c =
    rw c.unsuccessful.ensures
    (ends_early_with g.W.Watch.follows c.args.judging.now c.requires.nothing c.requires.starts c.take_lines.new.taker c.in-Ok.field-0 _ _ (search rules) c.in-Ok.ensures.taken)

pub returns-in-Err-clause-judged : goal.returns-in-Err-clause-judged
returns-in-Err-clause-judged g c =
    answers_with g.W.Watch.follows c.args.judging.now c.requires.nothing c.requires.starts c.take_lines.new.taker c.in-Err.answer _ _ c.in-Err.ensures.taken

pub returns-in-Err-clause-at_end : goal.returns-in-Err-clause-at_end
returns-in-Err-clause-at_end g c =
    not_good_with g.W.Watch.follows c.args.judging.now c.requires.nothing c.requires.starts c.take_lines.new.taker c.in-Err.answer _ _ c.in-Err.ensures.taken

pub returns-in-Ok-2-clause-wanted : goal.returns-in-Ok-2-clause-wanted
returns-in-Ok-2-clause-wanted g c = rw c.unsuccessful.ensures (λ wants some. absurd cc)

pub returns-in-Err-clause-wanted : goal.returns-in-Err-clause-wanted
returns-in-Err-clause-wanted g c =
    last_is_there g.W.Watch.follows c.args.judging.now c.requires.nothing c.requires.starts c.take_lines.new.taker c.in-Err.answer _ _ c.in-Err.ensures.taken
