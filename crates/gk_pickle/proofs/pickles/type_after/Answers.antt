use Rattle.std.proofs.Common.{ap}
use Rattle.gk_pickle.specs.Steps.{own_type}
use Rattle.gk_pickle.proofs.Types.{with_type, with_none}
use Rattle.gk_pickle.proofs.pickles.type_after.Goals as goal

pub returns-in-Unknown : goal.returns-in-Unknown
returns-in-Unknown c earlier before = with_type earlier c.args.keyword _ (ap own_type c.in-Unknown.is)

pub returns-in-Context : goal.returns-in-Context
returns-in-Context c earlier before = with_type earlier c.args.keyword _ (ap own_type c.in-Context.is)

pub returns-in-Action : goal.returns-in-Action
returns-in-Action c earlier before = with_type earlier c.args.keyword _ (ap own_type c.in-Action.is)

pub returns-in-Outcome : goal.returns-in-Outcome
returns-in-Outcome c earlier before = with_type earlier c.args.keyword _ (ap own_type c.in-Outcome.is)

pub returns-in-Conjunction : goal.returns-in-Conjunction
returns-in-Conjunction c earlier before = with_none earlier c.args.keyword _ (ap own_type c.in-Conjunction.is) before
