use Rattle.std.proofs.Common.{rules}
use Rattle.gk_pickle.proofs.Opens.{last_raised}
use Rattle.gk_pickle.proofs.filling.raise_placeholder.Goals as goal

pub returns-in-Some : goal.returns-in-Some
returns-in-Some c =
    last_raised c.args.opens.now.items c.in-Some.around.now c.args.opens.now.len c.max-around.result c.args.done (search rules) (search rules) c.in-Some.ensures.item.1
    c.max-around.ensures
