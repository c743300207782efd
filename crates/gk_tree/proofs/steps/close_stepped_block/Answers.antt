use Rattle.std.proofs.Common.{subst}
use Rattle.gk_grammar.specs.Machine as machine
use Rattle.gk_tree.specs.Views.{Gives, state_in, state_at, line_at}
use Rattle.gk_tree.proofs.steps.close_stepped_block.Goals as goal

pub returns : goal.returns
returns c =
    subst (λ (z : machine.FlatBlock). Gives (state_in c.close_block.new.progress) c.close_block.result (machine.close_block (state_at c.args.progress.now machine.Start) z (line_at c.args.at c.args.token))) c.in_ok-flat_block.ensures c.close_block.ensures
