use Rattle.std.proofs.Common.{rules}
use Rattle.gk_tree.specs.Views.{state_of}
use Rattle.gk_tree.proofs.EndLemmas.{whole_answer, stop_answer}
use Rattle.gk_tree.proofs.parser.within_limits.Goals as goal

pub returns-in_err-parser : goal.returns-in_err-parser
returns-in_err-parser c = search (rules, stop_answer c.args.text.now)

pub returns : goal.returns
returns c = whole_answer c.args.text.now c.args.end_line (state_of c.in_ok-parser.parser) c.finish.result c.in_ok-parser.ensures c.requires.end_line c.finish.ensures
