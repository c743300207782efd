use Rattle.gk_grammar.specs.Documents.{lines_read}
use Rattle.gk_grammar.proofs.Reading.{read_are_lines}
use Rattle.gk_plain.specs.declared.plain.Kind.TheVariants.{Blank}
use Rattle.gk_plain.proofs.FaultLemmas.{fault_within}
use Rattle.gk_plain.proofs.plain.fault_at.Goals as goal

pub returns : goal.returns
returns c text kinds firsts =
    fault_within (lines_read text) c.args.kinds.now c.split_at.result.0.now c.args.columns.now c.args.before Blank 0 c.fault_kind.result c.fault_column.result
    (read_are_lines text) kinds firsts c.split_at.ensures.front c.fault_kind.ensures c.fault_column.ensures c.requires.within
