use Rattle.std.proofs.Common.{◌∙◌, ap, sym, length}
use Rattle.cm_missing.proofs.LineLemmas.{one_line_for_each}
use Rattle.cm_missing.proofs.missing.Missing.add_scenario.Goals as goal

pub add_pickles-requires : goal.add_pickles-requires
add_pickles-requires c =
    ap length (c.as_slice-2.ensures.value ∙ c.in_ok-lines.ensures) ∙ one_line_for_each c.args.scenario.now
    ∙ ap length (sym (c.as_slice.ensures.value ∙ c.in_ok-pickles.ensures))
