use Rattle.std.proofs.Common.{◌∙◌, ap, refl}
use Rattle.std.specs.Prelude.{option_map}
use Rattle.std.specs.Str.{bytes_eq}
use Rattle.cm_refs.specs.Rows.{run_hook_row}
use Rattle.cm_refs.proofs.EntryLemmas.{copied_map, found_entry}
use Rattle.cm_refs.proofs.declared.finish_of.Goals as goal

pub returns : goal.returns
returns c =
    copied_map (run_hook_row c.args.id.now) c.get.result
    ∙ ap (option_map (run_hook_row c.args.id.now)) c.get.ensures.value
    ∙ found_entry run_hook_row c.args.id.now (λ r. bytes_eq c.args.id.now r.id) (λ t v. refl) c.args.run_hooks.now.entries
