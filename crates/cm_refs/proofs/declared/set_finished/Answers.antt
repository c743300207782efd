use Rattle.std.proofs.Common.{rules, sym, refl, true}
use Rattle.std.specs.Str.{bytes_eq}
use Rattle.cm_refs.specs.Declarations.{finished_run_hook}
use Rattle.cm_refs.specs.Rows.{run_hook_row}
use Rattle.cm_refs.proofs.EntryLemmas.{first_entry, no_entry}
use Rattle.cm_refs.proofs.declared.set_finished.Goals as goal

pub returns-in-Some : goal.returns-in-Some
returns-in-Some c =
    let at = first_entry run_hook_row c.args.id.now (λ r. bytes_eq c.args.id.now r.id) (λ t v. refl) c.args.run_hooks.now.entries
    c.in-Some.at c.index_mut-is_finished.result.now (search rules) c.index_mut-is_finished.ensures.value in
    sym (at.changed finished_run_hook true refl)

pub returns-in_default : goal.returns-in_default
returns-in_default c =
    sym (no_entry run_hook_row c.args.id.now (λ r. bytes_eq c.args.id.now r.id) (λ t v. refl) c.args.run_hooks.now.entries (search rules) finished_run_hook)
