use Rattle.std.proofs.Common.{ap, refl, ◌∙◌}
use Rattle.std.specs.Str.{bytes_eq}
use Rattle.cm_refs.specs.Rows.{run_hook_row, run_hook_rows}
use Rattle.cm_refs.proofs.EntryLemmas.{inserted_rows}
use Rattle.cm_refs.proofs.declared.append_run_hook.Goals as goal

pub returns-clause-ok : goal.returns-clause-ok
returns-clause-ok c =
    ap run_hook_rows c.in_ok-insert.ensures.entries
    ∙ inserted_rows run_hook_row c.args.id.now (λ r. bytes_eq c.args.id.now r.id) (λ t v. refl) c.in_ok-id.id c.in_ok-id.ensures c.args.run_hooks.now _ c.requires
