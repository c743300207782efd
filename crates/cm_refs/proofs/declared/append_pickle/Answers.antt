use Rattle.std.proofs.Common.{ap, refl, ◌∙◌}
use Rattle.std.specs.Str.{bytes_eq}
use Rattle.cm_refs.specs.Rows.{pickle_row, pickle_rows}
use Rattle.cm_refs.proofs.EntryLemmas.{inserted_rows}
use Rattle.cm_refs.proofs.declared.append_pickle.Goals as goal

pub returns-clause-ok : goal.returns-clause-ok
returns-clause-ok c =
    ap pickle_rows c.in_ok-insert.ensures.entries
    ∙ inserted_rows pickle_row c.args.id.now (λ p. bytes_eq c.args.id.now p.id) (λ t v. refl) c.in_ok-id.id c.in_ok-id.ensures c.args.pickles.now _ c.requires
