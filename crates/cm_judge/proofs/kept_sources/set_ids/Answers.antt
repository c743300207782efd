use Rattle.std.proofs.Common.{rules, sym}
use Rattle.std.specs.Str.{bytes_eq}
use Rattle.cm_refs.proofs.EntryLemmas.{first_entry, no_entry}
use Rattle.cm_state.specs.Summary.{with_ids}
use Rattle.cm_judge.specs.Kept.{kept_row}
use Rattle.cm_judge.proofs.KeptRows.{good_bare, row_says}
use Rattle.cm_judge.proofs.kept_sources.set_ids.Goals as goal

pub set_ids-requires : goal.set_ids-requires
set_ids-requires c =
    let at = first_entry kept_row c.args.uri.now (λ r. bytes_eq c.args.uri.now r.uri) (row_says c.args.uri.now) c.args.sources.now.entries
    c.in-Some.at c.index_mut-kept.result.now (search rules) c.index_mut-kept.ensures.value in
    good_bare at.key c.index_mut-kept.result.now (rw at.row_at at c.requires)

pub returns-in-Some : goal.returns-in-Some
returns-in-Some c =
    let at = first_entry kept_row c.args.uri.now (λ r. bytes_eq c.args.uri.now r.uri) (row_says c.args.uri.now) c.args.sources.now.entries
    c.in-Some.at c.index_mut-kept.result.now (search rules) c.index_mut-kept.ensures.value in
    sym (at.changed (with_ids c.args.ids) _ (c.set_ids.ensures at.key))

pub returns-in_default : goal.returns-in_default
returns-in_default c =
    sym (no_entry kept_row c.args.uri.now (λ r. bytes_eq c.args.uri.now r.uri) (row_says c.args.uri.now) c.args.sources.now.entries (search rules) (with_ids c.args.ids))
