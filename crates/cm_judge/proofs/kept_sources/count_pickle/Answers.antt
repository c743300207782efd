use Rattle.std.proofs.Common.{rules, sym}
use Rattle.std.specs.Str.{bytes_eq}
use Rattle.cm_refs.proofs.EntryLemmas.{first_entry, no_entry}
use Rattle.cm_state.specs.Summary.{one_more}
use Rattle.cm_judge.specs.Kept.{kept_row}
use Rattle.cm_judge.proofs.KeptRows.{row_says}
use Rattle.cm_judge.proofs.kept_sources.count_pickle.Goals as goal

pub returns-in-Some : goal.returns-in-Some
returns-in-Some c =
    let at = first_entry kept_row c.args.uri.now (λ r. bytes_eq c.args.uri.now r.uri) (row_says c.args.uri.now) c.args.sources.now.entries
    c.in-Some.at c.index_mut-kept.result.now (search rules) c.index_mut-kept.ensures.value in
    sym (at.changed one_more _ (c.count_pickle.ensures at.key))

pub returns-in_default : goal.returns-in_default
returns-in_default c =
    sym (no_entry kept_row c.args.uri.now (λ r. bytes_eq c.args.uri.now r.uri) (row_says c.args.uri.now) c.args.sources.now.entries (search rules) one_more)
