use Rattle.std.proofs.Common.{◌∙◌, ap, refl}
use Rattle.std.specs.Prelude.{option_map}
use Rattle.std.specs.Str.{bytes_eq}
use Rattle.cm_refs.specs.Rows.{pickle_row}
use Rattle.cm_refs.proofs.EntryLemmas.{copied_map, found_entry}
use Rattle.cm_refs.proofs.declared.steps_of.Goals as goal

pub returns : goal.returns
returns c =
    copied_map (pickle_row c.args.id.now) c.get.result
    ∙ ap (option_map (pickle_row c.args.id.now)) c.get.ensures.value
    ∙ found_entry pickle_row c.args.id.now (λ p. bytes_eq c.args.id.now p.id) (λ t v. refl) c.args.pickles.now.entries
