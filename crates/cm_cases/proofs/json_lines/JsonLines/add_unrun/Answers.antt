use Rattle.std.proofs.Common.{◌∙◌, ap, List, ℕ, ◌++◌, string_bytes, take_all}
use Rattle.std.specs.Prelude.{codes, not}
use Rattle.std.specs.List.{filter, flat_map}
use Rattle.cm_cases.specs.Firsts.{entry_values, is_named}
use Rattle.cm_cases.specs.JsonLines.{json_line}
use Rattle.cm_cases.specs.declared.listing.Listing.{Listing}
use Rattle.cm_cases.specs.declared.listing.PickleEntry.{PickleEntry}
use Rattle.cm_cases.proofs.JsonLemmas.{unrun_said}
use Rattle.cm_cases.proofs.json_lines.JsonLines.add_unrun.Goals as goal

pub returns : goal.returns
returns c es is =
    let all = take_all c.loop-pickle.pickle-index c.as_slice-pickle-items.result.now c.loop-pickle-test.false ∙ c.as_slice-pickle-items.ensures ∙ ap (λ (l : Listing). l.pickles) c.self.view_is in
    c.loop-pickle.invariant
    ∙ ap (λ (ps : List PickleEntry). string_bytes c.args.text.now ++ flat_map (λ p. json_line (entry_values c.args.self.now 0 (codes "UNRUN") p)) (filter (λ p. not (is_named c.args.self.now p)) ps)) all
    ∙ ap (λ (t : List ℕ). string_bytes c.args.text.now ++ t) (unrun_said c.args.self.now es is)
