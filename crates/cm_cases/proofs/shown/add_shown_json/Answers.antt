use Rattle.std.proofs.Common.{sym, ap, ◌∙◌, ◌++◌, string_bytes, List, ℕ}
use Rattle.std.specs.List.{flat_map}
use Rattle.std.proofs.lemmas.Iterator.{YieldsList-from_chars}
use Rattle.std.proofs.lemmas.Iterator.Consumers.{YieldsList-end}
use Rattle.std.proofs.lemmas.List.{map-id}
use Rattle.cm_cases.specs.Shown.{json_char}
use Rattle.cm_cases.proofs.shown.add_shown_json.Goals as goal

pub returns : goal.returns
returns c =
    let t = YieldsList-end (YieldsList-from_chars c.args.json.now c.utf8.json cc) c.loop-c.yielded _ c.loop-c.yielded_by _ _ c.in-None.is c.next.ensures.steps in
    c.loop-c.invariant ∙ ap (λ (cs : List ℕ). string_bytes c.args.text.now ++ flat_map json_char cs) (sym (map-id c.loop-c.yielded) ∙ t.0)
