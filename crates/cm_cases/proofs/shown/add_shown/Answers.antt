use Rattle.std.proofs.Common.{sym, ap, ◌∙◌, ◌++◌, string_bytes, List, ℕ}
use Rattle.std.specs.List.{flat_map}
use Rattle.std.proofs.lemmas.Iterator.{YieldsList-from_chars}
use Rattle.std.proofs.lemmas.Iterator.Consumers.{YieldsList-end}
use Rattle.std.proofs.lemmas.List.{map-id}
use Rattle.cm_cases.specs.Shown.{shown_char}
use Rattle.cm_cases.proofs.shown.add_shown.Goals as goal

pub returns : goal.returns
returns c =
    let t = YieldsList-end (YieldsList-from_chars c.args.added.now c.utf8.added cc) c.loop-c.yielded _ c.loop-c.yielded_by _ _ c.in-None.is c.next.ensures.steps in
    c.loop-c.invariant ∙ ap (λ (cs : List ℕ). string_bytes c.args.text.now ++ flat_map shown_char cs) (sym (map-id c.loop-c.yielded) ∙ t.0)
