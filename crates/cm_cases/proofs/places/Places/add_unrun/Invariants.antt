use Rattle.std.proofs.Common.{◌≡◌, ◌++◌, string_bytes, take}
use Rattle.std.specs.Prelude.{codes, not}
use Rattle.std.specs.List.{filter, flat_map}
use Rattle.cm_cases.specs.Firsts.{entry_text, is_named}
use Rattle.cm_cases.proofs.places.Places.add_unrun.Given as goal

abbrev pub invariant-loop-pickle : goal.invariant-loop-pickle
invariant-loop-pickle l =
    string_bytes l.text ≡ string_bytes l.fn.text
    ++ flat_map (λ p. codes "UNRUN" ++ entry_text l.self p) (filter (λ p. not (is_named l.self p)) (take l.pickle-index l.pickle-items))
