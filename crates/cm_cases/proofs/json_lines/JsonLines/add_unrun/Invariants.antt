use Rattle.std.proofs.Common.{◌≡◌, ◌++◌, string_bytes, take}
use Rattle.std.specs.Prelude.{codes, not}
use Rattle.std.specs.List.{filter, flat_map}
use Rattle.cm_cases.specs.Firsts.{entry_values, is_named}
use Rattle.cm_cases.specs.JsonLines.{json_line}
use Rattle.cm_cases.proofs.json_lines.JsonLines.add_unrun.Given as goal

abbrev pub invariant-loop-pickle : goal.invariant-loop-pickle
invariant-loop-pickle l =
    string_bytes l.text ≡ string_bytes l.fn.text
    ++ flat_map (λ p. json_line (entry_values l.self 0 (codes "UNRUN") p)) (filter (λ p. not (is_named l.self p)) (take l.pickle-index l.pickle-items))
