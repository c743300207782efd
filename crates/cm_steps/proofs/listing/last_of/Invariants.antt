use Rattle.std.proofs.Common.{◌≡◌, take}
use Rattle.std.specs.Prelude.{option_map}
use Rattle.std.specs.List.{filter}
use Rattle.std.specs.Str.{bytes_eq}
use Rattle.cm_attempt.specs.Calls.{last_of}
use Rattle.cm_steps.proofs.listing.last_of.Given as goal

abbrev pub invariant-loop-start : goal.invariant-loop-start
invariant-loop-start l = option_map (λ t. t.now) l.last ≡ option_map (λ s. s.id) (last_of (filter (λ s. bytes_eq l.case s.case_id) (take l.start-index l.starts)))
