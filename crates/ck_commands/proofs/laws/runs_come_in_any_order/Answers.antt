use Rattle.std.proofs.Common.{List}
use Rattle.std.proofs.lemmas.List.Sorted.{list_any-IsPermutation}
use Rattle.cm_envelope.specs.declared.envelope.Envelope.{Envelope}
use Rattle.cm_ran.specs.RunAt.{is_run_at}
use Rattle.ck_commands.proofs.laws.runs_come_in_any_order.Goals as goal

pub returns : goal.returns
returns c = λ first second same text place. list_any-IsPermutation (λ (es : List Envelope). is_run_at es text place) first second same
