use Rattle.std.proofs.Common.{ap}
use Rattle.std.proofs.lemmas.Str.{IsUtf8-string_bytes}
use Rattle.ck_commands.proofs.TextLemmas.{on_fault, text_of_all}
use Rattle.ck_commands.proofs.text_input.read_text.Goals as goal

pub returns-in_err-bytes-clause-fault : goal.returns-in_err-bytes-clause-fault
returns-in_err-bytes-clause-fault g c = on_fault _ _ _ c.from_residual.result c.from_residual.ensures.1 c.in_err-bytes.ensures.err

pub returns-in-Ok-clause-ok : goal.returns-in-Ok-clause-ok
returns-in-Ok-clause-ok g c =
    let read = c.in_ok-bytes.ensures.ok in
    text_of_all _ _ _ _ (IsUtf8-string_bytes c.in-Ok.text) (ap (λ v. v.items) c.in-Ok.ensures.ok) read.0 read.1 read.2
