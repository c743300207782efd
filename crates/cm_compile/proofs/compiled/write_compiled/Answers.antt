use Rattle.std.proofs.Common.{subst}
use Rattle.cm_envelope.specs.Writing.{WritesFront}
use Rattle.cm_compile.proofs.compiled.write_compiled.Goals as goal

pub returns-in_err-write_all-clause-front : goal.returns-in_err-write_all-clause-front
returns-in_err-write_all-clause-front g c = λ _. (
  c.in_ok-lines.lines.items,
  c.in_ok-lines.ensures.ok,
  subst (λ bytes. WritesFront (g.W.ByteSink.output c.args.sink.now) (g.W.ByteSink.output c.write_all.new.sink) bytes) c.as_slice.ensures.value
      c.in_err-write_all.ensures.front,
)
