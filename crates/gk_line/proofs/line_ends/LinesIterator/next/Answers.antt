use Rattle.std.proofs.Common.{ap, length, arith}
use Rattle.std.specs.List.{enumerate_from}
use Rattle.gk_line.specs.Lines.{numbered_lines}
use Rattle.gk_line.proofs.LineLemmas.{lines_left-nil}
use Rattle.gk_line.proofs.line_ends.LinesIterator.next.Goals as goal

pub returns-clause-steps : goal.returns-clause-steps
unfolding numbered_lines
returns-clause-steps c = (
  ap (λ ls. enumerate_from c.args.self.now.number ls) c.first_line.ensures.value,
  (
    omega (arith, c.first_line.ensures.shorter, c.args.self.now.in_range, c.args.self.now.counted),
    c.first_line.ensures.utf8,
    c.args.self.now.counted,
    omega (arith, c.first_line.ensures.ends, c.args.self.now.in_range),
  ),
)

pub returns-then-is_empty-clause-steps : goal.returns-then-is_empty-clause-steps
returns-then-is_empty-clause-steps c =
    let none = lines_left-nil c.args.self.now.number c.args.self.now.rest.now c.if-is_empty.ensures in
    ((none, none), tt)

pub returns-clause-goes : goal.returns-clause-goes
unfolding numbered_lines
returns-clause-goes c =
    let step = ap (λ ls. length (enumerate_from c.args.self.now.number ls)) c.first_line.ensures.value in
    record { on = λ _. (tt, tt, omega (arith, step)); keeps = tt; rests = λ _. tt }
