use Rattle.std.proofs.Common.{◌≡◌, ◌++◌, true, string_bytes}
use Rattle.ck_commands.specs.Runs.{lines_after}
use Rattle.ck_commands.proofs.RunsLemmas.{begins_next}
use Rattle.ck_commands.proofs.command_gate.add_named_lines.Given as goal

abbrev pub invariant-loop-c : goal.invariant-loop-c
invariant-loop-c l = record {
  text : string_bytes l.text ≡ string_bytes l.fn.text ++ lines_after l.front true l.yielded;
  begins : l.begins ≡ begins_next true l.yielded;
}
