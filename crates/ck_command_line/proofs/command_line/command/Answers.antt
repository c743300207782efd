use Rattle.std.proofs.Common.{ap, ap₂, ◌≡◌, ◌∙◌, List, [], ◌∷◌}
use Rattle.std.proofs.lemmas.Result.{IfOk-weaker}
use Rattle.clap.specs.Words.{App, app_of, with_subcommand}
use Rattle.ck_command_line.specs.CommandLine.{audit_command, bare_app, cases_command, gate_command, parse_command, results_command, with_commands}
use Rattle.ck_command_line.proofs.Arguments.{one_more}
use Rattle.ck_command_line.proofs.command_line.command.Goals as goal

-- the program with these commands
abbrev program : List App → App
program commands = with_commands bare_app commands

pub returns : goal.returns
returns c =
    let gate_is : app_of c.in_ok-with_gate.with_gate ≡ program (gate_command ∷ []) =
    one_more _ _ _ _ _ c.in_ok-with_gate.ensures c.bare_command-bare.ensures c.gate_command.ensures.app c.gate_command.ensures.local in
    let audit_is : app_of c.in_ok-with_audit.with_audit ≡ program (gate_command ∷ audit_command ∷ []) =
    one_more _ _ _ _ _ c.in_ok-with_audit.ensures gate_is c.audit_command.ensures.app c.audit_command.ensures.local in
    let cases_is : app_of c.in_ok-with_cases.with_cases ≡ program (gate_command ∷ audit_command ∷ cases_command ∷ []) =
    one_more _ _ _ _ _ c.in_ok-with_cases.ensures audit_is c.cases_command.ensures.app c.cases_command.ensures.local in
    let results_is : app_of c.in_ok-with_results.with_results ≡ program (gate_command ∷ audit_command ∷ cases_command ∷ results_command ∷ []) =
    one_more _ _ _ _ _ c.in_ok-with_results.ensures cases_is c.results_command.ensures.app c.results_command.ensures.local in
    let parse_is : app_of c.in_ok-with_parse.with_parse ≡ program (gate_command ∷ audit_command ∷ cases_command ∷ results_command ∷ parse_command ∷ []) =
    c.in_ok-with_parse.ensures c.parse_command.ensures.local ∙ ap₂ with_subcommand results_is (ap (λ (a : App). a.top) c.parse_command.ensures.app) in
    IfOk-weaker c.with_command-6.result _ _ (λ r h. one_more _ _ r _ _ h parse_is c.compile_command.ensures.app c.compile_command.ensures.local) c.with_command-6.ensures
