use Rattle.ck_command_line.proofs.Asked.{options_are_taken, files_are_refused, other_options_are_refused, features_are_asked, nothing_is_asked, examples_are_asked}
use Rattle.ck_command_line.proofs.Gates.{gate_asks_for_gates, only_gate_asks_for_gates}
use Rattle.ck_command_line.proofs.Named.{features_are_named, runs_are_named, runs_are_whole}
use Rattle.ck_command_line.proofs.laws.words_ask_for_their_command.Goals as goal

pub returns-clause-options : goal.returns-clause-options
returns-clause-options c = options_are_taken

pub returns-clause-runs : goal.returns-clause-runs
returns-clause-runs c = runs_are_named

pub returns-clause-gates : goal.returns-clause-gates
returns-clause-gates c = gate_asks_for_gates

pub returns-clause-only_gate : goal.returns-clause-only_gate
returns-clause-only_gate c = only_gate_asks_for_gates

pub returns-clause-features_named : goal.returns-clause-features_named
returns-clause-features_named c = features_are_named

pub returns-clause-whole : goal.returns-clause-whole
returns-clause-whole c = runs_are_whole

pub returns-clause-files : goal.returns-clause-files
returns-clause-files c = files_are_refused

pub returns-clause-other_options : goal.returns-clause-other_options
returns-clause-other_options c = other_options_are_refused

pub returns-clause-features : goal.returns-clause-features
returns-clause-features c = features_are_asked

pub returns-clause-nothing : goal.returns-clause-nothing
returns-clause-nothing c = nothing_is_asked

pub returns-clause-examples : goal.returns-clause-examples
returns-clause-examples c = examples_are_asked
