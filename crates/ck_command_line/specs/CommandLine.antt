-- The command line `cukecheck COMMAND`, as the crate `clap` reads it.
use Rattle.std.specs.Prelude.{◌≡◌, ◌⊎◌, ◌==◌, ◌||◌, ⊤, true, false, ℕ, Bool, List, [], ◌∷◌}
use Rattle.std.specs.Prelude.{Option, Some, None, Result, Ok, Err, IsErr, codes}
use Rattle.std.specs.Prelude.{if◌then◌else◌, count_by, fold, map, nat_lt, option_and_then}
use Rattle.std.specs.Prelude.{option_map}
use Rattle.std.specs.List.{list_all, list_any}
use Rattle.std.specs.Borrow.{Bor}
use Rattle.std.specs.Option.{option_map_or}
use Rattle.std.specs.Str.{bytes_eq}
use Rattle.clap.specs.declared.error.kind.ErrorKind.{ErrorKind}
use Rattle.clap.specs.declared.error.kind.ErrorKind.TheVariants as kind
use Rattle.clap.specs.Words.{App, Row, Rule, Text, all_of, fault_of, first_of, new_app, new_rule}
use Rattle.clap.specs.Words.{subcommand_of, with_rule, with_subcommand}
use Rattle.clap.specs.Simple.{on_top}
use Rattle.clap.specs.declared.builder.action.ArgAction.TheVariants.{Append, Set, SetTrue}
use Rattle.cm_attempt.specs.declared.status.Policy.{Policy}
use Rattle.cm_attempt.specs.declared.status.Policy.TheVariants.{Strict, PendingPasses}
use Rattle.cm_attempt.specs.declared.status.Settings.{Settings}
use Rattle.cm_stream.specs.Release.{Conditions, conditions_of}
use Rattle.ck_command_line.specs.declared.command_line.CaseForm.{CaseForm}
use Rattle.ck_command_line.specs.declared.command_line.CaseForm.TheVariants.{Plain, Json}
use Rattle.ck_command_line.specs.declared.command_line.Choice.{Choice}
use Rattle.ck_command_line.specs.declared.command_line.Choice.TheVariants as choice
use Rattle.ck_command_line.specs.declared.command_line.NoChoice.{NoChoice}
use Rattle.ck_command_line.specs.declared.command_line.NoChoice.TheVariants as no_choice
use Rattle.ck_command_line.specs.declared.command_line.Refusal.{Refusal}
use Rattle.ck_command_line.specs.declared.command_line.Refusal.TheVariants as refusal

-- a command over standard input; `compile` has its uri, `results` the number of each case's first
-- attempt, `gate` what it asks of a run that is to be released, `cases` the form of its lines
pub data Command : Type 0 where
  ask_parse : Command
  ask_compile : List ℕ → Command
  ask_audit : Settings → Command
  ask_gate : Settings → Conditions → Command
  ask_results : ℕ → Command
  ask_cases : Settings → CaseForm → Command

-- a gate over named runs, of which there is at least one: each is the file of a stream, and `-` is
-- standard input
pub record RunsGate : Type 0 where
  pub settings : Settings
  pub asked : Conditions
  pub runs : List Text

-- a gate over feature files and runs: each path is a feature file or a folder; where no run is
-- named standard input is the one run
pub record FeaturesGate : Type 0 where
  pub settings : Settings
  pub asked : Conditions
  pub features : List Text
  pub runs : List Text

-- what the words may ask for
pub data Request : Type 0 where
  over_input : Command → Request
  over_runs : RunsGate → Request
  over_features : FeaturesGate → Request

-- what is asked for, as the code holds it
abbrev pub asked_of_choice : Choice → Request
asked_of_choice choice.Parse = over_input ask_parse
asked_of_choice (choice.Compile uri) = over_input (ask_compile uri.now)
asked_of_choice (choice.Audit settings) = over_input (ask_audit settings)
asked_of_choice (choice.Gate settings asked) = over_input (ask_gate settings (conditions_of asked))
asked_of_choice (choice.GateRuns settings asked runs) = over_runs (record {
  settings = settings;
  asked = conditions_of asked;
  runs = map (λ run. run.now) runs.items;
})
asked_of_choice (choice.GateFeatures settings asked features runs) = over_features (record {
  settings = settings;
  asked = conditions_of asked;
  features = map (λ p. p.now) features.items;
  runs = map (λ run. run.now) runs.items;
})
asked_of_choice (choice.Results first_attempt) = over_input (ask_results first_attempt)
asked_of_choice (choice.Cases settings form) = over_input (ask_cases settings form)

-- `--uri URI`, which must be given; its value has one name
abbrev pub uri_rule : Rule
uri_rule = record (new_rule (codes "uri")) {
  long = Some (codes "uri");
  value_names = 1;
  required = true;
  action = Some Set;
}

-- `--attempts-from N`; its value has one name
abbrev pub attempts_rule : Rule
attempts_rule = record (new_rule (codes "attempts-from")) {
  long = Some (codes "attempts-from");
  value_names = 1;
  action = Some Set;
}

-- a flag, which takes no value
abbrev pub flag_rule : Text → Rule
flag_rule name = record (new_rule name) { long = Some name; action = Some SetTrue }

abbrev pub pending_rule : Rule
pending_rule = flag_rule (codes "pending-passes")

abbrev pub unrun_rule : Rule
unrun_rule = flag_rule (codes "allow-unrun")

-- `--allow-unrun-tagged TAG`, any number of times; its value has one name
abbrev pub tagged_rule : Rule
tagged_rule = record (new_rule (codes "allow-unrun-tagged")) {
  long = Some (codes "allow-unrun-tagged");
  value_names = 1;
  action = Some Append;
}

-- `RUN`, any number of times; it is no option, and has one name
abbrev pub run_rule : Rule
run_rule = record (new_rule (codes "run")) { value_names = 1; action = Some Append }

-- `--features PATH`, any number of times; its value has one name
abbrev pub features_rule : Rule
features_rule = record (new_rule (codes "features")) {
  long = Some (codes "features");
  value_names = 1;
  action = Some Append;
}

-- whether hooks and step definitions may be declared again
abbrev pub redeclared_rule : Rule
redeclared_rule = flag_rule (codes "allow-redeclared")

-- whether `cases` writes JSON
abbrev pub json_rule : Rule
json_rule = flag_rule (codes "json")

-- the command with these rules, one added after another
abbrev pub with_rules : App → List Rule → App
with_rules command rules = fold with_rule command rules

-- the options that say by which settings a stream is judged
abbrev pub settings_rules : List Rule
settings_rules = pending_rule ∷ attempts_rule ∷ redeclared_rule ∷ []

-- the options that say what a release asks of a run
abbrev pub release_rules : List Rule
release_rules =
    unrun_rule ∷ tagged_rule ∷ flag_rule (codes "no-retries") ∷ flag_rule (codes "no-skips")
    ∷ flag_rule (codes "no-stepless") ∷ flag_rule (codes "no-undefined")
    ∷ flag_rule (codes "strict") ∷ []

-- the rules of the runs and of what a release asks of them, in the order in which `--help` lists
-- the options
abbrev pub gate_rules : List Rule
gate_rules = run_rule ∷ features_rule ∷ release_rules

-- the command `gate`, with its runs and its options
abbrev pub gate_command : App
gate_command = with_rules (with_rules (new_app (codes "gate")) gate_rules) settings_rules

-- a command with the options of `audit`
abbrev pub command_like_audit : Text → App
command_like_audit name = with_rules (new_app name) settings_rules

abbrev pub audit_command : App
audit_command = command_like_audit (codes "audit")

-- the command `cases`, with one option more
abbrev pub cases_command : App
cases_command = with_rules (with_rule (new_app (codes "cases")) json_rule) settings_rules

-- the command `results [--attempts-from N]`
abbrev pub results_command : App
results_command = with_rule (new_app (codes "results")) attempts_rule

-- the command `parse`
abbrev pub parse_command : App
parse_command = new_app (codes "parse")

-- the command `compile --uri URI`
abbrev pub compile_command : App
compile_command = with_rule (new_app (codes "compile")) uri_rule

-- the program, which has a version and wants a command
abbrev pub bare_app : App
bare_app =
    on_top (λ s. record s { has_version = true; subcommand_required = true })
    (new_app (codes "cukecheck"))

-- the commands, in the order in which `--help` lists them
abbrev pub commands : List App
commands =
    gate_command ∷ audit_command ∷ cases_command ∷ results_command ∷ parse_command
    ∷ compile_command ∷ []

-- the program with these commands, one added after another
abbrev pub with_commands : App → List App → App
with_commands app commands = fold (λ a command. with_subcommand a command.top) app commands

-- the program with all its commands
abbrev pub command_app : App
command_app = with_commands bare_app commands

-- a flag is given where its text is `true`
abbrev pub is_given : Option Text → Bool
is_given text = option_map_or (λ t. bytes_eq t (codes "true")) text false

-- the policy that the flag's text asks for
abbrev pub policy_named : Option Text → Policy
policy_named text = if is_given text then PendingPasses else Strict

-- the number of each case's first attempt: the option's text is exactly `0` or `1`, and it is 0
-- where the option isn't given
abbrev pub first_attempt_named : Option Text → Option ℕ
first_attempt_named None = Some 0
first_attempt_named (Some text) =
    if bytes_eq text (codes "0") then Some 0
    else if bytes_eq text (codes "1") then Some 1
    else None

-- the number and the policy that the values after a command ask for
abbrev pub first_attempt_in : List Row → Option ℕ
first_attempt_in rows = first_attempt_named (first_of (codes "attempts-from") rows)

abbrev pub policy_in : List Row → Policy
policy_in rows = policy_named (first_of (codes "pending-passes") rows)

-- a flag of this name is given
abbrev pub has_flag : Text → List Row → Bool
has_flag name rows = is_given (first_of name rows)

-- the settings, where there is no mistake in the number
abbrev pub settings_in : List Row → Option Settings
settings_in rows =
    option_map (λ n. record {
      policy = policy_in rows;
      first_attempt = n;
      allows_redeclared = has_flag (codes "allow-redeclared") rows;
    }) (first_attempt_in rows)

-- the form that the values after `cases` ask for
abbrev pub form_in : List Row → CaseForm
form_in rows = if has_flag (codes "json") rows then Json else Plain

-- a tag begins with `@`
abbrev pub is_tag : Text → Bool
is_tag [] = false
is_tag (c ∷ cs) = c == 64

-- The tags of the pickles that may be without a case, in their order: none where no tag is given. A
-- text that is no tag is a mistake, and so is a tag where any pickle may be without one.
abbrev pub tags_allowed : (allows_unrun : Bool) → Option (List Text) → Option (List Text)
tags_allowed allows_unrun None = Some []
tags_allowed true (Some tags) = None
tags_allowed false (Some tags) = if list_all is_tag tags then Some tags else None

-- what the flags and these tags ask of a run; `--strict` is four flags at once
abbrev pub conditions_by : (allows_unrun strict retries skips stepless undefined : Bool)
    → (tags : List Text) → Conditions
conditions_by allows_unrun strict retries skips stepless undefined tags = record {
  is_part = false;
  allows_unrun = allows_unrun;
  allowed_tags = tags;
  no_retries = strict || retries;
  no_skips = strict || skips;
  no_stepless = strict || stepless;
  no_undefined = strict || undefined;
}

-- what the values after `gate` ask of a run; None at a mistake
abbrev pub conditions_in : List Row → Option Conditions
conditions_in rows = option_map
    (conditions_by (has_flag (codes "allow-unrun") rows) (has_flag (codes "strict") rows)
    (has_flag (codes "no-retries") rows) (has_flag (codes "no-skips") rows)
    (has_flag (codes "no-stepless") rows) (has_flag (codes "no-undefined") rows))
    (tags_allowed (has_flag (codes "allow-unrun") rows) (all_of (codes "allow-unrun-tagged") rows))

-- the word stands for standard input
abbrev pub is_input : Text → Bool
is_input run = bytes_eq run (codes "-")

-- standard input stands there more than once
abbrev pub has_two_inputs : List Text → Bool
has_two_inputs runs = nat_lt 1 (count_by is_input runs)

-- The runs that are named, in their order: none where no word is given. Standard input can be read
-- once, so that two `-` are a mistake.
abbrev pub runs_named : Option (List Text) → Option (List Text)
runs_named None = Some []
runs_named (Some runs) = if has_two_inputs runs then None else Some runs

abbrev pub runs_in : List Row → Option (List Text)
runs_in rows = runs_named (all_of (codes "run") rows)

-- The paths of feature files and of folders, in their order: none where no option gives one. A path
-- is a mistake where any pickle may be without a case, since each scenario of a path has to run.
abbrev pub features_named : (allows_unrun : Bool) → Option (List Text) → Option (List Text)
features_named allows_unrun None = Some []
features_named true (Some paths) = None
features_named false (Some paths) = Some paths

abbrev pub features_in : List Row → Option (List Text)
features_in rows =
    features_named (has_flag (codes "allow-unrun") rows) (all_of (codes "features") rows)

-- the same, asked of a run that is a part of what is asked
abbrev pub as_part : Conditions → Conditions
as_part asked = record asked { is_part = true }

-- a gate over these runs; where there is none it is over standard input
abbrev pub gate_over_runs : Settings → Conditions → (runs : List Text) → Request
gate_over_runs settings asked [] = over_input (ask_gate settings asked)
gate_over_runs settings asked (run ∷ runs) =
    over_runs (record { settings = settings; asked = asked; runs = run ∷ runs })

-- a gate over these runs alone, or over these feature files and runs, of which each is a part then
abbrev pub gate_over : Settings → Conditions → (runs paths : List Text) → Request
gate_over settings asked runs [] = gate_over_runs settings asked runs
gate_over settings asked runs (path ∷ paths) = over_features (record {
  settings = settings;
  asked = as_part asked;
  features = path ∷ paths;
  runs = runs;
})

-- what `gate` asks by its settings, its conditions, its runs and its paths, where there is no
-- mistake in them
abbrev pub gate_asked : Option Settings → Option Conditions → (runs paths : Option (List Text))
    → Option Request
gate_asked settings asked runs paths =
    option_and_then (λ conditions. option_and_then (λ named. option_and_then (λ given.
    option_map (λ s. gate_over s conditions named given) settings) paths) runs) asked

-- what `cases` asks by its settings and in this form, where there is no mistake
abbrev pub cases_asked : Option Settings → CaseForm → Option Request
cases_asked settings form = option_map (λ s. over_input (ask_cases s form)) settings

-- what the command of this name asks for, with the values that come after it
abbrev pub command_named : Text → List Row → Option Request
command_named name rows =
    if bytes_eq name (codes "parse") then Some (over_input ask_parse)
    else if bytes_eq name (codes "compile") then option_map (λ uri. over_input (ask_compile uri))
    (first_of (codes "uri") rows)
    else if bytes_eq name (codes "audit") then option_map (λ s. over_input (ask_audit s))
    (settings_in rows)
    else if bytes_eq name (codes "gate") then gate_asked (settings_in rows) (conditions_in rows)
    (runs_in rows) (features_in rows)
    else if bytes_eq name (codes "results") then option_map (λ n. over_input (ask_results n))
    (first_attempt_in rows)
    else if bytes_eq name (codes "cases") then cases_asked (settings_in rows) (form_in rows)
    else None

abbrev pub subcommand_named : Option (Text × List Row) → Option Request
subcommand_named sub = option_and_then (λ s. command_named s.0 s.1) sub

abbrev pub where_none : {A B : Type 0} → List A → Option B → Option B
where_none [] found = found
where_none (x ∷ xs) found = None

-- What the words ask for, the program's name first: that of the command that they name, where the
-- command line has no fault.
unfoldable pub asked_of : List Text → Option Request
asked_of words =
    where_none (fault_of command_app words) (subcommand_named (subcommand_of command_app words))

-- what the words after the program's name ask for
abbrev pub asked_by : List (Bor Text) → Option Request
asked_by words = asked_of (codes "cukecheck" ∷ map (λ w. w.now) words)

-- they ask for this command over standard input
abbrev pub Asks : List (Bor Text) → Command → Type 0
Asks words command = asked_by words ≡ Some (over_input command)

-- they ask for this gate over named runs
abbrev pub AsksRuns : List (Bor Text) → RunsGate → Type 0
AsksRuns words gate = asked_by words ≡ Some (over_runs gate)

-- they ask for this gate over feature files
abbrev pub AsksFeatures : List (Bor Text) → FeaturesGate → Type 0
AsksFeatures words gate = asked_by words ≡ Some (over_features gate)

-- they ask for nothing
abbrev pub AsksNothing : List (Bor Text) → Type 0
AsksNothing words = asked_by words ≡ None

-- the words gave this, or memory ran out; words that ask for nothing gave nothing
abbrev pub Chooses : Option Request → Result Choice Refusal → Type 0
Chooses (Some a) (Ok d) = asked_of_choice d ≡ a
Chooses (Some a) (Err r) = r ≡ refusal.Memory
Chooses None result = IsErr result

-- The result shows what was asked for, or memory ran out; where nothing was, it is a mistake.
abbrev pub Shows : {A B : Type 0} → (A → B) → Option B → Result A NoChoice → Type 0
Shows shown asked (Ok x) = asked ≡ Some (shown x)
Shows shown asked (Err no_choice.Memory) = ⊤
Shows shown asked (Err mistake) = asked ≡ None

-- the error shows help or the version
abbrev pub is_help : ErrorKind → Bool
is_help kind.DisplayHelp = true
is_help kind.DisplayVersion = true
is_help _ = false

-- The words, the program's name first, call for help or for the version.
unfoldable pub is_help_call : List Text → Bool
is_help_call words = list_any is_help (fault_of command_app words)

-- whether the words after the program's name call for help or for the version
abbrev pub asks_for_help : List (Bor Text) → Bool
asks_for_help words = is_help_call (codes "cukecheck" ∷ map (λ w. w.now) words)

abbrev pub CallsForHelp : List (Bor Text) → Type 0
CallsForHelp words = asks_for_help words ≡ true

-- help is given only where the words call for it
abbrev pub HelpsOnCall : List Text → Result Choice Refusal → Type 0
HelpsOnCall words (Err (refusal.Help text)) = is_help_call words ≡ true
HelpsOnCall words result = ⊤

-- an error of this kind gives help only where it shows help or the version
abbrev pub HelpsByKind : ErrorKind → Refusal → Type 0
HelpsByKind k (refusal.Help text) = (k ≡ kind.DisplayHelp) ⊎ (k ≡ kind.DisplayVersion)
HelpsByKind k refusal = ⊤

-- it isn't help
abbrev pub IsNoHelp : Refusal → Type 0
IsNoHelp (refusal.Help text) = ⊥
IsNoHelp refusal = ⊤
