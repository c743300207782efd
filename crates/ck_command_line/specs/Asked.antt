-- What the words after the program's name ask for: laws of the definition of the command line.
use Rattle.std.specs.Prelude.{◌≡◌, ◌≢◌, ⊤, ℕ, Bool, true, false, ◌==◌, ◌&&◌, ◌||◌, not, if◌then◌else◌, codes}
use Rattle.std.specs.Prelude.{List, [], ◌∷◌, ◌++◌, map, filter, Option, Some, None, option_and_then, option_map}
use Rattle.std.specs.List.{AllByRecursion, flat_map, list_all, list_any}
use Rattle.std.specs.Borrow.{Bor}
use Rattle.std.specs.Str.{bytes_eq}
use Rattle.clap.specs.Words.{Text}
use Rattle.clap.specs.Lexer.{long_of}
use Rattle.cm_attempt.specs.declared.status.Policy.{Policy}
use Rattle.cm_attempt.specs.declared.status.Policy.TheVariants.{Strict, PendingPasses}
use Rattle.cm_attempt.specs.Settings.{settings_of}
use Rattle.cm_attempt.specs.declared.status.Settings.{Settings}
use Rattle.cm_stream.specs.Release.{Conditions, each_runs, strict_conditions}
use Rattle.ck_command_line.specs.CommandLine.{Request, Asks, AsksFeatures, AsksNothing, AsksRuns}
use Rattle.ck_command_line.specs.CommandLine.{CallsForHelp, Command, FeaturesGate, RunsGate}
use Rattle.ck_command_line.specs.CommandLine.{ask_audit, ask_cases, ask_compile}
use Rattle.ck_command_line.specs.CommandLine.{ask_gate, ask_parse, ask_results, asked_by}
use Rattle.ck_command_line.specs.CommandLine.{asks_for_help, first_attempt_named, gate_over}
use Rattle.ck_command_line.specs.CommandLine.{has_two_inputs, is_tag, over_features, over_input}
use Rattle.ck_command_line.specs.CommandLine.{over_runs}
use Rattle.ck_command_line.specs.declared.command_line.CaseForm.{CaseForm}
use Rattle.ck_command_line.specs.declared.command_line.CaseForm.TheVariants.{Plain, Json}

-- words that are these texts ask for this, or for nothing, and don't call for help
abbrev pub Ask : List Text → Option Request → Type 0
Ask texts asked = (words : List (Bor Text)) → map (λ w. w.now) words ≡ texts
    → (asked_by words ≡ asked) × (asks_for_help words ≡ false)

-- words that are these texts call for help or for the version
abbrev pub CallForHelp : List Text → Type 0
CallForHelp texts = (words : List (Bor Text)) → map (λ w. w.now) words ≡ texts
    → AsksNothing words × CallsForHelp words

-- ---- the commands that read a stream, with their options and runs

-- an option as it is written, or the name of a run; a path, a tag or the number follows `=` in the
-- same word, or is a word of its own
pub data WrittenWord : Type 0 where
  features : (is_one_word : Bool) → (path : Text) → WrittenWord
  allow_unrun : WrittenWord
  allow_unrun_tagged : (is_one_word : Bool) → (tag : Text) → WrittenWord
  no_retries : WrittenWord
  no_skips : WrittenWord
  no_stepless : WrittenWord
  no_undefined : WrittenWord
  strict : WrittenWord
  as_json : WrittenWord
  pending_passes : WrittenWord
  attempts_from : (is_one_word : Bool) → (number : Text) → WrittenWord
  allow_redeclared : WrittenWord
  run : (word : Text) → WrittenWord

abbrev pub name_of : WrittenWord → Text
name_of (features is_one_word path) = codes "features"
name_of allow_unrun = codes "allow-unrun"
name_of (allow_unrun_tagged is_one_word tag) = codes "allow-unrun-tagged"
name_of no_retries = codes "no-retries"
name_of no_skips = codes "no-skips"
name_of no_stepless = codes "no-stepless"
name_of no_undefined = codes "no-undefined"
name_of strict = codes "strict"
name_of as_json = codes "json"
name_of pending_passes = codes "pending-passes"
name_of (attempts_from is_one_word number) = codes "attempts-from"
name_of allow_redeclared = codes "allow-redeclared"
name_of (run word) = codes "run"

-- its words
abbrev pub words_of : WrittenWord → List Text
words_of (features true path) = (codes "--features=" ++ path) ∷ []
words_of (features false path) = codes "--features" ∷ path ∷ []
words_of allow_unrun = codes "--allow-unrun" ∷ []
words_of (allow_unrun_tagged true tag) = (codes "--allow-unrun-tagged=" ++ tag) ∷ []
words_of (allow_unrun_tagged false tag) = codes "--allow-unrun-tagged" ∷ tag ∷ []
words_of no_retries = codes "--no-retries" ∷ []
words_of no_skips = codes "--no-skips" ∷ []
words_of no_stepless = codes "--no-stepless" ∷ []
words_of no_undefined = codes "--no-undefined" ∷ []
words_of strict = codes "--strict" ∷ []
words_of as_json = codes "--json" ∷ []
words_of pending_passes = codes "--pending-passes" ∷ []
words_of (attempts_from true number) = (codes "--attempts-from=" ++ number) ∷ []
words_of (attempts_from false number) = codes "--attempts-from" ∷ number ∷ []
words_of allow_redeclared = codes "--allow-redeclared" ∷ []
words_of (run word) = word ∷ []

abbrev pub all_words : List WrittenWord → List Text
all_words = flat_map words_of

abbrev pub has_name : Text → WrittenWord → Bool
has_name name option = bytes_eq name (name_of option)

-- `--features`, `--allow-unrun-tagged` and runs alone may be given several times
abbrev pub may_come_again : WrittenWord → Bool
may_come_again (features is_one_word path) = true
may_come_again (allow_unrun_tagged is_one_word tag) = true
may_come_again (run word) = true
may_come_again _ = false

-- the names that options may have after this one
abbrev pub names_after : WrittenWord → List Text → List Text
names_after option names =
    if may_come_again option then names else filter (λ name. not (has_name name option)) names

-- each option has one of these names, and no two have the same one, but for those that may come
-- again
abbrev pub are_distinct : List Text → List WrittenWord → Bool
are_distinct names [] = true
are_distinct names (option ∷ options) = list_any (λ name. has_name name option) names
    && are_distinct (names_after option names) options

-- a word of a hyphen and more
abbrev pub is_option : Text → Bool
is_option [] = false
is_option (c ∷ []) = false
is_option (c ∷ d ∷ cs) = c == 45

-- a path, a tag, a number or a run that is a word of its own isn't written like an option
abbrev pub IsPlain : WrittenWord → Type 0
IsPlain (features false path) = is_option path ≡ false
IsPlain (allow_unrun_tagged false tag) = is_option tag ≡ false
IsPlain (attempts_from false number) = is_option number ≡ false
IsPlain (run word) = is_option word ≡ false
IsPlain _ = ⊤

-- an option of this name is there
abbrev pub is_there : Text → List WrittenWord → Bool
is_there name options = list_any (has_name name) options

-- the policy that the options ask for
abbrev pub policy_of : List WrittenWord → Policy
policy_of options = if is_there (codes "pending-passes") options then PendingPasses else Strict

-- the number that they give
abbrev pub number_of : List WrittenWord → Option Text
number_of [] = None
number_of (attempts_from is_one_word number ∷ options) = Some number
number_of (option ∷ options) = number_of options

-- the settings that they ask for: none where the number is neither 0 nor 1
abbrev pub settings_written : List WrittenWord → Option Settings
settings_written options =
    option_map (λ first. record {
      policy = policy_of options;
      first_attempt = first;
      allows_redeclared = is_there (codes "allow-redeclared") options;
    }) (first_attempt_named (number_of options))

-- the tags that they give, in their order
abbrev pub tags_of : List WrittenWord → List Text
tags_of [] = []
tags_of (allow_unrun_tagged is_one_word tag ∷ options) = tag ∷ tags_of options
tags_of (option ∷ options) = tags_of options

-- what they ask of a run: `--strict` is four options at once
abbrev pub asked_of_run : List WrittenWord → Conditions
asked_of_run options = record {
  is_part = false;
  allows_unrun = is_there (codes "allow-unrun") options;
  allowed_tags = tags_of options;
  no_retries = is_there (codes "strict") options || is_there (codes "no-retries") options;
  no_skips = is_there (codes "strict") options || is_there (codes "no-skips") options;
  no_stepless = is_there (codes "strict") options || is_there (codes "no-stepless") options;
  no_undefined = is_there (codes "strict") options || is_there (codes "no-undefined") options;
}

-- `--allow-unrun` and `--allow-unrun-tagged` are both there
abbrev pub has_both_unrun : List WrittenWord → Bool
has_both_unrun options =
    is_there (codes "allow-unrun") options && is_there (codes "allow-unrun-tagged") options

-- the conditions that they ask for: none where both of these are there, or a tag has no `@`
abbrev pub conditions_written : List WrittenWord → Option Conditions
conditions_written options =
    if has_both_unrun options then None
    else if list_all is_tag (tags_of options) then Some (asked_of_run options)
    else None

-- the runs that they name, in their order
abbrev pub runs_of : List WrittenWord → List Text
runs_of [] = []
runs_of (run word ∷ options) = word ∷ runs_of options
runs_of (option ∷ options) = runs_of options

-- the runs that they ask for: none where two are `-`
abbrev pub runs_written : List WrittenWord → Option (List Text)
runs_written options = if has_two_inputs (runs_of options) then None else Some (runs_of options)

-- the paths that they give, in their order
abbrev pub features_of : List WrittenWord → List Text
features_of [] = []
features_of (features is_one_word path ∷ options) = path ∷ features_of options
features_of (option ∷ options) = features_of options

-- `--allow-unrun` and `--features` are both there
abbrev pub has_unrun_with_features : List WrittenWord → Bool
has_unrun_with_features options =
    is_there (codes "allow-unrun") options && is_there (codes "features") options

-- the paths that they ask for: none where both of these are there
abbrev pub features_written : List WrittenWord → Option (List Text)
features_written options =
    if has_unrun_with_features options then None else Some (features_of options)

-- the form that they ask for
abbrev pub form_of : List WrittenWord → CaseForm
form_of options = if is_there (codes "json") options then Json else Plain

-- how a command is used: its name, the names of its options, whether it takes runs, and what it
-- asks for by the settings, the conditions, the form, the runs and the paths of feature files
pub record Usage : Type 0 where
  pub name : Text
  pub options : List Text
  pub takes_runs : Bool
  pub asks : Settings → Conditions → CaseForm → (runs paths : List Text) → Request

abbrev pub gate_usage : Usage
gate_usage = record {
  name = codes "gate";
  options =
      codes "features" ∷ codes "allow-unrun" ∷ codes "allow-unrun-tagged" ∷ codes "no-retries"
      ∷ codes "no-skips" ∷ codes "no-stepless" ∷ codes "no-undefined" ∷ codes "strict"
      ∷ codes "pending-passes" ∷ codes "attempts-from" ∷ codes "allow-redeclared" ∷ [];
  takes_runs = true;
  asks = λ settings conditions form runs paths. gate_over settings conditions runs paths;
}

-- a command with the options of `audit`
abbrev pub usage_like_audit : Text → (Settings → Command) → Usage
usage_like_audit name asks = record {
  name = name;
  options = codes "pending-passes" ∷ codes "attempts-from" ∷ codes "allow-redeclared" ∷ [];
  takes_runs = false;
  asks = λ settings conditions form runs paths. over_input (asks settings);
}

-- that, and `--json`
abbrev pub cases_usage : Usage
cases_usage = record {
  name = codes "cases";
  options =
      codes "json" ∷ codes "pending-passes" ∷ codes "attempts-from" ∷ codes "allow-redeclared" ∷ [];
  takes_runs = false;
  asks = λ settings conditions form runs paths. over_input (ask_cases settings form);
}

abbrev pub results_usage : Usage
results_usage = record {
  name = codes "results";
  options = codes "attempts-from" ∷ [];
  takes_runs = false;
  asks = λ settings conditions form runs paths. over_input (ask_results settings.first_attempt);
}

-- the commands over standard input alone
abbrev pub input_usages : List Usage
input_usages = usage_like_audit (codes "audit") ask_audit ∷ cases_usage ∷ results_usage ∷ []

abbrev pub usages : List Usage
usages = gate_usage ∷ input_usages

-- the names that its options and runs have
abbrev pub names_taken : Usage → List Text
names_taken usage =
    if usage.takes_runs then codes "run" ∷ usage.options else usage.options

-- what a command with these options and runs asks for
abbrev pub asked_with : Usage → List WrittenWord → Option Request
asked_with usage options =
    option_and_then (λ conditions. option_and_then (λ runs. option_and_then (λ paths. option_map
    (λ settings. usage.asks settings conditions (form_of options) runs paths)
    (settings_written options)) (features_written options)) (runs_written options))
    (conditions_written options)

-- A command's own options may come in any order, none twice but for `--features` and
-- `--allow-unrun-tagged`, and its runs among them. They ask for it with what they say, or for
-- nothing where the number is neither 0 nor 1, a tag has no `@`, `--allow-unrun` is there beside a
-- path or a tag, or two runs are `-`.
abbrev pub TakesItsOptions : Usage → Type 0
TakesItsOptions usage = (options : List WrittenWord) → are_distinct (names_taken usage) options ≡ true
    → AllByRecursion IsPlain options
    → Ask (usage.name ∷ all_words options) (asked_with usage options)

-- A gate over named runs has at least one of them, and no two are standard input.
abbrev pub RunsAreNamed : Type 0
RunsAreNamed = (words : List (Bor Text)) (gate : RunsGate) → AsksRuns words gate
    → (gate.runs ≢ []) × (has_two_inputs gate.runs ≡ false)

-- A gate over feature files has at least one path, and no two of its runs are standard input. Each
-- run is a part, and not just any pickle may be without a test case.
pub record IsOverFeatures (gate : FeaturesGate) : Type 0 where
  pub some_path : gate.features ≢ []
  pub one_input : has_two_inputs gate.runs ≡ false
  pub each_is_part : gate.asked.is_part ≡ true
  pub none_unrun : gate.asked.allows_unrun ≡ false

abbrev pub FeaturesAreNamed : Type 0
FeaturesAreNamed = (words : List (Bor Text)) (gate : FeaturesGate) → AsksFeatures words gate
    → IsOverFeatures gate

-- Without feature files no run is a part.
pub record RunsAreWhole : Type 0 where
  pub input : (words : List (Bor Text)) (settings : Settings) (asked : Conditions)
      → Asks words (ask_gate settings asked) → asked.is_part ≡ false
  pub runs : (words : List (Bor Text)) (gate : RunsGate) → AsksRuns words gate
      → gate.asked.is_part ≡ false

-- a gate, be it over standard input, over named runs or over feature files
abbrev pub IsGate : Request → Type 0
IsGate (over_input (ask_gate settings asked)) = ⊤
IsGate (over_input command) = ⊥
IsGate (over_runs gate) = ⊤
IsGate (over_features gate) = ⊤

-- Words of which the first is `gate` ask for a gate, or for nothing.
abbrev pub GateAsksForGates : Type 0
GateAsksForGates = (words : List (Bor Text)) (others : List Text) (asked : Request)
    → map (λ w. w.now) words ≡ codes "gate" ∷ others → asked_by words ≡ Some asked → IsGate asked

-- Only words of which the first is `gate` ask for one.
abbrev pub OnlyGateAsksForGates : Type 0
OnlyGateAsksForGates = (words : List (Bor Text)) (asked : Request) → asked_by words ≡ Some asked
    → IsGate asked → (others : List Text) × (map (λ w. w.now) words ≡ codes "gate" ∷ others)

-- ---- words that ask for nothing

-- the commands over standard input alone, with the names of their options
abbrev pub named_options_over_input : List (Text × List Text)
named_options_over_input =
    (codes "parse", []) ∷ (codes "compile", codes "uri" ∷ [])
    ∷ map (λ usage. (usage.name, usage.options)) input_usages

-- the same of all commands
abbrev pub named_options : List (Text × List Text)
named_options = (gate_usage.name, gate_usage.options) ∷ named_options_over_input

-- with this word after the command, any of the options and any runs, nothing is asked for, whatever
-- follows
abbrev pub Refuses : (command word : Text) → Type 0
Refuses command word = (options : List WrittenWord) → AllByRecursion IsPlain options
    → (others : List Text) → Ask (command ∷ all_words options ++ word ∷ others) None

-- A command over standard input alone refuses a word that is no option, as the name of a run.
abbrev pub RefusesFiles : Text × List Text → Type 0
RefusesFiles command = (word : Text) → is_option word ≡ false → Refuses command.0 word

-- A command refuses `--NAME` and `--NAME=VALUE` where NAME is neither its own option's nor `help`.
abbrev pub RefusesOtherOptions : Text × List Text → Type 0
RefusesOtherOptions command = (word name : Text) (value : Option Text)
    → long_of word ≡ Some (name, value)
    → AllByRecursion (λ own. own ≢ name) (codes "help" ∷ command.1) → Refuses command.0 word

-- Nothing is asked for without a word, by a first word that is neither an option nor the name of a
-- command, and by `compile` without a uri. The word `help` calls for help.
pub record NothingIsAsked : Type 0 where
  pub no_word : Ask [] None
  pub no_command : (word : Text) (others : List Text) → is_option word ≡ false → codes "help" ≢ word
      → AllByRecursion (λ command. command.0 ≢ word) named_options → Ask (word ∷ others) None
  pub no_uri : Ask (codes "compile" ∷ []) None
  pub help : (others : List Text) → CallForHelp (codes "help" ∷ others)

-- ---- feature files

-- `parse`, and `compile` with a uri: one that is no option may be a word of its own, and any uri
-- may follow `--uri=`
pub record FeaturesAreAsked : Type 0 where
  pub parse : Ask (codes "parse" ∷ []) (Some (over_input ask_parse))
  pub compile : (uri : Text) → is_option uri ≡ false
      → Ask (codes "compile" ∷ codes "--uri" ∷ uri ∷ []) (Some (over_input (ask_compile uri)))
  pub compile_by : (uri : Text)
      → Ask (codes "compile" ∷ (codes "--uri=" ++ uri) ∷ []) (Some (over_input (ask_compile uri)))

-- ---- examples

-- the words of a line, which a space parts
abbrev pub with_first : ℕ → List Text → List Text
with_first c [] = (c ∷ []) ∷ []
with_first c (word ∷ words) = (c ∷ word) ∷ words

abbrev pub words_of_line : Text → List Text
words_of_line [] = [] ∷ []
words_of_line (c ∷ cs) =
    if c == 32 then [] ∷ words_of_line cs else with_first c (words_of_line cs)

-- the settings of this policy, with first attempts of this number, and nothing declared again
abbrev pub settings_by : Policy → (first : ℕ) → Settings
settings_by policy first = record (settings_of policy) { first_attempt = first }

-- where hooks and step definitions may be declared again
abbrev pub allowing_redeclared : Settings → Settings
allowing_redeclared settings = record settings { allows_redeclared = true }

-- `gate` without `--pending-passes` and `--attempts-from`
abbrev pub ask_gate_for : Conditions → Command
ask_gate_for asked = ask_gate (settings_by Strict 0) asked

-- words, and the command over standard input that they ask for
abbrev pub examples : List (Text × Command)
examples =
    (codes "gate", ask_gate_for each_runs)
    ∷ (codes "gate --allow-unrun", ask_gate_for (record each_runs { allows_unrun = true }))
    ∷ (
      codes "gate --attempts-from 1 --allow-unrun",
      ask_gate (settings_by Strict 1) (record each_runs { allows_unrun = true }),
    )
    ∷ (
      codes "gate --attempts-from=1 --pending-passes",
      ask_gate (settings_by PendingPasses 1) each_runs,
    )
    ∷ (
      codes "gate --allow-unrun-tagged @wip",
      ask_gate_for (record each_runs { allowed_tags = codes "@wip" ∷ [] }),
    )
    ∷ (
      codes "gate --allow-unrun-tagged=@wip --no-skips --allow-unrun-tagged @slow",
      ask_gate_for (record each_runs {
        allowed_tags = codes "@wip" ∷ codes "@slow" ∷ [];
        no_skips = true;
      }),
    )
    ∷ (
      codes "gate --allow-unrun-tagged @wip --allow-unrun-tagged @wip",
      ask_gate_for (record each_runs { allowed_tags = codes "@wip" ∷ codes "@wip" ∷ [] }),
    )
    ∷ (codes "gate --no-retries", ask_gate_for (record each_runs { no_retries = true }))
    ∷ (codes "gate --no-skips", ask_gate_for (record each_runs { no_skips = true }))
    ∷ (codes "gate --no-stepless", ask_gate_for (record each_runs { no_stepless = true }))
    ∷ (codes "gate --no-undefined", ask_gate_for (record each_runs { no_undefined = true }))
    ∷ (codes "gate --strict", ask_gate_for strict_conditions)
    ∷ (codes "gate --strict --no-skips", ask_gate_for strict_conditions)
    ∷ (
      codes "gate --no-retries --no-skips --no-stepless --no-undefined",
      ask_gate_for strict_conditions,
    )
    ∷ (
      codes "gate --strict --allow-unrun",
      ask_gate_for (record strict_conditions { allows_unrun = true }),
    )
    ∷ (
      codes "gate --allow-redeclared --strict",
      ask_gate (allowing_redeclared (settings_by Strict 0)) strict_conditions,
    )
    ∷ (codes "audit", ask_audit (settings_by Strict 0))
    ∷ (
      codes "audit --attempts-from 1 --allow-redeclared",
      ask_audit (allowing_redeclared (settings_by Strict 1)),
    )
    ∷ (codes "audit --attempts-from 0", ask_audit (settings_by Strict 0))
    ∷ (codes "cases", ask_cases (settings_by Strict 0) Plain)
    ∷ (codes "cases --pending-passes", ask_cases (settings_by PendingPasses 0) Plain)
    ∷ (codes "cases --json", ask_cases (settings_by Strict 0) Json)
    ∷ (codes "cases --json --pending-passes", ask_cases (settings_by PendingPasses 0) Json)
    ∷ (codes "cases --attempts-from 1 --json", ask_cases (settings_by Strict 1) Json)
    ∷ (
      codes "cases --json --allow-redeclared",
      ask_cases (allowing_redeclared (settings_by Strict 0)) Json,
    )
    ∷ (codes "results --attempts-from 1", ask_results 1)
    ∷ (codes "parse", ask_parse)
    ∷ (codes "compile --uri a.feature", ask_compile (codes "a.feature"))
    ∷ []

-- the gate over these runs, without `--pending-passes` and `--attempts-from`
abbrev pub over_runs_for : Conditions → (runs : List Text) → RunsGate
over_runs_for asked runs = record { settings = settings_by Strict 0; asked = asked; runs = runs }

-- words, and the gate over named runs that they ask for; after `--` each word is one
abbrev pub runs_examples : List (Text × RunsGate)
runs_examples =
    (codes "gate a.ndjson", over_runs_for each_runs (codes "a.ndjson" ∷ []))
    ∷ (codes "gate -", over_runs_for each_runs (codes "-" ∷ []))
    ∷ (
      codes "gate a.ndjson - b.ndjson",
      over_runs_for each_runs (codes "a.ndjson" ∷ codes "-" ∷ codes "b.ndjson" ∷ []),
    )
    ∷ (
      codes "gate a.ndjson a.ndjson",
      over_runs_for each_runs (codes "a.ndjson" ∷ codes "a.ndjson" ∷ []),
    )
    ∷ (codes "gate --strict a.ndjson", over_runs_for strict_conditions (codes "a.ndjson" ∷ []))
    ∷ (
      codes "gate a.ndjson --strict b.ndjson",
      over_runs_for strict_conditions (codes "a.ndjson" ∷ codes "b.ndjson" ∷ []),
    )
    ∷ (
      codes "gate a.ndjson --attempts-from 1 b.ndjson --pending-passes",
      record {
        settings = settings_by PendingPasses 1;
        asked = each_runs;
        runs = codes "a.ndjson" ∷ codes "b.ndjson" ∷ [];
      },
    )
    ∷ (
      codes "gate --allow-unrun-tagged @wip @slow",
      over_runs_for (record each_runs { allowed_tags = codes "@wip" ∷ [] }) (codes "@slow" ∷ []),
    )
    ∷ (
      codes "gate -- a.ndjson --strict -",
      over_runs_for each_runs (codes "a.ndjson" ∷ codes "--strict" ∷ codes "-" ∷ []),
    )
    ∷ []

-- each has to run, asked of a run that is a part
abbrev pub each_part_runs : Conditions
each_part_runs = record each_runs { is_part = true }

-- the gate over these feature files and runs, without `--pending-passes` and `--attempts-from`
abbrev pub over_features_for : Conditions → (paths runs : List Text) → FeaturesGate
over_features_for asked paths runs = record {
  settings = settings_by Strict 0;
  asked = asked;
  features = paths;
  runs = runs;
}

-- words, and the gate over feature files that they ask for; after `--features` one word is a path
abbrev pub features_examples : List (Text × FeaturesGate)
features_examples =
    (codes "gate --features a", over_features_for each_part_runs (codes "a" ∷ []) [])
    ∷ (
      codes "gate --features=a b.ndjson -",
      over_features_for each_part_runs (codes "a" ∷ []) (codes "b.ndjson" ∷ codes "-" ∷ []),
    )
    ∷ (
      codes "gate --features b.feature a.feature",
      over_features_for each_part_runs (codes "b.feature" ∷ []) (codes "a.feature" ∷ []),
    )
    ∷ (
      codes "gate --features b - --features=a --strict --features b",
      over_features_for (record strict_conditions { is_part = true })
          (codes "b" ∷ codes "a" ∷ codes "b" ∷ []) (codes "-" ∷ []),
    )
    ∷ (
      codes "gate --allow-unrun-tagged @wip --features a",
      over_features_for (record each_part_runs { allowed_tags = codes "@wip" ∷ [] })
          (codes "a" ∷ []) [],
    )
    ∷ (
      codes "gate --features a --attempts-from 1 --pending-passes -- --features",
      record {
        settings = settings_by PendingPasses 1;
        asked = each_part_runs;
        features = codes "a" ∷ [];
        runs = codes "--features" ∷ [];
      },
    )
    ∷ []

-- words with a mistake
abbrev pub mistakes : List Text
mistakes =
    codes "gate - -"
    ∷ codes "gate - a.ndjson --strict -"
    ∷ codes "gate - -- -"
    ∷ codes "gate a.ndjson --alow-unrun"
    ∷ codes "gate a.ndjson --attempts-from"
    ∷ codes "gate a.ndjson --attempts-from 2"
    ∷ codes "gate a.ndjson --strict b.ndjson --strict"
    ∷ codes "gate --run a.ndjson"
    ∷ codes "gate --features"
    ∷ codes "gate --features --strict"
    ∷ codes "gate --features a --allow-unrun"
    ∷ codes "gate --allow-unrun b.ndjson --features=a"
    ∷ codes "gate --features a - -"
    ∷ codes "gate --features a --allow-unrun-tagged wip"
    ∷ codes "audit --features a"
    ∷ codes "--features a gate"
    ∷ codes "gate --alow-unrun"
    ∷ codes "gate --allow-unrun=true"
    ∷ codes "gate --allow-unrun --allow-unrun"
    ∷ codes "gate --attempts-from"
    ∷ codes "gate --attempts-from 2"
    ∷ codes "gate --attempts-from=2"
    ∷ codes "gate --attempts-from -1"
    ∷ codes "gate --attempts-from --allow-unrun"
    ∷ codes "gate --attempts-from 1 --attempts-from 1"
    ∷ codes "gate --allow-unrun-tagged"
    ∷ codes "gate --allow-unrun-tagged wip"
    ∷ codes "gate --allow-unrun-tagged=wip"
    ∷ codes "gate --allow-unrun-tagged="
    ∷ codes "gate --allow-unrun-tagged @wip --allow-unrun-tagged slow"
    ∷ codes "gate --allow-unrun --allow-unrun-tagged @wip"
    ∷ codes "gate --allow-unrun-tagged=@wip --allow-unrun"
    ∷ codes "gate --no-retries --no-retries"
    ∷ codes "gate --strict --strict"
    ∷ codes "gate --no-skips=true"
    ∷ codes "gate --no-retry"
    ∷ codes "gate -strict"
    ∷ codes "gate -x"
    ∷ codes "audit -strict"
    ∷ codes "audit --allow-unrun"
    ∷ codes "audit --no-retries"
    ∷ codes "cases --strict"
    ∷ codes "cases --json --json"
    ∷ codes "cases --json=true"
    ∷ codes "cases --json a.ndjson"
    ∷ codes "audit a.ndjson"
    ∷ codes "audit -"
    ∷ codes "audit -- a.ndjson"
    ∷ codes "results a.ndjson"
    ∷ codes "parse a.feature"
    ∷ codes "compile --uri a.feature a.feature"
    ∷ codes "a.ndjson"
    ∷ codes "a.ndjson gate"
    ∷ codes "gate --json"
    ∷ codes "audit --json"
    ∷ codes "differs"
    ∷ codes "differs --attempts-from 1"
    ∷ codes "results --json"
    ∷ codes "parse --json"
    ∷ codes "--json cases"
    ∷ codes "results --no-skips"
    ∷ codes "results --pending-passes"
    ∷ codes "results --allow-redeclared"
    ∷ codes "audit --allow-redeclared --allow-redeclared"
    ∷ codes "gate --allow-redeclared=true"
    ∷ codes "--allow-unrun gate"
    ∷ []

-- calls for help and for the version
abbrev pub help_calls : List Text
help_calls =
    codes "help" ∷ codes "help gate" ∷ codes "--help" ∷ codes "-h"
    ∷ codes "gate --help" ∷ codes "gate -h" ∷ codes "gate --allow-unrun --help"
    ∷ codes "gate --strict --help" ∷ codes "gate a.ndjson --help"
    ∷ codes "gate --features a --help"
    ∷ codes "cases --json --help"
    ∷ codes "--version" ∷ codes "-V" ∷ []

pub record ExamplesAreAsked : Type 0 where
  pub commands : AllByRecursion (λ row. Ask (words_of_line row.0) (Some (over_input row.1)))
      examples
  pub runs : AllByRecursion (λ row. Ask (words_of_line row.0) (Some (over_runs row.1)))
      runs_examples
  pub features : AllByRecursion (λ row. Ask (words_of_line row.0) (Some (over_features row.1)))
      features_examples
  pub mistakes : AllByRecursion (λ text. Ask (words_of_line text) None) mistakes
  pub help : AllByRecursion (λ text. CallForHelp (words_of_line text)) help_calls
