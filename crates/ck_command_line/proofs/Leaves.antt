-- What a command makes of the words after its name.
use Rattle.std.proofs.Common.{◌≡◌, List, [], ◌∷◌, Option, Some, refl, sym, ap, ap₂, ◌∙◌, false, fold}
use Rattle.std.specs.Prelude.{codes}
use Rattle.std.specs.List.{list_any}
use Rattle.clap.specs.Words.{App, Kinds, Row, Text, fault_of, subcommand_of}
use Rattle.clap.specs.Kinds.{or_else}
use Rattle.clap.specs.Walk.{Walk, bundle_met, nothing_held, rows_after, walk_from, walked}
use Rattle.clap.specs.Simple.{Shape, built, built_leaf, entered, inherited, names_of}
use Rattle.clap.specs.Faults.{defaults_fault, flags_fault, level_fault, walk_fault}
use Rattle.clap.proofs.WalkLemmas.{walk_stopped}
use Rattle.clap.proofs.FaultLemmas.{stopped_fault}
use Rattle.ck_command_line.specs.CommandLine.{Request, asked_of, command_app, command_named, is_help, is_help_call, subcommand_named, where_none}
use Rattle.ck_command_line.specs.CommandLine.{gate_command, audit_command, cases_command, results_command, compile_command, parse_command}

-- the program, built
abbrev pub program : App
program = built command_app

-- a command, built
abbrev pub leaf : App → Shape
leaf a = built_leaf (inherited command_app.top a.top)

-- the faults that a command finds
abbrev pub faults : Shape → List Text → Kinds
faults s words = or_else (level_fault s [] nothing_held words false []) []

-- the words after its name ask for this, or for nothing, and don't call for help
abbrev pub Answers : Shape → List Text → Option Request → Type 0
Answers s words asked = (where_none (faults s words) (command_named s.name (rows_after s.rules [] words)) ≡ asked)
    × (list_any is_help (faults s words) ≡ false)

-- the same of all the words
abbrev pub LineAnswers : List Text → Option Request → Type 0
LineAnswers words asked = (asked_of (codes "cukecheck" ∷ words) ≡ asked) × (is_help_call (codes "cukecheck" ∷ words) ≡ false)

-- where the walk of the program stops
abbrev stopped_at : Text → List Text → Walk
stopped_at name words = record (walk_from nothing_held) { stopped = Some (name, words) }

module _ (others : List Text) where
  left : (name : Text) → fold (walked program.top.rules (names_of program)) (stopped_at name []) others ≡ stopped_at name others
  left name = sym (walk_stopped program.top.rules (names_of program) (walk_from nothing_held) name [] others)

  no_fault : (name : Text) → walk_fault program.top (names_of program) (stopped_at name []) others ≡ []
  no_fault name = stopped_fault program.top (names_of program) (walk_from nothing_held) (name, []) others

  -- what is left to a command is its own affair
  passed_on : (s : Shape) → fault_of command_app (codes "cukecheck" ∷ s.name ∷ others) ≡ faults s others
      → subcommand_of command_app (codes "cukecheck" ∷ s.name ∷ others) ≡ Some (s.name, rows_after s.rules [] others)
      → (asked : Option Request) → Answers s others asked → LineAnswers (s.name ∷ others) asked
  unfolding asked_of is_help_call
  passed_on s fault rows asked answers = (
    ap₂ (λ (kinds : Kinds) (rows : Option (Text × List Row)). where_none kinds (subcommand_named rows)) fault rows ∙ answers.0,
    ap (list_any is_help) fault ∙ answers.1,
  )

  gate_fault : fault_of command_app (codes "cukecheck" ∷ codes "gate" ∷ others) ≡ faults (leaf gate_command) others
  unfolding bundle_met walked flags_fault walk_fault defaults_fault
  gate_fault = rw (left (codes "gate"), no_fault (codes "gate")) refl

  pub gate_rows : subcommand_of command_app (codes "cukecheck" ∷ codes "gate" ∷ others) ≡ Some (codes "gate", rows_after (leaf gate_command).rules [] others)
  unfolding walked
  gate_rows = ap (λ (w : Walk). entered program w.stopped) (left (codes "gate"))

  pub gate_words : (asked : Option Request) → Answers (leaf gate_command) others asked → LineAnswers (codes "gate" ∷ others) asked
  gate_words = passed_on (leaf gate_command) gate_fault gate_rows

  audit_fault : fault_of command_app (codes "cukecheck" ∷ codes "audit" ∷ others) ≡ faults (leaf audit_command) others
  unfolding bundle_met walked flags_fault walk_fault defaults_fault
  audit_fault = rw (left (codes "audit"), no_fault (codes "audit")) refl

  pub audit_rows : subcommand_of command_app (codes "cukecheck" ∷ codes "audit" ∷ others) ≡ Some (codes "audit", rows_after (leaf audit_command).rules [] others)
  unfolding walked
  audit_rows = ap (λ (w : Walk). entered program w.stopped) (left (codes "audit"))

  pub audit_words : (asked : Option Request) → Answers (leaf audit_command) others asked → LineAnswers (codes "audit" ∷ others) asked
  audit_words = passed_on (leaf audit_command) audit_fault audit_rows

  cases_fault : fault_of command_app (codes "cukecheck" ∷ codes "cases" ∷ others) ≡ faults (leaf cases_command) others
  unfolding bundle_met walked flags_fault walk_fault defaults_fault
  cases_fault = rw (left (codes "cases"), no_fault (codes "cases")) refl

  pub cases_rows : subcommand_of command_app (codes "cukecheck" ∷ codes "cases" ∷ others) ≡ Some (codes "cases", rows_after (leaf cases_command).rules [] others)
  unfolding walked
  cases_rows = ap (λ (w : Walk). entered program w.stopped) (left (codes "cases"))

  pub cases_words : (asked : Option Request) → Answers (leaf cases_command) others asked → LineAnswers (codes "cases" ∷ others) asked
  cases_words = passed_on (leaf cases_command) cases_fault cases_rows

  results_fault : fault_of command_app (codes "cukecheck" ∷ codes "results" ∷ others) ≡ faults (leaf results_command) others
  unfolding bundle_met walked flags_fault walk_fault defaults_fault
  results_fault = rw (left (codes "results"), no_fault (codes "results")) refl

  pub results_rows : subcommand_of command_app (codes "cukecheck" ∷ codes "results" ∷ others) ≡ Some (codes "results", rows_after (leaf results_command).rules [] others)
  unfolding walked
  results_rows = ap (λ (w : Walk). entered program w.stopped) (left (codes "results"))

  pub results_words : (asked : Option Request) → Answers (leaf results_command) others asked → LineAnswers (codes "results" ∷ others) asked
  results_words = passed_on (leaf results_command) results_fault results_rows

  parse_fault : fault_of command_app (codes "cukecheck" ∷ codes "parse" ∷ others) ≡ faults (leaf parse_command) others
  unfolding bundle_met walked flags_fault walk_fault defaults_fault
  parse_fault = rw (left (codes "parse"), no_fault (codes "parse")) refl

  pub parse_rows : subcommand_of command_app (codes "cukecheck" ∷ codes "parse" ∷ others) ≡ Some (codes "parse", rows_after (leaf parse_command).rules [] others)
  unfolding walked
  parse_rows = ap (λ (w : Walk). entered program w.stopped) (left (codes "parse"))

  pub parse_words : (asked : Option Request) → Answers (leaf parse_command) others asked → LineAnswers (codes "parse" ∷ others) asked
  parse_words = passed_on (leaf parse_command) parse_fault parse_rows

  compile_fault : fault_of command_app (codes "cukecheck" ∷ codes "compile" ∷ others) ≡ faults (leaf compile_command) others
  unfolding bundle_met walked flags_fault walk_fault defaults_fault
  compile_fault = rw (left (codes "compile"), no_fault (codes "compile")) refl

  pub compile_rows : subcommand_of command_app (codes "cukecheck" ∷ codes "compile" ∷ others) ≡ Some (codes "compile", rows_after (leaf compile_command).rules [] others)
  unfolding walked
  compile_rows = ap (λ (w : Walk). entered program w.stopped) (left (codes "compile"))

  pub compile_words : (asked : Option Request) → Answers (leaf compile_command) others asked → LineAnswers (codes "compile" ∷ others) asked
  compile_words = passed_on (leaf compile_command) compile_fault compile_rows
