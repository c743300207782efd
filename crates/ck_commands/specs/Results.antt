-- What the command `results` prints, by the whole list of envelopes of a stream.
use Rattle.std.specs.Prelude.{◌≡◌, ℕ, List, [], ◌∷◌, ◌++◌, Option, Some, codes, length}
use Rattle.std.specs.List.{flat_map}
use Rattle.cm_envelope.specs.Feeds.{ShowNothing}
use Rattle.cm_envelope.specs.Lines.{Line, line_feed, max_line_bytes, max_stream_bytes}
use Rattle.cm_envelope.specs.declared.feed.Trouble.TheVariants.{ReadFailed}
use Rattle.cm_attempt.specs.declared.status.Status.{Status}
use Rattle.cm_audit.specs.Audit.{Begins, all_written, contents}
use Rattle.cm_stream.specs.Results.{first_results_fault_of, results_of}
use Rattle.cm_stream.specs.Stream.{FirstFault, At, Troubled, NoFault}
use Rattle.ck_commands.specs.Output.{Report, trouble_report}
use Rattle.ck_commands.specs.Statuses.{reported_word}
use Rattle.ck_commands.specs.Verdicts.{finding_report}
use Rattle.ck_commands.specs.declared.report.ExitStatus.TheVariants.{Done}

-- a case's id, and the status of its final attempt
abbrev pub result_text : List ℕ × Option Status → List ℕ
result_text r = r.0 ++ codes " " ++ reported_word r.1 ++ line_feed ∷ []

-- one line for each case, in order of declaration; or the first fault, or why no further line could be read
abbrev pub results_report : FirstFault → Report
results_report (NoFault es) = record { text = flat_map result_text (results_of es); status = Done }
results_report (At n f) = finding_report n f
results_report (Troubled t) = trouble_report t

-- Before a failed read, lines at which `results` finds no fault were read, and then `ahead`, which is no whole line and passes
-- no limit.
pub record ResultsShowNoFault (first : ℕ) (before after : List ℕ) : Type 0 where
  pub lines : List Line
  pub ahead : List ℕ
  pub begins : Begins before lines ahead after
  pub faultless : first_results_fault_of first [] 1 (contents lines) (Some ReadFailed)
      ≡ Troubled ReadFailed
  pub nothing : ShowNothing max_line_bytes max_stream_bytes (length (all_written lines)) ahead
