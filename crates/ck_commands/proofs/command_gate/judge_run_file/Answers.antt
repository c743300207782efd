use Rattle.std.proofs.Common.{◌∙◌, ◌∷◌, ◌++◌, [], List, ℕ, Some, refl, sym, ap, append-nil, string_bytes}
use Rattle.cm_stream.specs.Release.{conditions_of}
use Rattle.files.specs.Openings.{Opening}
use Rattle.ck_commands.specs.Runs.{heard, unnoted, unread_input}
use Rattle.ck_commands.proofs.JudgedLemmas.{fresh_run, memory_run}
use Rattle.ck_commands.proofs.RunsReleased.{unnoted_opening}
use Rattle.ck_commands.proofs.command_gate.judge_run_file.Goals as goal

pub returns-in-Ok-close-clause-judged : goal.returns-in-Ok-close-clause-judged
returns-in-Ok-close-clause-judged g c =
    let after = g.F.Source.ByteSource.input c.judge_opened_run-run.new.source in (
      record { name = c.args.name.now; input = Some after } ∷ [],
      heard unread_input after,
      c.in-Ok-close.ensures.noted ∙ ap (λ (l : List Opening). l ++ record { name = string_bytes c.in-Ok.file.name; input = Some after } ∷ []) c.in-Ok.ensures.noted
          ∙ ap (λ (n : List ℕ). g.F.Files.openings c.args.files.now ++ record { name = n; input = Some after } ∷ []) c.in-Ok.ensures.name,
      (refl, refl),
      fresh_run c.args.settings (conditions_of c.args.conditions.now) _ _ _ after _ _ c.in-Ok.ensures.fresh c.judge_opened_run-run.ensures,
    )

pub returns-in-Err-clause-judged : goal.returns-in-Err-clause-judged
returns-in-Err-clause-judged g c =
    ([], unnoted, c.in-Err.ensures.noted ∙ c.in-Ok.ensures.noted ∙ sym (append-nil _), refl, memory_run c.args.settings (conditions_of c.args.conditions.now) _ _ c.judge_opened_run-run.ensures.texts)

pub returns-in-Err-Memory-clause-judged : goal.returns-in-Err-Memory-clause-judged
returns-in-Err-Memory-clause-judged g c =
    ([], unnoted, unnoted_opening _ _ _ _ c.in-Err-Memory.field-0-is c.in-Err-Memory.ensures.noted ∙ sym (append-nil _), refl, memory_run c.args.settings (conditions_of c.args.conditions.now) _ _ refl)
