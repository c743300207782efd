use Rattle.std.proofs.Common.{◌∙◌, ap, map}
use Rattle.ck_command_line.specs.CommandLine.{asked_of_choice, over_features, over_runs}
use Rattle.ck_commands.proofs.Choices.{choice_leaves, memory_leaves, refusal_leaves}
use Rattle.ck_commands.proofs.FeaturesReleased.{releases_features}
use Rattle.ck_commands.proofs.Left.{unread_of}
use Rattle.ck_commands.proofs.RunsReleased.{releases_each}
use Rattle.ck_commands.proofs.commands.run_with.Goals as goal

pub returns-in_default-clause-asked : goal.returns-in_default-clause-asked
returns-in_default-clause-asked g c = λ a asks. memory_leaves a _ _ _ _ _ _ c.write_no_memory.ensures

pub returns-in-Ok-choose-clause-released : goal.returns-in-Ok-choose-clause-released
returns-in-Ok-choose-clause-released g c = λ r asks zero.
    let same = ap (λ ws. map (λ w. w.now) ws) c.as_slice.ensures.value ∙ c.in-Ok.ensures in
    releases_each r _ _ _ _ _ _ _ (choice_leaves c.args.words.now _ same c.in-Ok-choose.choice _ _ _ _ _ _ _ _ _ c.in-Ok-choose.ensures.chosen c.run_choice.ensures (over_runs r) asks).1 zero

pub returns-in-Ok-choose-clause-features_released : goal.returns-in-Ok-choose-clause-features_released
returns-in-Ok-choose-clause-features_released g c = λ r asks zero.
    let same = ap (λ ws. map (λ w. w.now) ws) c.as_slice.ensures.value ∙ c.in-Ok.ensures in
    releases_features r _ _ _ _ _ _ _ _ _ (choice_leaves c.args.words.now _ same c.in-Ok-choose.choice _ _ _ _ _ _ _ _ _ c.in-Ok-choose.ensures.chosen c.run_choice.ensures (over_features r) asks) zero

pub returns-in-Ok-choose-clause-unread : goal.returns-in-Ok-choose-clause-unread
returns-in-Ok-choose-clause-unread g c = unread_of (asked_of_choice c.in-Ok-choose.choice) _ _ _ _ _ _ _ _ _ c.run_choice.ensures

pub returns-clause-asked : goal.returns-clause-asked
returns-clause-asked g c = λ a asks.
    let same = ap (λ ws. map (λ w. w.now) ws) c.as_slice.ensures.value ∙ c.in-Ok.ensures in
    refusal_leaves c.args.words.now _ same c.in-Err.refusal _ _ _ _ _ _ c.in-Err.ensures.chosen c.print_refusal.ensures a asks
