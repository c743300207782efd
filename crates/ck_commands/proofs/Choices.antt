-- What the words chose is what they ask for.
use Rattle.std.proofs.Common.{◌≡◌, ◌∙◌, ◌∷◌, ℕ, List, Some, Ok, Err, ap, inr, refl, subst, map, codes}
use Rattle.std.specs.Borrow.{Bor}
use Rattle.cm_attempt.specs.declared.status.Settings.{Settings}
use Rattle.cm_envelope.specs.Device.{Input, Output}
use Rattle.cm_envelope.specs.declared.feed.Trouble.TheVariants.{Memory}
use Rattle.cm_stream.specs.Release.{Conditions}
use Rattle.files.specs.Looks.{PathLook}
use Rattle.files.specs.Openings.{Opening}
use Rattle.ck_command_line.specs.CommandLine.{Request, Chooses, asked_of, asked_of_choice, over_features, over_input, over_runs}
use Rattle.ck_command_line.specs.declared.command_line.Choice.{Choice}
use Rattle.ck_command_line.specs.declared.command_line.Refusal.{Refusal}
use Rattle.ck_command_line.specs.declared.command_line.Refusal.TheVariants as refusal
use Rattle.ck_commands.specs.Asked.{AsksFor, Leaves}
use Rattle.ck_commands.specs.FilesAsked.{GatesFeatures}
use Rattle.ck_commands.specs.Output.{Delivers, trouble_report}
use Rattle.ck_commands.specs.Run.{report_of_refusal}
use Rattle.ck_commands.proofs.Ran.{runs_of, without_memory}

-- where there is no memory
pub memory_leaves : (a : Request) (code : ℕ) (old : List Opening) (seen : List PathLook) (i : Input) (before after : Output) → Delivers (trouble_report Memory) code before after → Leaves a code old old seen seen i i before after
memory_leaves (over_input c) code old seen i before after d = (refl, refl, runs_of c (trouble_report Memory) code i i before after d (without_memory c i))
memory_leaves (over_runs g) code old seen i before after d = (refl, (trouble_report Memory, inr refl, d))
memory_leaves (over_features g) code old seen i before after d = (trouble_report Memory, inr refl, d)

module _ (words : List (Bor (List ℕ))) (full : List (List ℕ)) (same : full ≡ codes "cukecheck" ∷ map (λ w. w.now) words) where
  -- the choice is what the words ask for
  pub choice_leaves : (d : Choice) (code : ℕ) (old new : List Opening) (seen later : List PathLook) (i j : Input) (before after : Output) → Chooses (asked_of full) (Ok d)
      → Leaves (asked_of_choice d) code old new seen later i j before after → (a : Request) → AsksFor words a → Leaves a code old new seen later i j before after
  choice_leaves d code old new seen later i j before after chosen leaves a asks =
      let is : Chooses (Some a) (Ok d) = subst (λ o. Chooses o (Ok d)) (ap asked_of same ∙ asks) chosen in
      subst (λ (k : Request). Leaves k code old new seen later i j before after) is leaves

  -- no choice where they ask for something is want of memory
  pub refusal_leaves : (r : Refusal) (code : ℕ) (old : List Opening) (seen : List PathLook) (i : Input) (before after : Output) → Chooses (asked_of full) (Err r) → Delivers (report_of_refusal r) code before after
      → (a : Request) → AsksFor words a → Leaves a code old old seen seen i i before after
  refusal_leaves r code old seen i before after chosen d a asks =
      let is : r ≡ refusal.Memory = subst (λ o. Chooses o (Err r)) (ap asked_of same ∙ asks) chosen in
      memory_leaves a code old seen i before after (subst (λ (x : Refusal). Delivers (report_of_refusal x) code before after) is d)

-- the feature files and the runs that are judged are those that were chosen
pub features_leave : (s : Settings) (asked : Conditions) (features read runs given : List (Bor (List ℕ))) → read ≡ features → given ≡ runs → (code : ℕ) (old new : List Opening) (seen later : List PathLook) (i j : Input) (before after : Output)
    → GatesFeatures (record {
      settings = s;
      asked = asked;
      features = map (λ p. p.now) read;
      runs = map (λ run. run.now) given;
    }) code old new seen later i j before after
    → Leaves (over_features (record {
      settings = s;
      asked = asked;
      features = map (λ p. p.now) features;
      runs = map (λ run. run.now) runs;
    })) code old new seen later i j before after
features_leave s asked features read runs given same_features same_runs code old new seen later i j before after gates =
    let Gates : List (Bor (List ℕ)) → List (Bor (List ℕ)) → Type 0 = λ fs rs. GatesFeatures (record {
      settings = s;
      asked = asked;
      features = map (λ p. p.now) fs;
      runs = map (λ run. run.now) rs;
    }) code old new seen later i j before after in
    subst (λ fs. Gates fs runs) same_features (subst (Gates read) same_runs gates)
