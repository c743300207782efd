use Rattle.std.proofs.Common.{◌∙◌, [], ap, map, refl, subst, take_all}
use Rattle.ck_commands.specs.FeatureFiles.{asked_once}
use Rattle.ck_commands.specs.FilesKept.{HasTexts, file_of}
use Rattle.ck_commands.proofs.AskedLemmas.{texts_there}
use Rattle.ck_commands.proofs.command_gate_features.asked_feature_files.Goals as goal

pub returns-clause-texts : goal.returns-clause-texts
returns-clause-texts c =
    let so_far = c.loop-file.invariant in
    let all = ap (λ fs. asked_once (map file_of fs)) (take_all c.loop-file.file-index c.args.files.now c.loop-file-test.false) in
    subst (HasTexts c.loop-file.marks) (so_far.files_are ∙ all) (texts_there _ c.loop-file.marks so_far.texts [] _ refl)
