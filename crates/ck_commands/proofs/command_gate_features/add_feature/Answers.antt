use Rattle.std.proofs.Common.{◌∙◌, Bool, List, ap, length, subst, sym}
use Rattle.std.proofs.lemmas.Result.{on_ok_weaker}
use Rattle.cm_missing.specs.Missing.{AllScenariosRan, AskedFile}
use Rattle.cm_stream.specs.Release.{conditions_of}
use Rattle.ck_commands.specs.FilesKept.{all_ran, asked_by, file_of}
use Rattle.ck_commands.proofs.AskedLemmas.{whole_file}
use Rattle.ck_commands.proofs.command_gate_features.add_feature.Goals as goal

pub returns-then-feature_ran : goal.returns-then-feature_ran
returns-then-feature_ran c =
    on_ok_weaker c.add_whole.result
    (λ more files whole. more (conditions_of c.args.conditions.now) files (asked_by c.args.marks.now (file_of c.args.file.now))
    (subst (AllScenariosRan (asked_by c.args.marks.now (file_of c.args.file.now))) (sym (ap length c.feature_flags_of-flags.ensures))
    (whole_file c.args.marks.now (file_of c.args.file.now) whole (sym (c.feature_ran.ensures ∙ ap all_ran c.feature_flags_of-flags.ensures) ∙ c.if-feature_ran.true))))
    c.add_whole.ensures.ok
