use Rattle.std.proofs.Common.{◌∙◌, List, ap, map, subst, sym, ℕ, string_bytes}
use Rattle.std.proofs.lemmas.List.{length-map}
use Rattle.std.proofs.lemmas.Result.{IfOk-weaker}
use Rattle.cm_missing.specs.Missing.{AskedFile, IsMissingOf}
use Rattle.cm_stream.specs.Release.{conditions_of}
use Rattle.ck_commands.specs.FeatureFiles.{FeatureFile, asked_once}
use Rattle.ck_commands.specs.FilesKept.{AddsLast, asked_by, file_of}
use Rattle.ck_commands.proofs.FilesTold.{asked_map, reports_asked}
use Rattle.ck_commands.proofs.command_gate_features.asked_features_report.Goals as goal

pub returns-in-Done-clause-report : goal.returns-in-Done-clause-report
returns-in-Done-clause-report g c =
    let asked = conditions_of c.args.conditions.now in
    let found : List FeatureFile = map file_of c.args.found.now in
    let marks = c.judge_runs_for_features.new.marks in
    let parts = c.in_ok-parts.parts in
    let missing = c.in_ok-missing-in-Done.missing in
    let files : List AskedFile = map (asked_by marks) (asked_once found) in
    let whole = (c.in_ok-parts.ensures.judged.done c.in-Done.is).rows c.asked_feature_files.ensures.rows in
    let are = ap (map (λ f. asked_by marks (file_of f.now))) c.as_slice.ensures.value ∙ asked_map marks c.in_ok-asked.asked.items ∙ ap (map (asked_by marks)) c.in_ok-asked.ensures.files in
    let is : IsMissingOf asked files missing = subst (λ (fs : List AskedFile). IsMissingOf asked fs missing) are (c.in_ok-missing-in-Done.ensures whole) in
    IfOk-weaker c.told_features_report.result _ _
    (λ report told.
    let last = subst (λ (n : ℕ). AddsLast asked files n parts.counts (string_bytes parts.report.text) (string_bytes report.text) report.status) (sym (length-map c.args.found.now file_of)) (told asked files is) in
    reports_asked c.args.settings asked found _ _ _ _ _ _ _ _ _ parts.counts c.in_ok-parts.ensures.judged c.in-Done.is c.asked_feature_files.ensures.unmarked c.in_ok-asked.ensures.texts last)
    c.told_features_report.ensures
