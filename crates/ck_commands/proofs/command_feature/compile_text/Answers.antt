use Rattle.std.proofs.Common.{◌≡◌, ◌∙◌, List, ℕ, Err, ap, inl, refl, sym}
use Rattle.ck_commands.specs.Features.{IsReadableText}
use Rattle.ck_commands.specs.Output.{Report}
use Rattle.ck_commands.specs.declared.command_feature.FeatureFault.TheVariants.{Refused}
use Rattle.ck_commands.specs.declared.report.ExitStatus.TheVariants.{Done}
use Rattle.ck_commands.proofs.Compiles.{fault_delivered, refused_of}
use Rattle.ck_commands.proofs.Delivering.{not_written}
use Rattle.ck_commands.proofs.command_feature.compile_text.Goals as goal

lines_report : List ℕ → Report
lines_report lines = record { text = lines; status = Done }

pub returns-in-Ok : goal.returns-in-Ok
unfolding lines_report
returns-in-Ok g c =
    let wrote = c.in-Ok.ensures.written in
    let readable : IsReadableText c.args.text.now = record { utf8 = c.utf8.text; short = λ long. let no = c.in-Ok.ensures.too_long.1 long in cc } in
    (lines_report wrote.0, inl (inl (wrote.0, readable, wrote.1, refl)), c.flush_text.ensures _ wrote.0 wrote.2 c.in-Ok.ensures.none_failed)

pub returns-in-Err-Parse : goal.returns-in-Err-Parse
returns-in-Err-Parse g c =
    let fault = c.in-Err-Parse.fault in
    let parsed = c.in-Err-Parse.field-0-is in
    let same : c.write_compiled.new.sink ≡ c.args.sink.now = c.in-Err-Parse.ensures.untouched (λ e. let other = sym parsed ∙ e in cc) in
    let refused = c.in-Err-Parse.ensures.refused fault (ap Err parsed) in
    fault_delivered c.args.uri.now c.args.text.now (Refused fault) _ _ _ (refused_of c.args.text.now fault c.utf8.text refused) (rw same at c.print_feature_fault.ensures)

pub returns-in-Err-WriteFailed : goal.returns-in-Err-WriteFailed
unfolding lines_report
returns-in-Err-WriteFailed g c =
    let is = c.in-Err-WriteFailed.field-0-is in
    let compile = c.in-Err-WriteFailed.ensures in
    let wrote = compile.front (ap Err is) in
    let readable : IsReadableText c.args.text.now = record { utf8 = c.utf8.text; short = λ long. let no = compile.too_long.1 long in cc } in
    let told = c.write_trouble.ensures.front in (
      lines_report wrote.0,
      inl (inl (wrote.0, readable, wrote.1, refl)),
      not_written (lines_report wrote.0) _ _ _ _ told.0 told.1 c.write_trouble.ensures.status wrote.2 (compile.failed (ap Err is)) told.2 told.3 c.write_trouble.ensures.counted,
    )
