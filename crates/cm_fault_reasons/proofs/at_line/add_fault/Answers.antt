use Rattle.std.proofs.Common.{◌∙◌, sym, [], ◌∷◌, ◌++◌}
use Rattle.cm_judge.specs.State.{summary_of}
use Rattle.cm_cases.proofs.ListingLemmas.{on_ok}
use Rattle.cm_stream.specs.Findings.{IsBad, stream_fault_named}
use Rattle.cm_fault_reasons.specs.ToldKept.{lines_by}
use Rattle.cm_fault_reasons.proofs.AtLine.{has_results, told_by_lines, told_of_refused, told_of_source, told_of_success}
use Rattle.cm_fault_reasons.proofs.at_line.add_fault.Goals as goal

pub returns-then-is_of_source : goal.returns-then-is_of_source
returns-then-is_of_source c =
    on_ok c.add_source_reasons.result c.add_source_reasons.ensures
    (λ added before d.
    let told = added c.args.settings before d in
    (told.0, told_of_source d.read c.args.settings before c.args.envelope.now c.args.fault told.0 (sym c.is_of_source.ensures ∙ c.if-is_of_source.true) told.1, told.2))

pub returns-then-is_of_success : goal.returns-then-is_of_success
returns-then-is_of_success c =
    on_ok c.add_run_truth_at.result c.add_run_truth_at.ensures
    (λ added before d.
    let e = c.args.envelope.now in
    let told = added (before ++ e ∷ []) d.upto (has_results c.args.settings (summary_of c.args.state.now) c.args.trail.now before e (IsBad (stream_fault_named c.args.fault)) d) in
    (told.0, told_of_success d.read c.args.settings before e c.args.fault told.0 (sym c.is_of_success.ensures ∙ c.if-is_of_success.true) told.1, told.2))

pub returns-then-is_of_refused : goal.returns-then-is_of_refused
returns-then-is_of_refused c =
    on_ok c.add_refused_run_at.result c.add_refused_run_at.ensures
    (λ added before d.
    let e = c.args.envelope.now in
    let told = added (before ++ e ∷ []) d.upto in
    (told.0, told_of_refused d.read c.args.settings before e c.args.fault told.0 (sym c.is_of_refused.ensures ∙ c.if-is_of_refused.true) told.1, told.2))

pub returns-else-is_of_refused : goal.returns-else-is_of_refused
returns-else-is_of_refused c =
    on_ok c.add_lines.result c.add_lines.ensures
    (λ added before d.
    let e = c.args.envelope.now in (
      lines_by c.args.settings (summary_of c.args.state.now) (before ++ e ∷ []) e (IsBad (stream_fault_named c.args.fault)),
      told_by_lines c.args.settings (summary_of c.args.state.now) c.args.trail.now before e c.args.fault
          (sym c.is_of_source.ensures ∙ c.if-is_of_source.false) (sym c.is_of_success.ensures ∙ c.if-is_of_success.false) (sym c.is_of_refused.ensures ∙ c.if-is_of_refused.false) d,
      added (before ++ e ∷ []) d.upto,
    ))
