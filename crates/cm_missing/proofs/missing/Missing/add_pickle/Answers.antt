use Rattle.std.proofs.Common.{ap, sym, refl}
use Rattle.std.proofs.lemmas.Result.{on_ok_weaker}
use Rattle.cm_stream.specs.Release.{conditions_of}
use Rattle.cm_missing.specs.Missing.{AskedPickle, missing_text}
use Rattle.cm_missing.specs.declared.missing.Missing.{Missing}
use Rattle.cm_missing.proofs.ToldLemmas.{keeps_missing}
use Rattle.cm_missing.proofs.missing.Missing.add_pickle.Goals as goal

pub returns : goal.returns
returns c =
    let path = c.args.path.now in
    let old = c.args.self.now in
    let mid : Missing = record old { scenarios = c.in_ok-self.field-0 } in
    let p : AskedPickle = record { due = c.args.pickle.now; line = c.args.line; has_run = c.args.has_run } in
    on_ok_weaker c.add_line.result
    (keeps_missing (conditions_of c.args.conditions.now) path p old c.add_line.new.self mid (missing_text path c.args.line c.as_str.result.now)
    c.if-has_run.false (sym c.if-may_be_left_out.ensures) refl refl c.in_ok-self.ensures refl (ap (missing_text path c.args.line) c.as_str.ensures))
    c.add_line.ensures
