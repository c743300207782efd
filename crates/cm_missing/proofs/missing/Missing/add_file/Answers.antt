use Rattle.std.proofs.Common.{subst, Bor, List, ℕ, Result}
use Rattle.std.specs.Prelude.{option_map}
use Rattle.std.proofs.lemmas.Result.{on_ok_weaker}
use Rattle.cm_stream.specs.Release.{conditions_of}
use Rattle.gk_document.specs.declared.tree.Document.{Document}
use Rattle.gk_tree.specs.declared.fault.ParseFault.{ParseFault}
use Rattle.cm_missing.specs.Missing.{Accepted, AskedFile, IsFileReading, Refused}
use Rattle.cm_missing.specs.Told.{KeepsMore, reading_of}
use Rattle.cm_missing.proofs.FileLemmas.{one_file, told_by_pickles}
use Rattle.cm_missing.proofs.missing.Missing.add_file.Goals as goal

pub returns-in-Ok : goal.returns-in-Ok
returns-in-Ok c =
    let asked = conditions_of c.args.conditions.now in
    let old = c.args.self.now in
    let new = c.add_document.new.self in
    let d = c.in-Ok.document in
    let f : AskedFile = record { path = c.args.path.now; text = option_map (λ (t : Bor (List ℕ)). t.now) c.args.text; flags = c.args.flags.now } in
    let is : IsFileReading f.text (Accepted d) = subst (λ (r : Result Document ParseFault). IsFileReading f.text (reading_of r)) c.in-Ok.is c.in_ok-document.ensures in
    on_ok_weaker c.add_document.result
    (λ more files. one_file asked files f (Accepted d) old new is (subst (KeepsMore old new) (told_by_pickles asked f d) more))
    c.add_document.ensures

pub returns-in-Err : goal.returns-in-Err
returns-in-Err c =
    let asked = conditions_of c.args.conditions.now in
    let f : AskedFile = record { path = c.args.path.now; text = option_map (λ (t : Bor (List ℕ)). t.now) c.args.text; flags = c.args.flags.now } in
    let x = c.in-Err.fault in
    let is : IsFileReading f.text (Refused x.kind x.line x.column) = subst (λ (r : Result Document ParseFault). IsFileReading f.text (reading_of r)) c.in-Err.is c.in_ok-document.ensures in
    on_ok_weaker c.add_line.result
    (λ more files. one_file asked files f (Refused x.kind x.line x.column) c.args.self.now c.add_line.new.self is more)
    c.add_line.ensures
