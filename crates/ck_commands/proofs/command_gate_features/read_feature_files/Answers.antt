use Rattle.std.proofs.Common.{◌∙◌, List, map, option_map, string_bytes, subst, sym, ℕ}
use Rattle.feature_paths.specs.declared.paths.PathTrouble.{PathTrouble}
use Rattle.ck_commands.specs.FilesKept.{FailsFor, ReadsText, TellsFile, file_of}
use Rattle.ck_commands.proofs.FilesLemmas.{fails_on, read_on}
use Rattle.ck_commands.proofs.command_gate_features.read_feature_files.Goals as goal

pub returns-in-Err-clause-trouble : goal.returns-in-Err-clause-trouble
returns-in-Err-clause-trouble g c =
    let paths = c.args.paths.now in
    let old = g.F.Files.openings c.args.files.now in
    let mid = g.F.Files.openings c.loop-path.files in
    let new = g.F.Files.openings c.read_feature_file.new.files in
    let same = c.in_ok-path.ensures.ok ∙ c.as_str.ensures.value in
    let fails = subst (λ (p : List ℕ). FailsFor p mid new c.in-Err.fault) c.as_str-in-loop-path.ensures.value c.in-Err.ensures.fault in
    subst (λ (t : PathTrouble). TellsFile (map string_bytes paths) old new t) (sym c.feature_path_trouble.ensures)
    (fails_on paths c.loop-path.path-index c.path-item.result c.loop-path-test.true c.path-item.is old mid new (map file_of c.loop-path.found.items) c.in_ok-path.path c.in-Err.fault same c.loop-path.invariant.read fails)

pub loop-path-preserved : goal.loop-path-preserved
loop-path-preserved g c =
    let paths = c.args.paths.now in
    let old = g.F.Files.openings c.args.files.now in
    let mid = g.F.Files.openings c.loop-path.files in
    let new = g.F.Files.openings c.read_feature_file.new.files in
    let same = c.in_ok-path.ensures.ok ∙ c.as_str.ensures.value in
    let reads = subst (λ (p : List ℕ). ReadsText p mid new (option_map string_bytes c.in-Ok.text)) c.as_str-in-loop-path.ensures.value c.in-Ok.ensures.text in
    record {
      read = read_on paths c.loop-path.path-index c.path-item.result c.loop-path-test.true c.path-item.is old mid new c.loop-path.found.items c.push.new.self.items c.in_ok-path.path c.in-Ok.text same c.loop-path.invariant.read reads c.in_ok-push-in-Ok.ensures.items;
      looks = c.read_feature_file.ensures.looks ∙ c.loop-path.invariant.looks;
    }
