use Rattle.std.proofs.Common.{◌∙◌, ◌∷◌, ◌++◌, [], List, ℕ, Some, ap, string_bytes}
use Rattle.files.specs.Openings.{Opening}
use Rattle.ck_commands.proofs.FilesLemmas.{fault_told, read_told}
use Rattle.ck_commands.proofs.command_gate_features.read_feature_file.Goals as goal

pub returns-in-Ok-close-clause-text : goal.returns-in-Ok-close-clause-text
returns-in-Ok-close-clause-text g c =
    let after = g.F.Source.ByteSource.input c.read_text-read.new.source in
    let noted = c.in-Ok-close.ensures.noted ∙ ap (λ (l : List Opening). l ++ record { name = string_bytes c.in-Ok.file.name; input = Some after } ∷ []) c.in-Ok.ensures.noted
    ∙ ap (λ (n : List ℕ). g.F.Files.openings c.args.files.now ++ record { name = n; input = Some after } ∷ []) c.in-Ok.ensures.name in
    let read = c.read_text-read in
    read_told c.args.path.now _ _ (g.F.Source.ByteSource.input c.in-Ok.file.source) after noted read.result c.feature_text_of.result (record { fresh = c.in-Ok.ensures.fresh; text = read.ensures.ok; wrong = read.ensures.fault; failures = read.ensures.failures }) c.feature_text_of.ensures

pub returns-in-Ok-close-clause-fault : goal.returns-in-Ok-close-clause-fault
returns-in-Ok-close-clause-fault g c =
    let after = g.F.Source.ByteSource.input c.read_text-read.new.source in
    let noted = c.in-Ok-close.ensures.noted ∙ ap (λ (l : List Opening). l ++ record { name = string_bytes c.in-Ok.file.name; input = Some after } ∷ []) c.in-Ok.ensures.noted
    ∙ ap (λ (n : List ℕ). g.F.Files.openings c.args.files.now ++ record { name = n; input = Some after } ∷ []) c.in-Ok.ensures.name in
    let read = c.read_text-read in
    fault_told c.args.path.now _ _ (g.F.Source.ByteSource.input c.in-Ok.file.source) after noted read.result c.feature_text_of.result (record { fresh = c.in-Ok.ensures.fresh; text = read.ensures.ok; wrong = read.ensures.fault; failures = read.ensures.failures }) c.feature_text_of.ensures
