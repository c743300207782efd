use Rattle.std.proofs.Common.{ap, ◌∙◌, ◌++◌}
use Rattle.std.specs.Str.{chars}
use Rattle.std.proofs.lemmas.Str.{chars-nil, IsUtf8-string_bytes}
use Rattle.gk_line.specs.DocStrings.{doc_line_of}
use Rattle.gk_line.specs.Views.{line_chars}
use Rattle.gk_line.proofs.doc_strings.doc_line.Goals as goal

pub returns-clause-value : goal.returns-clause-value
returns-clause-value c =
    let empty = ap chars c.new-text.ensures.bytes ∙ chars-nil in
    c.in_ok-push_doc_line.ensures.ok ∙ ap (λ q. q ++ doc_line_of c.args.fence c.args.indent (line_chars c.args.line)) empty

pub returns-clause-utf8 : goal.returns-clause-utf8
returns-clause-utf8 c = IsUtf8-string_bytes c.push_doc_line.new.text
