use Rattle.std.specs.String.{string_bytes}
use Rattle.std.proofs.lemmas.Result.{on_ok_weaker}
use Rattle.std.proofs.lemmas.Str.{IsUtf8-string_bytes}
use Rattle.gk_line.specs.DocStrings.{doc_line_of}
use Rattle.gk_line.specs.Views.{line_chars}
use Rattle.gk_tree.proofs.TextLemmas.{characters_added, first_line, next_line}
use Rattle.gk_tree.proofs.doc_string.push_content_line.Goals as goal

pub returns-then-is_first : goal.returns-then-is_first
returns-then-is_first c =
    let old = string_bytes c.args.text.now in
    let new = string_bytes c.push_doc_line.new.text in
    let line = doc_line_of c.args.fence c.args.indent (line_chars c.args.line.line) in
    on_ok_weaker c.push_doc_line.result
    (λ added. first_line c.args.is_first old new _ c.if-is_first.true (characters_added old new line (IsUtf8-string_bytes c.args.text.now) (IsUtf8-string_bytes c.push_doc_line.new.text) added))
    c.push_doc_line.ensures.ok

pub returns : goal.returns
unfolding lib.Utf8.encode
returns c =
    let mid = string_bytes c.push.new.self in
    let new = string_bytes c.push_doc_line-2.new.text in
    let line = doc_line_of c.args.fence c.args.indent (line_chars c.args.line.line) in
    on_ok_weaker c.push_doc_line-2.result
    (λ added. next_line c.args.is_first (string_bytes c.args.text.now) mid new _ c.if-is_first.false c.in_ok-push.ensures.bytes
    (characters_added mid new line (IsUtf8-string_bytes c.push.new.self) (IsUtf8-string_bytes c.push_doc_line-2.new.text) added))
    c.push_doc_line-2.ensures.ok
