use Rattle.std.proofs.Common.{◌≡◌, ◌∙◌, sym, ℕ, List}
use Rattle.std.proofs.lemmas.Result.{IfOk-weaker}
use Rattle.std.proofs.lemmas.Str.{encodes-chars}
use Rattle.gk_tree.specs.Views.{text_of}
use Rattle.gk_tree.proofs.line_tokens.copied.Goals as goal

pub returns : goal.returns
returns c =
    let bytes = c.args.text.now in
    IfOk-weaker c.copy_of.result (λ (t : List ℕ). t ≡ bytes) (λ (t : List ℕ). t ≡ text_of bytes) (λ t e. e ∙ sym (encodes-chars bytes c.utf8.text)) c.copy_of.ensures
