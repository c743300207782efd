use Rattle.std.proofs.Common.{◌∙◌, ap, [], ◌∷◌, ◌++◌}
use Rattle.std.specs.Prelude.{string_bytes}
use Rattle.text_rows.proofs.PieceLemmas.{are_texts_more, texts_more}
use Rattle.text_rows.proofs.texts.Texts.add.Goals as goal

pub invariant_of-self-in-Ok : goal.invariant_of-self-in-Ok
invariant_of-self-in-Ok c =
    rw (c.in-Ok.ensures.bytes, c.in_ok-push.ensures.items, c.in_ok-length_of.ensures)
    (are_texts_more c.self.inside.lengths.items (string_bytes c.self.inside.bytes) c.args.text.now c.self.invariant c.utf8.text)

pub returns-in-Ok-clause-ok : goal.returns-in-Ok-clause-ok
returns-in-Ok-clause-ok c =
    rw (c.in-Ok.ensures.bytes, c.in_ok-push.ensures.items, c.in_ok-length_of.ensures)
    (texts_more c.self.inside.lengths.items (string_bytes c.self.inside.bytes) c.args.text.now c.self.invariant ∙ ap (λ ts. ts ++ c.args.text.now ∷ []) c.self.view_is)
