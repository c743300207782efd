use Rattle.std.proofs.Common.{◌∙◌, ap, length, string_bytes, sym}
use Rattle.text_rows.proofs.PieceLemmas.{texts_count}
use Rattle.text_rows.proofs.texts.Texts.len.Goals as goal

pub returns : goal.returns
returns c = rw (← c.self.view_is) (ap length c.as_slice.ensures.value ∙ sym (texts_count c.self.inside.lengths.items (string_bytes c.self.inside.bytes)))
