use Rattle.std.proofs.Common.{◌∙◌, [], ◌∷◌, ◌++◌}
use Rattle.std.specs.Prelude.{string_bytes}
use Rattle.text_rows.proofs.PieceLemmas.{are_rows_more, rows_more}
use Rattle.text_rows.proofs.rows.TextRows.push.Goals as goal

pub invariant_of-self-in-Ok : goal.invariant_of-self-in-Ok
invariant_of-self-in-Ok c =
    rw (c.in-Ok.ensures.bytes, c.in-Ok.ensures.lengths, c.in_ok-push.ensures.items, c.as_str-bytes.ensures.value, c.as_slice-lengths.ensures.value)
    (are_rows_more c.self.inside.sizes.items c.self.inside.lengths.items (string_bytes c.self.inside.bytes) c.row.inside.lengths.items (string_bytes c.row.inside.bytes) c.self.invariant c.row.invariant)

pub returns-in-Ok-clause-ok : goal.returns-in-Ok-clause-ok
returns-in-Ok-clause-ok c =
    rw (c.in-Ok.ensures.bytes, c.in-Ok.ensures.lengths, c.in_ok-push.ensures.items, c.as_str-bytes.ensures.value, c.as_slice-lengths.ensures.value)
    (rows_more c.self.inside.sizes.items c.self.inside.lengths.items (string_bytes c.self.inside.bytes) c.row.inside.lengths.items (string_bytes c.row.inside.bytes) c.self.invariant
    ∙ (λ j. c.self.view_is j ++ c.row.view_is j ∷ []))
