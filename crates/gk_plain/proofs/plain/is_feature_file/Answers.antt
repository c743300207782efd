use Rattle.std.proofs.Common.{inl}
use Rattle.gk_plain.proofs.PlainNumbers.{text_parts, tells_text}
use Rattle.gk_plain.proofs.plain.is_feature_file.Goals as goal

pub returns-then-belongs : goal.returns-then-belongs
returns-then-belongs c ls m = (λ i. (text_parts ls).1 (inl ((c.belongs.ensures ls m).0 i)), λ i. c.if-belongs.true)

pub returns-else-belongs : goal.returns-else-belongs
returns-else-belongs c ls m = tells_text ls c.belongs.result c.belongs-else-belongs.result (c.belongs.ensures ls m) (c.belongs-else-belongs.ensures ls m) c.if-belongs.false
