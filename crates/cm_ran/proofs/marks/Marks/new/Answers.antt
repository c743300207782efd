use Rattle.std.proofs.Common.{List, Bool, Bor, ap, map}
use Rattle.std.specs.Map.{keys_of}
use Rattle.std.specs.Prelude.{Vec}
use Rattle.std.specs.declared.alloc.Global.{Global}
use Rattle.cm_stream.specs.Texts.{Utf8}
use Rattle.cm_ran.proofs.MarkLemmas.{unmarked_at_first}
use Rattle.cm_ran.proofs.WholeLemmas.{whole_at_first}
use Rattle.cm_ran.proofs.marks.Marks.new.Goals as goal

pub returns-clause-unmarked : goal.returns-clause-unmarked
returns-clause-unmarked c = unmarked_at_first (record { rows = c.with_hasher.result }) (ap (λ (entries : List (Bor Utf8 × Vec Bool Global)). map (λ k. k.now) (keys_of entries)) c.with_hasher.ensures.empty)

pub returns-clause-rows : goal.returns-clause-rows
returns-clause-rows c = whole_at_first (record { rows = c.with_hasher.result }) (ap (λ (entries : List (Bor Utf8 × Vec Bool Global)). map (λ k. k.now) (keys_of entries)) c.with_hasher.ensures.empty)
