use Rattle.std.proofs.Common.{◌∙◌, [], Bool, List, ap, length, subst, sym}
use Rattle.std.specs.Option.{option_map_or}
use Rattle.std.specs.Prelude.{Option, Vec}
use Rattle.std.specs.declared.alloc.Global.{Global}
use Rattle.cm_ran.specs.Marks.{CompilesTo}
use Rattle.cm_ran.proofs.MarkLemmas.{on_ok}
use Rattle.cm_ran.proofs.marks.Marks.mark_source.Goals as goal

pub returns-in-Some-clause-rows : goal.returns-in-Some-clause-rows
returns-in-Some-clause-rows c =
    let same = c.as_slice.ensures.value ∙ ap (λ (o : Option (Vec Bool Global)). option_map_or (λ v. v.items) o []) c.in-Some.ensures.value in
    on_ok c.mark_text.result c.mark_text.ensures.rows (λ f compiles. f (subst (λ (row : List Bool). CompilesTo c.args.text.now (length row)) (sym same) compiles))
