use Rattle.std.proofs.Common.{◌∙◌, ◌||◌, Bool, List, false, sym, ap, get_or, length, max, subst}
use Rattle.std.specs.Prelude.{is_some}
use Rattle.cm_ran.specs.Rows.{flag_at}
use Rattle.cm_ran.proofs.MarkLemmas.{is_there, none_marked, row_marked}
use Rattle.cm_ran.proofs.WholeLemmas.{AreWhole, whole_marked}
use Rattle.cm_ran.proofs.marks.Marks.mark_text.Goals as goal

pub returns-in_ok-marked-clause-ok : goal.returns-in_ok-marked-clause-ok
returns-in_ok-marked-clause-ok c =
    let written = (c.get_mut.follows.holds c.in_ok-marked.field-0).3 (is_there _ c.in-Some.marked.now c.in-Some.ensures.value) in
    λ other place there. row_marked c.args.self.now.rows (c.get_mut.follows.lender c.in_ok-marked.field-0) c.args.text.now c.in-Some.marked.now c.in_ok-marked.field-0 c.args.row.now
    (sym c.in-Some.ensures.value) (λ at. c.in_ok-marked.ensures.flags at ∙ ap (λ (xs : List Bool). get_or xs at false || get_or c.args.row.now at false) c.as_slice.ensures.value)
    written.0 other place

pub returns-in_default-clause-ok : goal.returns-in_default-clause-ok
returns-in_default-clause-ok c =
    λ other place there. ap (λ m. flag_at m other place) c.get_mut.follows.holds-at-none
    ∙ none_marked c.args.self.now.rows c.args.text.now c.args.row.now (ap is_some (sym c.in_default.ensures.value)) other place there

pub returns-in_ok-marked-clause-rows : goal.returns-in_ok-marked-clause-rows
returns-in_ok-marked-clause-rows c =
    let written = (c.get_mut.follows.holds c.in_ok-marked.field-0).3 (is_there _ c.in-Some.marked.now c.in-Some.ensures.value) in
    λ compiles. whole_marked c.args.self.now.rows (c.get_mut.follows.lender c.in_ok-marked.field-0) c.args.text.now c.in-Some.marked.now c.in_ok-marked.field-0 c.args.row.now
    (sym c.in-Some.ensures.value) (c.in_ok-marked.ensures.long ∙ ap (λ (xs : List Bool). max (length xs) (length c.args.row.now)) c.as_slice.ensures.value)
    written.0 compiles

pub returns-in_default-clause-rows : goal.returns-in_default-clause-rows
returns-in_default-clause-rows c = λ compiles whole. subst AreWhole (sym c.get_mut.follows.holds-at-none) whole
