use Rattle.std.proofs.Common.{◌∙◌, ap, sym, ◌++◌, append-nil, [], string_bytes, ℕ}
use Rattle.cm_cases.proofs.ListingLemmas.{on_ok}
use Rattle.cm_judge.specs.Kept.{kept_row}
use Rattle.cm_reasons.specs.Lines.{more_text}
use Rattle.cm_source_reasons.proofs.MissingLemmas.{all_told}
use Rattle.cm_source_reasons.proofs.source_reasons.add_pickles.Goals as goal

pub returns-in-0 : goal.returns-in-0
returns-in-0 c es is =
    let row = kept_row [] c.args.source.now in
    let mid = string_bytes c.add_first.new.text in
    all_told es c.args.uri.now c.ids.result.now row.ids c.due-due.result row.due c.add_first.new.due c.in_ok-more.more (string_bytes c.args.text.now) mid mid
    c.ids.ensures c.due-due.ensures (c.in_ok-add_first.ensures.lines es is) c.in_ok-add_first.ensures.left c.in_ok-more.ensures
    (sym (append-nil mid) ∙ ap (λ (n : ℕ). mid ++ more_text n) (sym c.in-0.is))

pub returns-in_default : goal.returns-in_default
returns-in_default c =
    let row = kept_row [] c.args.source.now in
    on_ok c.add_more.result c.add_more.ensures
    (λ added es is.
    all_told es c.args.uri.now c.ids.result.now row.ids c.due-due.result row.due c.add_first.new.due c.in_ok-more.more (string_bytes c.args.text.now)
    (string_bytes c.add_first.new.text) (string_bytes c.add_more.new.text)
    c.ids.ensures c.due-due.ensures (c.in_ok-add_first.ensures.lines es is) c.in_ok-add_first.ensures.left c.in_ok-more.ensures added)
