use Rattle.std.proofs.Common.{◌≡◌, ◌∙◌, ◌-◌, ◌+◌, ◌++◌, ap, sym, suc, ℕ, [], arith, append-nil, map, string_bytes, take}
use Rattle.gk_pickle.specs.Rest.{title_of}
use Rattle.cm_reasons.specs.Lines.{text_of_lines}
use Rattle.cm_source_reasons.specs.DueLines.{missing_line}
use Rattle.cm_source_reasons.proofs.MissingLemmas.{none_left, one_line, one_passed}
use Rattle.cm_source_reasons.proofs.source_reasons.add_first.Goals as goal

pub returns-in-None-clause-lines : goal.returns-in-None-clause-lines
returns-in-None-clause-lines c es is =
    let lines = c.args.lines.now in
    none_left (missing_line es lines.uri.now lines.ids.now) (map title_of c.loop-shown.due) (map title_of c.next_title.new.self)
    c.in_ok-title.field-0 c.in_ok-title.ensures c.in-None.is (100 - c.loop-shown._shown) _ _ (c.loop-shown.invariant.lines es is)

pub loop-shown-preserved : goal.loop-shown-preserved
loop-shown-preserved c =
    let lines = c.args.lines.now in
    let i = c.loop-shown._shown in
    let more : 100 - i ≡ suc (100 - (i + 1)) = omega (arith, c.loop-shown-test.true) in
    record {
      left = one_passed (missing_line [] lines.uri.now lines.ids.now) (map title_of c.loop-shown.due) (map title_of c.next_title.new.self)
          c.in-Some.title c.in_ok-title.field-0 c.in_ok-title.ensures c.in-Some.is _ _ more _ c.loop-shown.invariant.left;
      lines = λ es is.
          one_line (missing_line es lines.uri.now lines.ids.now) (map title_of c.loop-shown.due) (map title_of c.next_title.new.self)
          c.in-Some.title c.in_ok-title.field-0 c.in_ok-title.ensures c.in-Some.is _ _ more _ _ _ (c.in_ok-add_missing-in-Some.ensures es is) (c.loop-shown.invariant.lines es is);
    }

pub returns-clause-lines : goal.returns-clause-lines
returns-clause-lines c es is =
    let lines = c.args.lines.now in
    let old = string_bytes c.loop-shown.text in
    let due = map (missing_line es lines.uri.now lines.ids.now) (map title_of c.loop-shown.due) in
    let none : 100 - c.loop-shown._shown ≡ 0 = omega (arith, c.loop-shown-test.false) in
    sym (ap (λ (k : ℕ). old ++ text_of_lines (take k due)) none ∙ append-nil old) ∙ c.loop-shown.invariant.lines es is
