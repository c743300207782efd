use Rattle.std.proofs.Common.{◌+◌, take, drop, refl, sym, ◌∙◌, arith}
use Rattle.gk_plain.specs.Plain.{Is}
use Rattle.gk_plain.proofs.PlainAnswers.{either_begins, either_ends, maybe_ends, many_begins, rows_begin, cut_here, Choice, by_both, by_many, choice_first, choice_second, choice_cuts, not_empty, empty_so, none_more, either_falls, front_kinds, back_kinds, front_long, no_part}
use Rattle.gk_plain.proofs.PlainKinds.{lines_are}
use Rattle.gk_plain.proofs.plain.+belongs.Goals as goal
use Rattle.gk_plain.proofs.plain.+belongs.Goals.{in-Both, in-Many+else-is_empty-2, else-belongs-2-via-then-belongs-2+else-belongs-3, else-belongs-2-via-else-belongs-2}

pub belongs-requires-else-belongs : goal.belongs-requires-else-belongs
belongs-requires-else-belongs t c = (let f = either_falls c.args.part c.in-Either.one c.in-Either.other (sym c.rule_of.ensures ∙ c.in-Either.is) in omega (arith, c.decreases), tt)

pub returns-in-Lines : goal.returns-in-Lines
returns-in-Lines t c ls m = lines_are c.args.part (sym c.rule_of.ensures ∙ c.in-Lines.is) ls c.args.lines.now m c.are_lines.result c.are_lines.ensures

pub returns-then-belongs : goal.returns-then-belongs
returns-then-belongs t c ls m = either_begins c.args.part c.in-Either.one c.in-Either.other (sym c.rule_of.ensures ∙ c.in-Either.is) c.belongs.result ls (c.belongs.ensures ls m) c.if-belongs.true

pub returns-else-belongs : goal.returns-else-belongs
returns-else-belongs t c ls m = either_ends c.args.part c.in-Either.one c.in-Either.other (sym c.rule_of.ensures ∙ c.in-Either.is) c.belongs.result c.belongs-else-belongs.result ls (c.belongs.ensures ls m) (c.belongs-else-belongs.ensures ls m) c.if-belongs.false

pub returns-else-is_empty : goal.returns-else-is_empty
returns-else-is_empty t c ls m = maybe_ends c.args.part c.in-Maybe.one (sym c.rule_of.ensures ∙ c.in-Maybe.is) c.belongs-else-is_empty.result ls c.args.lines.now m (not_empty c.args.lines.now (sym c.if-is_empty.false ∙ c.is_empty.ensures)) (c.belongs-else-is_empty.ensures ls m)

pub returns-then-is_empty-2 : goal.returns-then-is_empty-2
returns-then-is_empty-2 t c ls m = (λ i. many_begins c.args.part c.in-Many.one (sym c.rule_of.ensures ∙ c.in-Many.is) ls (m ∙ empty_so c.args.lines.now (sym c.if-is_empty-2.true ∙ c.is_empty-in-Many.ensures)), λ i. refl)

pub returns-in-Some : goal.returns-in-Some
returns-in-Some t c ls m = rows_begin c.args.part (sym c.rule_of.ensures ∙ c.in-EqualRows.is) c.in-Some.count c.belongs-in-Some.result ls c.args.lines.now m (sym c.row_count.ensures ∙ c.in-Some.is) (c.belongs-in-Some.ensures ls m)

pub loop-cut-init : goal.loop-cut-init
loop-cut-init t c =
    let choice : Choice c.args.part c.args.lines.now c.match-rule_of.first = elim c.match-rule_of.branch [
      | in-Both w ↦ by_both w.in-Both.first w.in-Both.second (sym c.rule_of.ensures ∙ w.in-Both.is) w.first-is
      | in-Many+else-is_empty-2 w ↦ by_many w.in-Many.one (sym c.rule_of.ensures ∙ w.in-Many.is) (not_empty c.args.lines.now (sym w.if-is_empty-2.false ∙ w.is_empty-in-Many.ensures)) w.first-is
    ] in
    record {
      least = omega arith;
      first = choice_first c.args.part c.args.lines.now c.match-rule_of.first choice;
      second = choice_second c.args.part c.args.lines.now c.match-rule_of.first choice;
      cuts = choice_cuts c.args.part c.args.lines.now c.match-rule_of.first choice;
      none_yet = λ ls m k h i p q. omega arith;
    }

pub returns-then-belongs-3 : goal.returns-then-belongs-3
returns-then-belongs-3 t c ls m = (
  λ i. (c.loop-cut.invariant.cuts ls m).1 (cut_here c.match-rule_of.first.2 (Is c.match-rule_of.first.0) (Is c.match-rule_of.first.1) ls c.loop-cut.cut
      (front_long ls c.args.lines.now c.loop-cut.cut c.match-rule_of.first.2 m (omega arith) c.loop-cut.invariant.least)
      ((c.belongs-in-loop-cut.ensures (take c.loop-cut.cut ls) (front_kinds ls c.args.lines.now c.split_at.result.0.now c.loop-cut.cut m c.split_at.ensures.front)).0 c.if-belongs-2.true)
      ((c.belongs-then-belongs-2.ensures (drop c.loop-cut.cut ls) (back_kinds ls c.args.lines.now c.split_at.result.1.now c.loop-cut.cut m c.split_at.ensures.back)).0 c.if-belongs-3.true)),
  λ i. refl,
)

pub loop-cut-preserved : goal.loop-cut-preserved
loop-cut-preserved t c = record {
  least = omega (arith, c.loop-cut.invariant.least);
  first = c.loop-cut.invariant.first;
  second = c.loop-cut.invariant.second;
  cuts = c.loop-cut.invariant.cuts;
  none_yet = λ ls m. none_more c.match-rule_of.first.0 c.match-rule_of.first.1 ls c.args.lines.now c.match-rule_of.first.2 c.loop-cut.cut m (c.loop-cut.invariant.none_yet ls m)
      (λ p q. elim c.else-belongs-2.branch [
        | else-belongs-2-via-then-belongs-2+else-belongs-3 w ↦ (let e = (w.belongs-then-belongs-2.ensures (drop c.loop-cut.cut ls) (back_kinds ls c.args.lines.now c.split_at.result.1.now c.loop-cut.cut m c.split_at.ensures.back)).1 q in let f = w.if-belongs-3.false in cc)
        | else-belongs-2-via-else-belongs-2 w ↦ (let e = (c.belongs-in-loop-cut.ensures (take c.loop-cut.cut ls) (front_kinds ls c.args.lines.now c.split_at.result.0.now c.loop-cut.cut m c.split_at.ensures.front)).1 p in let f = w.if-belongs-2.false in cc)
      ]);
}

pub returns-else-belongs-2 : goal.returns-else-belongs-2
returns-else-belongs-2 t c ls m = (
  λ i. absurd cc,
  λ i. absurd (
      no_part c.match-rule_of.first.2 c.match-rule_of.first.0 c.match-rule_of.first.1 c.args.part ls c.args.lines.now (c.loop-cut.cut + 1) m (c.loop-cut.invariant.cuts ls m) (omega arith)
      (none_more c.match-rule_of.first.0 c.match-rule_of.first.1 ls c.args.lines.now c.match-rule_of.first.2 c.loop-cut.cut m (c.loop-cut.invariant.none_yet ls m)
      (λ p q. elim c.else-belongs-2.branch [
        | else-belongs-2-via-then-belongs-2+else-belongs-3 w ↦ (let e = (w.belongs-then-belongs-2.ensures (drop c.loop-cut.cut ls) (back_kinds ls c.args.lines.now c.split_at.result.1.now c.loop-cut.cut m c.split_at.ensures.back)).1 q in let f = w.if-belongs-3.false in cc)
        | else-belongs-2-via-else-belongs-2 w ↦ (let e = (c.belongs-in-loop-cut.ensures (take c.loop-cut.cut ls) (front_kinds ls c.args.lines.now c.split_at.result.0.now c.loop-cut.cut m c.split_at.ensures.front)).1 p in let f = w.if-belongs-2.false in cc)
      ])) i),
)
