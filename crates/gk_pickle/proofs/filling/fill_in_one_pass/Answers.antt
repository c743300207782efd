use Rattle.std.proofs.Common.{arith, rules, ◌∙◌, [], ◌∷◌, ap, reverse, sym}
use Rattle.gk_pickle.proofs.Reading.{one_reading_fills}
use Rattle.gk_pickle.proofs.Parts.{popped_within, popped_work}
use Rattle.std.proofs.lemmas.List.{reverse-append}
use Rattle.gk_pickle.specs.SinglePass.{read_parts}
use Rattle.gk_pickle.proofs.filling.fill_in_one_pass.Goals as goal

pub read_part-requires : goal.read_part-requires
read_part-requires c = popped_within c.args.row.now _ _ c.in-Some.part c.in-Some.ensures.items c.loop-part.invariant.within

pub loop-part-smaller : goal.loop-part-smaller
loop-part-smaller c = omega (arith, c.in_ok-read_part.ensures.less, popped_work c.args.row.now _ _ c.in-Some.part c.in-Some.ensures.items)

pub returns : goal.returns
returns c = rw (← one_reading_fills c.args.text.now c.args.columns.now c.args.row.now c.requires) search rules

pub loop-part-preserved : goal.loop-part-preserved
loop-part-preserved c = record {
  within = c.in_ok-read_part.ensures.within;
  same =
      c.in_ok-read_part.ensures.read
      ∙ ap (λ parts. read_parts c.args.columns.now c.args.row.now parts c.loop-part.reading) (sym (ap reverse c.in-Some.ensures.items ∙ reverse-append c.pop.new.self.items (c.in-Some.part ∷ [])))
      ∙ c.loop-part.invariant.same;
}
