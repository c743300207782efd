use Rattle.std.proofs.Common.{refl, ◌∙◌, ◌++◌, [], rules}
use Rattle.std.proofs.lemmas.Bool.{iff_false}
use Rattle.gk_pickle.specs.Steps.{keyword_types}
use Rattle.gk_pickle.proofs.After.{all_made, type_after_two}
use Rattle.gk_pickle.proofs.pickles.all_steps.Goals as goal

pub returns : goal.returns
returns c =
    let a = c.args.feature_steps.now in
    let b = c.args.rule_steps.now in
    let first = c.in_ok-last.ensures.last [] refl in
    let second = type_after_two a b _ (c.in_ok-last-2.ensures.last (keyword_types a) first) in
    c.from.ensures
    ∙ all_made a b _ _ _ _ _ _ (λ none. search (rules, iff_false)) c.none-nothing.ensures
    (rw c.new-made.ensures.items at (c.in_ok-last.ensures.made [] refl)) (c.in_ok-last-2.ensures.made (keyword_types a) first)
    (c.in_ok-add_steps.ensures.made (keyword_types (a ++ b)) second)
