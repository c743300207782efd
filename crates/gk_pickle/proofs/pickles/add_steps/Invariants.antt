use Rattle.std.proofs.Common.{◌≡◌, List, ◌++◌, take, drop}
use Rattle.gk_document.specs.declared.tree.KeywordType.{KeywordType}
use Rattle.gk_pickle.specs.Steps.{type_of, keyword_types, steps_after}
use Rattle.gk_pickle.proofs.pickles.add_steps.Given as goal

abbrev pub invariant-loop-step : goal.invariant-loop-step
invariant-loop-step l = record {
  last : (earlier : List KeywordType) → l.fn.before ≡ type_of earlier → l.last ≡ type_of (earlier ++ keyword_types (take l.step-index l.steps));
  made : (earlier : List KeywordType) → l.fn.before ≡ type_of earlier
      → l.made.items ++ steps_after (earlier ++ keyword_types (take l.step-index l.steps)) l.filling (drop l.step-index l.steps)
      ≡ l.initial.made.items ++ steps_after earlier l.filling l.steps;
}
