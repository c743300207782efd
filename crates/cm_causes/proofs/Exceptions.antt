-- A run that ends once has the exception of this end.
use Rattle.std.proofs.Common.{◌≡◌, ◌∙◌, refl, ap, Bool, ◌||◌, List, [], ◌∷◌}
use Rattle.std.specs.List.{list_any}
use Rattle.cm_envelope.specs.declared.envelope.Envelope.{Envelope}
use Rattle.cm_envelope.specs.declared.envelope.Envelope.TheVariants as envelope
use Rattle.cm_envelope.specs.declared.envelope.TestRunFinished.{TestRunFinished}
use Rattle.cm_stream.specs.References.{run_ends}
use Rattle.cm_stream.proofs.Lists.{or_no}
use Rattle.cm_reasons.specs.Trail.{has_exception}
use Rattle.cm_causes.specs.Laws.{TheEndHasTheException}

-- some end of the run has it
of_ends : (es : List Envelope) → has_exception es ≡ list_any (λ (f : TestRunFinished). f.has_exception) (run_ends es)
of_ends [] = refl
of_ends (envelope.TestRunFinished f ∷ es) = ap (λ (b : Bool). f.has_exception || b) (of_ends es)
of_ends (_ ∷ es) = of_ends es

pub of_the_end : TheEndHasTheException
of_the_end es f one = of_ends es ∙ ap (list_any (λ (x : TestRunFinished). x.has_exception)) one ∙ or_no f.has_exception
