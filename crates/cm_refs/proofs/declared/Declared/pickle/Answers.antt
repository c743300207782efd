use Rattle.std.proofs.Common.{◌≡◌, ap, Bor, Option, Some, None}
use Rattle.std.specs.Prelude.{option_map}
use Rattle.cm_refs.specs.Declarations.{PickleRow, Utf8}
use Rattle.cm_refs.specs.Rows.{pickle_row}
use Rattle.cm_refs.specs.StepIds.{ids_in}
use Rattle.cm_refs.specs.declared.declared.StepIds.{StepIds}
use Rattle.cm_refs.proofs.declared.Declared.pickle.Goals as goal

steps_found : (id : Utf8) (o : Option (Bor StepIds)) (row : Option PickleRow) → option_map (λ (s : Bor StepIds). pickle_row id s.now) o ≡ row
    → option_map (λ (s : Bor StepIds). ids_in s.now) o ≡ option_map (λ (p : PickleRow). p.steps) row
steps_found id None row e = ap (option_map (λ (p : PickleRow). p.steps)) e
steps_found id (Some s) row e = ap (option_map (λ (p : PickleRow). p.steps)) e

pub returns : goal.returns
returns c = rw (← c.self.view_is) (steps_found c.args.id.now c.steps_of.result _ c.steps_of.ensures)
