use Rattle.gk_laws.proofs.Units as units
use Rattle.gk_laws.proofs.laws.units_write_rows.Goals as goal

pub returns : goal.returns
returns c = units.units_write_texts
