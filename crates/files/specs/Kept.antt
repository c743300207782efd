-- The openings and the looks, as the code keeps them.
use Rattle.std.specs.Prelude.{List, None, map, option_map, string_bytes}
use Rattle.cm_envelope.specs.Reads.{input_with}
use Rattle.files.specs.Openings.{Opening}
use Rattle.files.specs.Looks.{PathLook}
use Rattle.files.specs.declared.files.Opened.{Opened}
use Rattle.files.specs.declared.files.LookedAt.{LookedAt}

abbrev pub opening_of : Opened → Opening
opening_of o = record { name = string_bytes o.name; input = option_map (input_with None) o.reads }

abbrev pub openings_of : List Opened → List Opening
openings_of opened = map opening_of opened

abbrev pub looked_of : LookedAt → PathLook
looked_of l = record { path = string_bytes l.path; look = l.look.value }

abbrev pub looks_of : List LookedAt → List PathLook
looks_of looked = map looked_of looked
