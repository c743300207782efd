-- In what a stream differs from what its sources' texts compile to.
use Rattle.std.specs.Prelude.{◌≡◌, List, Option, Some, option_map}
use Rattle.gk_document.specs.declared.tree.Document.{Document}
use Rattle.gk_parts.specs.FirstDifference.{IsFirstDifference}
use Rattle.gk_parts.specs.Parts.{Part, parts_alone}
use Rattle.cm_envelope.specs.declared.pickle.Pickle.{Pickle}
use Rattle.cm_stream.specs.Sources.{DuePickle}
use Rattle.cm_stream.specs.Texts.{Utf8}
use Rattle.cm_differs.specs.declared.difference.Difference.{Difference}
use Rattle.cm_differs.specs.DuePickles.{due_pickle}
use Rattle.cm_differs.specs.PartData.{part_text}
use Rattle.cm_differs.specs.PickleData.{pickle_text}

-- The first part in which two documents differ, each part alone: what is due there, and what is found.
pub record IsTreeDifference (uri : Utf8) (due found : Document) (d : Difference) : Type 0 where
  pub due_part : Option Part
  pub found_part : Option Part
  pub first : IsFirstDifference (parts_alone due) (parts_alone found) due_part found_part
  pub uri_is : d.uri ≡ uri
  pub expected_is : d.expected ≡ option_map part_text due_part
  pub found_is : d.found ≡ option_map part_text found_part

-- The pickle of the stream, and the one that is due at its place, where the nodes have these ids.
abbrev pub pickle_difference : (ids : List Utf8) → Option DuePickle → Pickle → Difference
pickle_difference ids due found = record {
  uri = found.uri;
  expected = option_map (λ d. pickle_text (due_pickle found.uri ids found.steps d)) due;
  found = Some (pickle_text found);
}
