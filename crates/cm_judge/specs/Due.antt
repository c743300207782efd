-- The pickles of a source that are due.
use Rattle.std.specs.Prelude.{List, [], Option, Some, None}
use Rattle.gk_document.specs.declared.tree.Document.{Document}
use Rattle.gk_pickle.specs.declared.pickles.Pickle.{Pickle}
use Rattle.gk_pickle.specs.declared.next_pickles.PicklePlace.{PicklePlace}
use Rattle.gk_pickle.specs.Rest.{rest_of}

-- those of a document from a place on; where none is kept there are no more
abbrev pub left_of : Option Document → PicklePlace → List Pickle
left_of None p = []
left_of (Some d) p = rest_of d p
