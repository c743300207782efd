-- What is kept of a stream's envelopes for the lines of its cases.
use Rattle.std.specs.Prelude.{List, map}
use Rattle.std.specs.Borrow.{Bor}
use Rattle.std.specs.List.{filter_map}
use Rattle.cm_envelope.specs.declared.envelope.Envelope.{Envelope}
use Rattle.cm_envelope.specs.declared.envelope.GherkinDocument.{GherkinDocument}
use Rattle.cm_envelope.specs.declared.envelope.TestCase.{TestCase}
use Rattle.cm_envelope.specs.declared.pickle.Pickle.{Pickle}
use Rattle.cm_stream.specs.References.{as_document, cases, pickles, starts}
use Rattle.cm_stream.specs.Texts.{Utf8}
use Rattle.cm_cases.specs.Places.{last_node, places_of}
use Rattle.cm_cases.specs.declared.listing.CaseEntry.{CaseEntry}
use Rattle.cm_cases.specs.declared.listing.DocumentEntry.{DocumentEntry}
use Rattle.cm_cases.specs.declared.listing.Listing.{Listing}
use Rattle.cm_cases.specs.declared.listing.PickleEntry.{PickleEntry}

abbrev pub case_entry : TestCase → CaseEntry
case_entry c = record { id = c.id; pickle_id = c.pickle_id }

abbrev pub pickle_entry : Pickle → PickleEntry
pickle_entry p = record {
  id = p.id;
  uri = p.uri;
  name = p.name;
  node = last_node p;
  tags = map (λ t. t.name) p.tags;
}

abbrev pub document_entry : GherkinDocument → DocumentEntry
document_entry d = record { uri = d.uri; places = places_of d }

-- of each case, pickle and document what its lines name, and of each attempt its case
abbrev pub listing_of : List Envelope → Listing
listing_of es = record {
  cases = map case_entry (cases es);
  pickles = map pickle_entry (pickles es);
  documents = map document_entry (filter_map as_document es);
  starts = map (λ s. s.test_case_id) (starts es);
}

-- ---- what is told of a listing

abbrev pub id_and_uri : Pickle → Utf8 × Utf8
id_and_uri p = (p.id, p.uri)

-- the texts that two references are to
abbrev pub both_texts : Bor Utf8 × Bor Utf8 → Utf8 × Utf8
both_texts t = (t.0.now, t.1.now)
