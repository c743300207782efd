-- What is kept of a stream's envelopes for the lines of its sources and run hooks.
use Rattle.std.specs.Prelude.{List, map}
use Rattle.cm_envelope.specs.declared.envelope.Envelope.{Envelope}
use Rattle.cm_envelope.specs.declared.envelope.Source.{Source}
use Rattle.cm_envelope.specs.declared.envelope.TestRunHookFinished.{TestRunHookFinished}
use Rattle.cm_envelope.specs.declared.envelope.TestRunHookStarted.{TestRunHookStarted}
use Rattle.cm_stream.specs.References.{run_hook_ends, run_hooks, sources}
use Rattle.cm_stream.specs.Statuses.{kept_status}
use Rattle.cm_stream.specs.Texts.{Utf8}
use Rattle.cm_reasons.specs.declared.run_listing.RunHookEnd.{RunHookEnd}
use Rattle.cm_reasons.specs.declared.run_listing.RunHookEntry.{RunHookEntry}
use Rattle.cm_reasons.specs.declared.run_listing.RunListing.{RunListing}
use Rattle.cm_reasons.specs.declared.run_listing.SourceEntry.{SourceEntry}

abbrev pub source_entry : Source → SourceEntry
source_entry s = record { uri = s.uri; content = s.content }

abbrev pub run_hook_entry : TestRunHookStarted → RunHookEntry
run_hook_entry s = record { id = s.id; hook_id = s.hook_id }

abbrev pub run_hook_end : TestRunHookFinished → RunHookEnd
run_hook_end f = record { run_hook = f.test_run_hook_started_id; status = kept_status f.result.status }

-- of each source its uri and text, of each run hook its id and that of its hook, and of each end of one its status
abbrev pub run_listing_of : List Envelope → RunListing
run_listing_of es = record {
  sources = map source_entry (sources es);
  hooks = map run_hook_entry (run_hooks es);
  ends = map run_hook_end (run_hook_ends es);
}

-- ---- what is told of it

abbrev pub uri_and_text : Source → Utf8 × Utf8
uri_and_text s = (s.uri, s.content)
