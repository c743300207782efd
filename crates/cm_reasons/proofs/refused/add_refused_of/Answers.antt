use Rattle.std.proofs.Common.{◌∙◌, ap, sym, append-nil, ◌++◌, ◌∷◌, [], Bor, List, string_bytes}
use Rattle.std.specs.Prelude.{find, option_map}
use Rattle.std.specs.Str.{bytes_eq}
use Rattle.cm_cases.proofs.ListingLemmas.{on_ok}
use Rattle.cm_stream.specs.References.{sources}
use Rattle.cm_stream.specs.Texts.{Utf8}
use Rattle.cm_reasons.specs.RunKept.{fault_line}
use Rattle.cm_reasons.specs.declared.run_listing.SourceEntry.{SourceEntry}
use Rattle.cm_reasons.specs.declared.trail.Trail.{Trail}
use Rattle.cm_reasons.proofs.LineLemmas.{on_push, one_ended}
use Rattle.cm_reasons.proofs.Refusals.{first_good, first_missing, first_refused}
use Rattle.cm_reasons.proofs.refused.add_refused_of.Goals as goal

pub returns-in_default : goal.returns-in_default
returns-in_default c es is =
    let kept = c.as_slice.ensures ∙ ap (λ (t : Trail). t.run.sources) is in
    let found = c.find_source.ensures ∙ ap (λ (xs : List SourceEntry). find (λ s. bytes_eq c.args.uri.now s.uri) xs) kept in
    ([], first_missing c.args.uri.now (sources es) _ found (ap (option_map (λ (s : Bor SourceEntry). s.now)) c.in_default.is), sym (append-nil (string_bytes c.args.text.now)))

pub returns-in_default-2 : goal.returns-in_default-2
returns-in_default-2 c es is =
    let kept = c.as_slice.ensures ∙ ap (λ (t : Trail). t.run.sources) is in
    let found = c.find_source.ensures ∙ ap (λ (xs : List SourceEntry). find (λ s. bytes_eq c.args.uri.now s.uri) xs) kept in
    let some = ap (option_map (λ (s : Bor SourceEntry). s.now)) c.in-Some.is in (
      [],
      first_good c.args.uri.now (sources es) _ found c.in-Some.source.now some c.as_str.result.now c.in_ok-fault.field-0 c.as_str.ensures c.in_ok-fault.ensures c.in_default-2.is,
      sym (append-nil (string_bytes c.args.text.now)),
    )

pub returns : goal.returns
returns c =
    let fault = c.in-Some-2.fault in
    let line = fault_line c.in-Some.source.now.uri fault in
    let some = ap (option_map (λ (s : Bor SourceEntry). s.now)) c.in-Some.is in
    let told = c.in_ok-add_fault.ensures ∙ ap (λ (u : Utf8). string_bytes c.args.text.now ++ fault_line u fault) c.as_str-2.ensures in
    on_ok c.push_str.result (on_push c.push_str.result _ _ _ c.push_str.ensures.bytes)
    (λ added es is.
    let kept = c.as_slice.ensures ∙ ap (λ (t : Trail). t.run.sources) is in
    let found = c.find_source.ensures ∙ ap (λ (xs : List SourceEntry). find (λ s. bytes_eq c.args.uri.now s.uri) xs) kept in (
      line ∷ [],
      first_refused c.args.uri.now (sources es) _ found c.in-Some.source.now some c.as_str.result.now c.in_ok-fault.field-0 c.as_str.ensures c.in_ok-fault.ensures fault c.in-Some-2.is,
      one_ended (string_bytes c.args.text.now) (string_bytes c.add_fault.new.text) (string_bytes c.push_str.new.self) line told added,
    ))
