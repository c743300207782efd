use Rattle.std.proofs.Common.{◌∙◌, ap, sym, ◌++◌, Bor, List, ℕ, map, string_bytes}
use Rattle.cm_cases.proofs.ListingLemmas.{on_ok}
use Rattle.cm_stream.proofs.Lists.{map_twice}
use Rattle.cm_reasons.specs.Lines.{limited_text}
use Rattle.cm_reasons.specs.RunKept.{entry_line}
use Rattle.cm_reasons.specs.declared.run_listing.RunHookEntry.{RunHookEntry}
use Rattle.cm_reasons.specs.declared.trail.Trail.{Trail}
use Rattle.cm_reasons.proofs.RunHookLemmas.{open_lines}
use Rattle.cm_reasons.proofs.run_hooks.add_open_hooks.Goals as goal

pub returns : goal.returns
returns c =
    let old = string_bytes c.args.text.now in
    on_ok c.add_limited.result c.add_limited.ensures
    (λ added es is.
    added es tt
    ∙ ap (λ (hs : List (Bor RunHookEntry)). old ++ limited_text (map (λ h. entry_line h.now) hs)) c.as_slice.ensures.value
    ∙ ap (λ (ls : List (List ℕ)). old ++ limited_text ls)
    (sym (map_twice entry_line (λ (h : Bor RunHookEntry). h.now) c.in_ok-unfinished.unfinished.items) ∙ ap (map entry_line) c.in_ok-unfinished.ensures
    ∙ open_lines c.args.trail.now.run es (ap (λ (t : Trail). t.run) is)))
