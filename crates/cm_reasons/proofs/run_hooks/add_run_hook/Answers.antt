use Rattle.std.proofs.Common.{◌∙◌, ap, sym, append-nil, ◌++◌, Bor, List, ℕ, string_bytes}
use Rattle.std.specs.Prelude.{find, option_map}
use Rattle.std.specs.Str.{bytes_eq}
use Rattle.cm_cases.proofs.ListingLemmas.{on_ok}
use Rattle.cm_reasons.specs.Lines.{text_of_lines}
use Rattle.cm_reasons.specs.RunKept.{entry_line}
use Rattle.cm_reasons.specs.declared.run_listing.RunHookEntry.{RunHookEntry}
use Rattle.cm_reasons.specs.declared.trail.Trail.{Trail}
use Rattle.cm_reasons.proofs.LineLemmas.{on_push, one_ended}
use Rattle.cm_reasons.proofs.RunHookLemmas.{first_line, no_first_line}
use Rattle.cm_reasons.proofs.run_hooks.add_run_hook.Goals as goal

pub returns-in_default : goal.returns-in_default
returns-in_default c es is =
    let found = c.find_hook.ensures ∙ ap (λ (xs : List RunHookEntry). find (λ h. bytes_eq c.args.run_hook.now h.id) xs) c.as_slice.ensures in
    let none = ap (option_map (λ (h : Bor RunHookEntry). h.now)) c.in_default.is in
    sym (append-nil (string_bytes c.args.text.now))
    ∙ ap (λ (ls : List (List ℕ)). string_bytes c.args.text.now ++ text_of_lines ls) (no_first_line c.args.trail.now.run es c.args.run_hook.now _ (ap (λ (t : Trail). t.run) is) found none)

pub returns : goal.returns
returns c =
    let found = c.find_hook.ensures ∙ ap (λ (xs : List RunHookEntry). find (λ h. bytes_eq c.args.run_hook.now h.id) xs) c.as_slice.ensures in
    let some = ap (option_map (λ (h : Bor RunHookEntry). h.now)) c.in-Some.is in
    on_ok c.push_str.result (on_push c.push_str.result _ _ _ c.push_str.ensures.bytes)
    (λ added es is.
    one_ended (string_bytes c.args.text.now) (string_bytes c.add_hook.new.text) (string_bytes c.push_str.new.self) (entry_line c.in-Some.hook.now) c.in_ok-add_hook.ensures added
    ∙ ap (λ (ls : List (List ℕ)). string_bytes c.args.text.now ++ text_of_lines ls) (first_line c.args.trail.now.run es c.args.run_hook.now _ (ap (λ (t : Trail). t.run) is) found c.in-Some.hook.now some))
