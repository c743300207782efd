use Rattle.std.proofs.Common.{◌∙◌, ap, sym, List, take_all}
use Rattle.std.specs.Prelude.{option_map}
use Rattle.cm_reasons.specs.RunKept.{bad_end_in, bad_entry_lines, bad_line}
use Rattle.cm_reasons.specs.RunReasons.{bad_hook_line}
use Rattle.cm_reasons.specs.declared.run_listing.RunHookEntry.{RunHookEntry}
use Rattle.cm_reasons.proofs.RunHookLemmas.{found_none, found_one}
use Rattle.cm_reasons.proofs.run_hooks.bad_hooks.Goals as goal
use Rattle.cm_reasons.proofs.run_hooks.bad_hooks.Goals.{in-Some+in_ok-push, in_default}

pub loop-hook-preserved : goal.loop-hook-preserved
loop-hook-preserved c =
    let hooks = c.as_slice-hook-items.result.now in
    let item = c.hook-item.result in
    let here = c.in_ok-ends.ensures c.as_str.result.now ∙ (λ j. bad_end_in c.args.policy (c.as_slice.ensures j) (c.as_str.ensures j)) in
    elim c.match-get.branch [
      | in-Some+in_ok-push w ↦ rw w.bad-is
          (found_one bad_line (λ h. option_map (bad_hook_line h.hook_id) (bad_end_in c.args.policy c.args.run.now.ends h.id)) hooks c.loop-hook.hook-index item c.loop-hook.bad.items c.loop-hook-test.true c.hook-item.is
          c.loop-hook.invariant w.push.new.self.items _ w.in_ok-push.ensures.items (ap (option_map (bad_hook_line item.hook_id)) (sym (w.in-Some.ensures.value ∙ here))))
      | in_default w ↦ rw w.bad-is
          (found_none bad_line (λ h. option_map (bad_hook_line h.hook_id) (bad_end_in c.args.policy c.args.run.now.ends h.id)) hooks c.loop-hook.hook-index item c.loop-hook.bad.items c.loop-hook-test.true c.hook-item.is
          c.loop-hook.invariant (ap (option_map (bad_hook_line item.hook_id)) (sym (w.in_default.ensures.value ∙ here))))
    ]

pub returns : goal.returns
returns c =
    c.loop-hook.invariant
    ∙ ap (λ (hs : List RunHookEntry). bad_entry_lines c.args.policy c.args.run.now.ends hs)
    (take_all c.loop-hook.hook-index c.as_slice-hook-items.result.now c.loop-hook-test.false ∙ c.as_slice-hook-items.ensures)
