use Rattle.std.proofs.Common.{◌∙◌, ap, not, refl, sym, List, take_all}
use Rattle.std.specs.List.{filter, list_any}
use Rattle.std.specs.Str.{bytes_eq}
use Rattle.cm_cases.proofs.FirstLemmas.{has_any}
use Rattle.cm_reasons.specs.RunKept.{is_finished_in}
use Rattle.cm_reasons.specs.declared.run_listing.RunHookEntry.{RunHookEntry}
use Rattle.cm_reasons.proofs.RunHookLemmas.{kept_none, kept_one}
use Rattle.cm_reasons.proofs.run_hooks.open_hooks.Goals as goal
use Rattle.cm_reasons.proofs.run_hooks.open_hooks.Goals.{then-not-contains_key+in_ok-push, else-not-contains_key}

pub loop-hook-preserved : goal.loop-hook-preserved
loop-hook-preserved c =
    let hooks = c.as_slice-hook-items.result.now in
    let item = c.hook-item.result in
    let here =
    c.contains_key.ensures ∙ has_any (λ x. x.now) (λ x. x) (λ e. e.run_hook) c.as_slice.result.now c.in_ok-finished.finished c.as_str.result.now c.in_ok-finished.ensures
    ∙ (λ j. list_any (λ e. bytes_eq (c.as_str.ensures j) e.run_hook) (c.as_slice.ensures j)) in
    elim c.if-not-contains_key.branch [
      | then-not-contains_key+in_ok-push w ↦ rw w.unfinished-is
          (kept_one (λ h. h.now) (λ h. not (is_finished_in c.args.run.now h)) hooks c.loop-hook.hook-index item c.loop-hook.unfinished.items c.loop-hook-test.true c.hook-item.is c.loop-hook.invariant
          w.push.new.self.items _ w.in_ok-push.ensures.items refl (ap not (sym here ∙ w.if-not-contains_key.true)))
      | else-not-contains_key w ↦ rw w.unfinished-is
          (kept_none (λ h. h.now) (λ h. not (is_finished_in c.args.run.now h)) hooks c.loop-hook.hook-index item c.loop-hook.unfinished.items c.loop-hook-test.true c.hook-item.is c.loop-hook.invariant
          (ap not (sym here ∙ w.if-not-contains_key.false)))
    ]

pub returns : goal.returns
returns c =
    c.loop-hook.invariant
    ∙ ap (λ (hs : List RunHookEntry). filter (λ h. not (is_finished_in c.args.run.now h)) hs)
    (take_all c.loop-hook.hook-index c.as_slice-hook-items.result.now c.loop-hook-test.false ∙ c.as_slice-hook-items.ensures)
