use Rattle.std.proofs.Common.{◌≡◌, ◌∙◌, ap, sym, Bor, List, ℕ, Some}
use Rattle.std.specs.Prelude.{option_map}
use Rattle.std.specs.Str.{bytes_eq}
use Rattle.cm_attempt.specs.Calls.{last_of}
use Rattle.cm_steps.specs.declared.listing.StartEntry.{StartEntry}
use Rattle.cm_steps.proofs.AttemptLemmas.{kept_none, last_kept}
use Rattle.cm_steps.proofs.listing.last_of.Goals as goal
use Rattle.cm_steps.proofs.listing.last_of.Goals.{then-eq, else-eq}

pub loop-start-preserved : goal.loop-start-preserved
loop-start-preserved c =
    let of_case = λ (s : StartEntry). bytes_eq c.args.case.now s.case_id in
    let start = c.start-item.result in
    let asked : of_case start ≡ c.eq.result = ap (bytes_eq c.args.case.now) (sym c.as_str.ensures) ∙ sym c.eq.ensures in
    elim c.if-eq.branch [
      | then-eq w ↦
          let kept = last_kept of_case c.args.starts.now c.loop-start.start-index start c.loop-start-test.true c.start-item.is (asked ∙ w.if-eq.true) in
          ap (option_map (λ (t : Bor (List ℕ)). t.now)) w.last-is ∙ ap Some w.as_str-then-eq.ensures ∙ sym (ap (option_map (λ (s : StartEntry). s.id)) kept)
      | else-eq w ↦
          let same = kept_none of_case c.args.starts.now c.loop-start.start-index start c.loop-start-test.true c.start-item.is (asked ∙ w.if-eq.false) in
          ap (option_map (λ (t : Bor (List ℕ)). t.now)) w.last-is ∙ c.loop-start.invariant ∙ sym (ap (λ (ss : List StartEntry). option_map (λ (s : StartEntry). s.id) (last_of ss)) same)
    ]
