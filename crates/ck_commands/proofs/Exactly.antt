-- A gate reports the status 0 exactly of a released stream.
use Rattle.std.proofs.Common.{◌≡◌, ◌∙◌, ◌⊎◌, ◌<◌, ◌++◌, arith, ℕ, List, Option, Some, None, inl, inr, refl, subst, sym, ap, ap₂}
use Rattle.std.proofs.lemmas.Bool.{cases_order}
use Rattle.std.proofs.lemmas.List.{append_cancel_left}
use Rattle.cm_envelope.specs.Device.{OfInput, Output}
use Rattle.cm_envelope.specs.declared.feed.Trouble.{Trouble as SomeTrouble}
use Rattle.cm_envelope.specs.declared.feed.Trouble.TheVariants.{Memory, ReadFailed}
use Rattle.cm_attempt.specs.declared.status.Settings.{Settings}
use Rattle.cm_stream.specs.Findings.{IsBad, IsUnsupported}
use Rattle.cm_stream.specs.References.{run_succeeded}
use Rattle.cm_stream.specs.Release.{Conditions, IsReleasedStream, hold_of, release_counts_of}
use Rattle.cm_stream.specs.Stream.{At, FirstFault, IsFirstFault, NoFault, Troubled, counts_of}
use Rattle.cm_stream.specs.declared.laws.ReleaseCounts.{ReleaseCounts}
use Rattle.cm_stream.specs.declared.laws.Counts.{Counts}
use Rattle.cm_stream.specs.declared.laws.Hold.{Hold}
use Rattle.cm_stream.proofs.Released.{first_fault_releases}
use Rattle.ck_commands.specs.Gate.{IsGateReport, held_status, hold_in}
use Rattle.ck_command_line.specs.CommandLine.{ask_gate}
use Rattle.ck_commands.specs.Laws.{GateReleasesExactly, ReleasedEndsWell}
use Rattle.ck_commands.specs.Output.{Breaks, Delivers, DeliversOne, Prints, Report, code_of, trouble_report}
use Rattle.ck_commands.specs.Run.{Reports, TellsFailedRead}
use Rattle.ck_commands.specs.declared.report.ExitStatus.TheVariants.{Done, Refused, Trouble, Unsupported}

not_held : (h : Option Hold) → held_status h ≡ Done → h ≡ None
not_held None e = refl
not_held (Some h) e = cc

module _ (settings : Settings) (asked : Conditions) (bytes : List ℕ) where
  if_done : (first : FirstFault) (r : Report) → IsFirstFault settings bytes first → IsGateReport settings asked bytes first r → r.status ≡ Done → (counts : Counts) × (found : ReleaseCounts) × IsReleasedStream settings asked bytes counts found
  if_done (NoFault es) r is h done =
      let counts = counts_of es in
      let found = release_counts_of asked settings.policy es in
      (counts, found, (first_fault_releases settings asked bytes counts found (NoFault es) is).0 (es, refl, refl, refl, not_held (hold_in settings asked es) (sym (ap (λ (x : Report). x.status) h.2) ∙ done)))
  if_done (At n (IsBad f)) r is h done = let no : Refused ≡ Done = sym (ap (λ (x : Report). x.status) h.2) ∙ done in cc
  if_done (At n (IsUnsupported u)) r is h done = let no : Unsupported ≡ Done = sym (ap (λ (x : Report). x.status) h.2) ∙ done in cc
  if_done (Troubled t) r is h done = let no : Trouble ≡ Done = sym (ap (λ (x : Report). x.status) h) ∙ done in cc

  if_released : (first : FirstFault) (r : Report) → IsFirstFault settings bytes first → IsGateReport settings asked bytes first r → (counts : Counts) (found : ReleaseCounts) → IsReleasedStream settings asked bytes counts found → r.status ≡ Done
  if_released first r is h counts found released =
      let k = (first_fault_releases settings asked bytes counts found first is).1 released in
      let g : IsGateReport settings asked bytes (NoFault k.0) r = subst (λ (f : FirstFault). IsGateReport settings asked bytes f r) k.1 h in
      ap (λ (x : Report). x.status) g.2
      ∙ ap held_status (ap₂ (hold_of asked (run_succeeded k.0)) (sym k.2) (sym k.3) ∙ k.4)

pub releases_exactly : GateReleasesExactly
releases_exactly settings asked bytes r h = (
  λ done. if_done settings asked bytes h.0 r h.1 h.2 done,
  λ released. if_released settings asked bytes h.0 r h.1 h.2 released.0 released.1 released.2,
)

-- ---- a run

either_way : (r : Report) (code : ℕ) (before after : Output) → Delivers r code before after → (code ≡ code_of r.status) ⊎ (code ≡ 3)
either_way r code before after d = go d.one
  where
    go : Prints r code before after ⊎ Breaks r.text code before after → (code ≡ code_of r.status) ⊎ (code ≡ 3)
    go (inl p) = inl p.status
    go (inr b) = inr b.status

of_trouble : (t : SomeTrouble) (r : Report) (code : ℕ) (before after : Output) → r ≡ trouble_report t → Delivers r code before after → code ≡ 3
of_trouble t r code before after is d = go (either_way r code before after d)
  where
    go : (code ≡ code_of r.status) ⊎ (code ≡ 3) → code ≡ 3
    go (inl e) = e ∙ ap (λ (x : Report). code_of x.status) is
    go (inr e) = e

module _ (settings : Settings) (asked : Conditions) (code : ℕ) (before after : Output) (bytes : List ℕ) (counts : Counts) (found : ReleaseCounts) (released : IsReleasedStream settings asked bytes counts found) where
  delivered : DeliversOne (Reports (ask_gate settings asked) bytes) code before after → (code ≡ 0) ⊎ (code ≡ 3)
  delivered (r, inr memory, d) = inr (of_trouble Memory r code before after memory d)
  delivered (r, inl reports, d) = go (either_way r code before after d)
    where
      done : r.status ≡ Done
      done = (releases_exactly settings asked bytes r reports).1 (counts, found, released)

      go : (code ≡ code_of r.status) ⊎ (code ≡ 3) → (code ≡ 0) ⊎ (code ≡ 3)
      go (inl e) = inl (e ∙ ap code_of done)
      go (inr e) = inr e

failed_read : (code : ℕ) (before after : Output) → TellsFailedRead code before after → code ≡ 3
failed_read code before after (r, inl e, d) = of_trouble ReadFailed r code before after e d
failed_read code before after (r, inr e, d) = of_trouble Memory r code before after e d

pub ends_well : ReleasedEndsWell
ends_well settings asked code i j before after runs room read rest heard may counts found released = go (cases_order j.failed_calls i.failed_calls)
  where
    of_these : OfInput i j (λ bytes. DeliversOne (Reports (ask_gate settings asked) bytes) code before after) → DeliversOne (Reports (ask_gate settings asked) (read ++ rest)) code before after
    of_these h =
        let same : h.0 ≡ read = append_cancel_left i.heard h.0 read (sym h.1.heard ∙ heard.heard) in
        subst (λ (l : List ℕ). DeliversOne (Reports (ask_gate settings asked) (l ++ rest)) code before after) same (h.2 rest may)

    go : (j.failed_calls ≡ i.failed_calls) ⊎ ((j.failed_calls < i.failed_calls) ⊎ (i.failed_calls < j.failed_calls)) → (code ≡ 0) ⊎ (code ≡ 3)
    go (inl same) = delivered settings asked code before after (read ++ rest) counts found released (of_these (runs.answer (room, same)))
    go (inr (inl less)) = inr (failed_read code before after (runs.read_failed (λ e. omega arith)))
    go (inr (inr more)) = inr (failed_read code before after (runs.read_failed (λ e. omega arith)))
