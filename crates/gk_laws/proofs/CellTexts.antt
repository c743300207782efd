-- A cell and the white space around what it says.
use Rattle.std.proofs.Common.{◌≡◌, ℕ, ◌+◌, cond, List, [], ◌∷◌, length, sym, refl, ap, ◌∙◌}
use Rattle.std.specs.Prelude.{◌==◌, ◌&&◌}
use Rattle.gk_line.specs.Cells.{is_space, skip_spaces, drop_spaces, meanings, CellText}
use Rattle.gk_laws.specs.Rows.{Units, CellsAreTrimmed}
use Rattle.gk_laws.proofs.Trims.{skip, drop_end, front_split, is_trimmed, trimmed_is}

skipped : (us : Units) → skip_spaces us ≡ skip is_space us
skipped [] = refl
skipped (u ∷ us) = ap (λ q. cond (is_space u) q (u ∷ us)) (skipped us)

dropped : (us : Units) → drop_spaces us ≡ drop_end is_space us
dropped [] = refl
dropped (u ∷ us) = ap (λ q. cond (is_space u && length q == 0) [] (u ∷ q)) (dropped us)

said_by : (cell : Units) → drop_spaces (skip_spaces cell) ≡ drop_end is_space (skip is_space cell)
said_by cell = dropped (skip_spaces cell) ∙ ap (drop_end is_space) (skipped cell)

same_text : {v w : List ℕ} {c d : ℕ} → v ≡ w → c ≡ d → ◌≡◌ {A = CellText} (record { value = v; column = c }) (record { value = w; column = d })
same_text {v} {w} {c} {d} e f = ap (λ v. record { value = v; column = c }) e ∙ ap (λ c. record { value = w; column = c }) f

pub cells_are_trimmed : CellsAreTrimmed
cells_are_trimmed column cell text = (
  (λ e.
      let front = front_split is_space cell in (
        front.0,
        drop_end is_space (skip is_space cell),
        is_trimmed is_space cell,
        ap (λ (t : CellText). t.value) (sym e) ∙ ap meanings (said_by cell),
        ap (λ (t : CellText). t.column) (sym e) ∙ ap (λ n. column + n) (sym front.3),
      )),
  (λ (front, said, trimmed, value, place).
      let is = trimmed_is is_space cell front said trimmed in
      same_text (ap meanings (said_by cell ∙ is.0) ∙ sym value) (ap (λ n. column + n) is.1 ∙ sym place)),
)
