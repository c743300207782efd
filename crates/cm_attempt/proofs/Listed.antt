-- The results of the cases, as a loop over their ids collects them.
use Rattle.std.proofs.Common.{◌≡◌, refl, ap, ◌∙◌, List, [], ◌∷◌, map, Bor}
use Rattle.kept_texts.specs.Kept.{bytes_of}
use Rattle.kept_texts.specs.declared.kept_text.KeptText.{KeptText}
use Rattle.cm_attempt.specs.Rows.{case_rows}
use Rattle.cm_attempt.specs.Table.{Utf8}
use Rattle.cm_attempt.specs.declared.track.Case.{Case}

-- something of the id of each case, over the ids that a loop yields
pub over_ids : {B : Type 0} (f : Utf8 → B) (entries : List (KeptText × Case)) (yielded : List (Bor (KeptText))) → map (λ k. k.now) yielded ≡ map (λ e. e.0) entries
    → map (λ k. f (bytes_of k.now)) yielded ≡ map (λ c. f c.id) (case_rows entries)
over_ids {B} f entries yielded e = by_now yielded ∙ ap (map (λ k. f (bytes_of k))) e ∙ by_rows entries
  where
    by_now : (ks : List (Bor (KeptText))) → map (λ k. f (bytes_of k.now)) ks ≡ map (λ k. f (bytes_of k)) (map (λ k. k.now) ks)
    by_now [] = refl
    by_now (k ∷ ks) = ap (λ bs. f (bytes_of k.now) ∷ bs) (by_now ks)

    by_rows : (es : List (KeptText × Case)) → map (λ k. f (bytes_of k)) (map (λ e. e.0) es) ≡ map (λ c. f c.id) (case_rows es)
    by_rows [] = refl
    by_rows (e ∷ es) = ap (λ bs. f (bytes_of e.0) ∷ bs) (by_rows es)
