-- What is asked of all sources, over the rows that they are kept as.
use Rattle.std.proofs.Common.{◌≡◌, refl, List, [], ◌∷◌, ◌||◌}
use Rattle.std.specs.List.{list_all, list_any}
use Rattle.std.specs.Map.{values_of}
use Rattle.kept_texts.specs.Kept.{bytes_of}
use Rattle.cm_stream.specs.Texts.{Utf8}
use Rattle.cm_refs.proofs.EntryLemmas.{Key}
use Rattle.cm_attempt.proofs.EntryLemmas.{list_all-rows}
use Rattle.cm_state.specs.StateChecks.{lacks_by}
use Rattle.cm_judge.specs.Kept.{kept_row, kept_rows}
use Rattle.cm_judge.specs.declared.kept_sources.KeptSource.{KeptSource}
use Rattle.cm_judge.specs.declared.kept_sources.KeptSource.TheVariants as kept

pub lacks_anywhere : (uri : Utf8) (k : KeptSource) → lacks_by (kept_row uri k) ≡ lacks_by (kept_row [] k)
lacks_anywhere uri kept.Refused = refl
lacks_anywhere uri (kept.Accepted a) = refl

accepted_anywhere : (uri : Utf8) (k : KeptSource) → (kept_row uri k).is_accepted ≡ (kept_row [] k).is_accepted
accepted_anywhere uri kept.Refused = refl
accepted_anywhere uri (kept.Accepted a) = refl

pub rows_lack : (es : List (Key × KeptSource)) → list_any lacks_by (kept_rows es) ≡ list_any (λ k. lacks_by (kept_row [] k)) (values_of es)
rows_lack [] = refl
rows_lack (e ∷ es) = λ i. lacks_anywhere (bytes_of e.0) e.1 i || rows_lack es i

pub rows_accepted : (es : List (Key × KeptSource)) → list_all (λ r. r.is_accepted) (kept_rows es) ≡ list_all (λ k. (kept_row [] k).is_accepted) (values_of es)
rows_accepted es = list_all-rows kept_row (λ r. r.is_accepted) accepted_anywhere es
