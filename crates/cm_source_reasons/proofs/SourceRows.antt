-- In what an envelope differs from the row of its source.
use Rattle.std.proofs.Common.{◌≡◌, refl, sym, ap, ◌∙◌, subst, Bool, true, false, if◌then◌else◌, List, [], ◌∷◌, Option, Some, None, Result, Ok, Err}
use Rattle.std.specs.Option.{option_or}
use Rattle.std.proofs.Math.Path.{fun_ext}
use Rattle.std.specs.Prelude.{◌↔◌, IfOk, IfSome, IsNone, find, option_map}
use Rattle.kept_texts.specs.Kept.{bytes_of}
use Rattle.kept_texts.specs.declared.kept_text.KeptText.{KeptText}
use Rattle.gk_document.specs.Skeleton.{skeleton}
use Rattle.gk_document.specs.declared.tree.Document.{Document}
use Rattle.cm_envelope.specs.declared.envelope.GherkinDocument.{GherkinDocument}
use Rattle.cm_stream.specs.Skeleton.{same_skeleton}
use Rattle.cm_stream.specs.Texts.{Utf8}
use Rattle.cm_stream.proofs.Lists.{find_map}
use Rattle.cm_stream.proofs.Skeletons.{same_skeletons}
use Rattle.cm_state.specs.StateChecks.{lacks_by}
use Rattle.cm_state.specs.Summary.{SourceRow}
use Rattle.cm_differs.specs.Differences.{IsTreeDifference}
use Rattle.cm_differs.specs.declared.difference.Difference.{Difference}
use Rattle.cm_judge.specs.Kept.{kept_row, kept_rows}
use Rattle.cm_judge.specs.declared.kept_sources.KeptSource.{KeptSource}
use Rattle.cm_judge.proofs.KeptRows.{moved_row}
use Rattle.cm_judge.proofs.Runs.{lacks_anywhere}
use Rattle.cm_source_reasons.specs.SourceKept.{DiffersInTree, OfFound}

same_due : (o : Option Document) (a b : Document) → o ≡ Some a → o ≡ Some b → a ≡ b
same_due o a b e k = cc

pub tree_by : {E : Type 0} (uri : Utf8) (due : Document) (x : GherkinDocument) (row : SourceRow) (r : Result (Option Difference) E) → uri ≡ x.uri → row.awaited ≡ Some due → IfOk r (λ o. IsNone o ↔ (skeleton due ≡ skeleton x.document))
    → IfOk r (λ o. IfSome o (IsTreeDifference uri due x.document)) → IfOk r (DiffersInTree row x)
tree_by uri due x row (Err e) u is none first = tt
tree_by uri due x row (Ok None) u is none first = λ other its unlike.
    let same : other ≡ due = same_due row.awaited other due its is in
    let alike : same_skeleton x.document due ≡ true = same_skeletons x.document due (sym (none.0 refl)) in
    let both : false ≡ true = sym unlike ∙ ap (same_skeleton x.document) same ∙ alike in
    absurd cc
tree_by uri due x row (Ok (Some y)) u is none first = λ other its unlike.
    let same : due ≡ other = same_due row.awaited due other is its in
    subst (λ d. IsTreeDifference x.uri d x.document y) same (subst (λ v. IsTreeDifference v due x.document y) u first)

same_row : (a b : SourceRow) (o : Option SourceRow) → Some a ≡ o → o ≡ Some b → a ≡ b
same_row a b o e k = let both : Some a ≡ Some b = e ∙ k in cc

-- what holds of a row holds of the one that is found
pub found_row : {E : Type 0} (P : SourceRow → Option Difference → Type 0) (found : Option SourceRow) (row : SourceRow) (r : Result (Option Difference) E) → Some row ≡ found → IfOk r (P row) → IfOk r (λ o. OfFound found (λ x. P x o))
found_row P found row (Err e) here h = tt
found_row P found row (Ok o) here h = λ x is. subst (λ z. P z o) (same_row row x found here is) h

-- the uri isn't looked at
pub tree_of : {E : Type 0} (uri : Utf8) (k : KeptSource) (x : GherkinDocument) (r : Result (Option Difference) E) → IfOk r (DiffersInTree (kept_row [] k) x) → IfOk r (DiffersInTree (kept_row uri k) x)
tree_of uri k x r h = subst (λ (row : SourceRow). IfOk r (DiffersInTree row x)) (sym (moved_row uri k)) h

-- ---- the first source of which something is missing

abbrev pub entry_row : KeptText × KeptSource → SourceRow
entry_row e = kept_row (bytes_of e.0) e.1

pub first_row : (entries : List (KeptText × KeptSource)) → find lacks_by (kept_rows entries) ≡ option_map entry_row (find (λ e. lacks_by (kept_row [] e.1)) entries)
first_row entries = find_map lacks_by entry_row entries ∙ ap (λ q. option_map entry_row (find q entries)) (fun_ext (λ e. lacks_anywhere (bytes_of e.0) e.1))

-- entries that are looked at one after the other, as a loop does
module _ {X Y : Type 0} (shown : X → Y) (test : Y → Bool) (all : List Y) where
  pub one_looked_at : (found here : Option X) (x : X) (ys rest : List Y) → ys ≡ shown x ∷ rest → here ≡ (if test (shown x) then Some x else None) → option_or (option_map shown found) (find test ys) ≡ find test all
      → option_or (option_map shown (option_or found here)) (find test rest) ≡ find test all
  one_looked_at (Some y) here x ys rest is passes so_far = so_far
  one_looked_at None here x ys rest is passes so_far =
      ap (λ (o : Option X). option_or (option_map shown o) (find test rest)) passes ∙ first (test (shown x)) ∙ sym (ap (find test) is) ∙ so_far
    where
      first : (b : Bool) → option_or (option_map shown (if b then Some x else None)) (find test rest) ≡ (if b then Some (shown x) else find test rest)
      first true = refl
      first false = refl

  pub all_looked_at : (found : Option X) (ys : List Y) → ys ≡ [] → option_or (option_map shown found) (find test ys) ≡ find test all → option_map shown found ≡ find test all
  all_looked_at (Some x) ys is so_far = so_far
  all_looked_at None ys is so_far = sym (ap (find test) is) ∙ so_far
