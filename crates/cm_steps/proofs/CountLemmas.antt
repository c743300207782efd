-- How many attempts of a test case are kept.
use Rattle.std.proofs.Common.{◌≡◌, ◌∙◌, refl, sym, Bool, true, false, List, [], ◌∷◌, length, map}
use Rattle.std.specs.Prelude.{count_by}
use Rattle.std.specs.List.{filter}
use Rattle.std.specs.Str.{bytes_eq}
use Rattle.std.proofs.lemmas.List.Sums.{length-filter}
use Rattle.cm_envelope.specs.declared.envelope.TestCaseStarted.{TestCaseStarted}
use Rattle.cm_stream.specs.Texts.{Utf8}
use Rattle.cm_steps.specs.Kept.{start_entry}
use Rattle.cm_steps.specs.declared.listing.StartEntry.{StartEntry}

kept_of : (p : StartEntry → Bool) (ss : List TestCaseStarted) → length (filter p (map start_entry ss)) ≡ length (filter (λ s. p (start_entry s)) ss)
kept_of p [] = refl
kept_of p (s ∷ ss) = go (p (start_entry s)) refl (kept_of p ss)
  where
    go : (b : Bool) → p (start_entry s) ≡ b → length (filter p (map start_entry ss)) ≡ length (filter (λ x. p (start_entry x)) ss) → length (filter p (start_entry s ∷ map start_entry ss)) ≡ length (filter (λ x. p (start_entry x)) (s ∷ ss))
    go true e rec = rw (e, rec) refl
    go false e rec = rw (e, rec) refl

pub count_starts : (case : Utf8) (ss : List TestCaseStarted) → count_by (λ (x : StartEntry). bytes_eq case x.case_id) (map start_entry ss) ≡ length (filter (λ (s : TestCaseStarted). bytes_eq case s.test_case_id) ss)
count_starts case ss =
    sym (length-filter (λ (x : StartEntry). bytes_eq case x.case_id) (map start_entry ss))
    ∙ kept_of (λ (x : StartEntry). bytes_eq case x.case_id) ss
