use Rattle.std.proofs.Common.{◌≡◌, ◌∙◌, ap, sym, refl, Option, List, [], ◌∷◌, ◌-◌, length, arith, suc}
use Rattle.std.specs.Prelude.{slice_get, unwrap_or}
use Rattle.cm_attempt.specs.Calls.{last_of}
use Rattle.cm_stream.specs.Texts.{Utf8}
use Rattle.cm_cases.proofs.listing.last_text.Goals as goal

last_is : {A : Type 0} (xs : List A) → last_of xs ≡ slice_get xs (length xs - 1)
last_is [] = refl
last_is (x ∷ []) = refl
last_is (x ∷ y ∷ more) =
    let less : length (y ∷ more) - 1 ≡ length more = omega arith in
    let here : length (x ∷ y ∷ more) - 1 ≡ suc (length more) = omega arith in
    last_is (y ∷ more) ∙ ap (slice_get (y ∷ more)) less ∙ sym (ap (slice_get (x ∷ y ∷ more)) here)

pub returns-in-Some : goal.returns-in-Some
returns-in-Some c p same =
    c.as_str.ensures ∙ ap (λ (o : Option Utf8). unwrap_or o []) (c.in-Some.ensures.value ∙ sym (last_is c.args.texts.now)) ∙ ap (λ (xs : List Utf8). unwrap_or (last_of xs) []) same
