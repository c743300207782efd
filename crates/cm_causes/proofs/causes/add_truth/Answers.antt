use Rattle.std.proofs.Common.{◌≡◌, ◌∙◌, refl, ap, sym, ◌++◌, ◌==◌, true, false, List, [], ◌∷◌, Result, Ok, Err, ℕ, length, string_bytes, arith}
use Rattle.std.proofs.lemmas.Bool.Decides.{nat_tests}
use Rattle.std.specs.Prelude.{OnOk, if◌then◌else◌, is_ok}
use Rattle.cm_causes.specs.Causes.{nothing_failed, told_causes}
use Rattle.cm_causes.proofs.causes.add_truth.Goals as goal

pushed : {A E P : Type 0} (r : Result A E) (new old more : List ℕ) → new ≡ (if is_ok r then old ++ more else old) → (new ≡ old ++ more → P) → OnOk r P
pushed (Ok a) new old more h f = f h
pushed (Err e) new old more h f = tt

no_bytes : (t : List ℕ) → (length t == 0) ≡ true → t ≡ []
no_bytes [] h = refl
no_bytes (x ∷ t) h = let none : length (x ∷ t) ≡ 0 = grind (arith, nat_tests) in let never : ⊥ = cc in absurd never

some_bytes : (t : List ℕ) → (length t == 0) ≡ false → told_causes t ≡ t
some_bytes [] h = cc
some_bytes (x ∷ t) h = refl

pub returns-then-is_empty : goal.returns-then-is_empty
returns-then-is_empty c =
    pushed c.push_str.result (string_bytes c.push_str.new.self) (string_bytes c.args.text.now) nothing_failed c.push_str.ensures.bytes
    (λ added es is same.
    let a = c.in_ok-add_causes.ensures es is same in
    let written : string_bytes c.add_causes.new.text ≡ a.0 = a.2 ∙ ap (λ (t : List ℕ). t ++ a.0) c.new-causes.ensures.bytes in
    let none : a.0 ≡ [] = sym written ∙ sym c.as_str-causes.ensures.value ∙ no_bytes c.as_str-causes.result.now (sym c.is_empty.ensures ∙ c.if-is_empty.true) in
    (told_causes a.0, record { causes = a.0; are_causes = a.1; told = refl }, added ∙ ap (λ (t : List ℕ). string_bytes c.args.text.now ++ told_causes t) (sym none)))

pub returns : goal.returns
returns c =
    pushed c.push_str-2.result (string_bytes c.push_str-2.new.self) (string_bytes c.args.text.now) c.as_str-causes.result.now c.push_str-2.ensures.bytes
    (λ added es is same.
    let a = c.in_ok-add_causes.ensures es is same in
    let written : string_bytes c.add_causes.new.text ≡ a.0 = a.2 ∙ ap (λ (t : List ℕ). t ++ a.0) c.new-causes.ensures.bytes in
    let told : told_causes a.0 ≡ c.as_str-causes.result.now =
    ap told_causes (sym written ∙ sym c.as_str-causes.ensures.value) ∙ some_bytes c.as_str-causes.result.now (sym c.is_empty.ensures ∙ c.if-is_empty.false) in
    (told_causes a.0, record { causes = a.0; are_causes = a.1; told = refl }, added ∙ ap (λ (t : List ℕ). string_bytes c.args.text.now ++ t) (sym told)))
