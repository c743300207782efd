use Rattle.std.proofs.Common.{◌≡◌, ◌∙◌, ap, sym, refl, ℕ, Option, Some, None, List, [], ◌∷◌, ◌-◌, length, map, arith, suc}
use Rattle.std.specs.Prelude.{option_map, slice_get, unwrap_or}
use Rattle.cm_attempt.specs.Calls.{last_of}
use Rattle.cm_stream.specs.Texts.{Utf8}
use Rattle.cm_source_reasons.proofs.source_reasons.last_node.Goals as goal

last_is : {A : Type 0} (xs : List A) → last_of xs ≡ slice_get xs (length xs - 1)
last_is [] = refl
last_is (x ∷ []) = refl
last_is (x ∷ y ∷ more) =
    let less : length (y ∷ more) - 1 ≡ length more = omega arith in
    let here : length (x ∷ y ∷ more) - 1 ≡ suc (length more) = omega arith in
    last_is (y ∷ more) ∙ ap (slice_get (y ∷ more)) less ∙ sym (ap (slice_get (x ∷ y ∷ more)) here)

last_map : {A B : Type 0} (f : A → B) (xs : List A) → last_of (map f xs) ≡ option_map f (last_of xs)
last_map f [] = refl
last_map f (x ∷ []) = refl
last_map f (x ∷ y ∷ more) = last_map f (y ∷ more)

-- the id of the last node
last_id : (ids : List Utf8) (nodes shown : List ℕ) (o : Option ℕ) → shown ≡ nodes → o ≡ slice_get shown (length shown - 1) → unwrap_or (option_map (λ n. unwrap_or (slice_get ids n) []) o) [] ≡ unwrap_or (last_of (map (λ n. unwrap_or (slice_get ids n) []) nodes)) []
last_id ids nodes shown o same e =
    ap (λ (x : Option ℕ). unwrap_or (option_map (λ n. unwrap_or (slice_get ids n) []) x) []) (e ∙ sym (last_is shown) ∙ ap last_of same)
    ∙ ap (λ (x : Option Utf8). unwrap_or x []) (sym (last_map (λ n. unwrap_or (slice_get ids n) []) nodes))

pub returns-in-Some : goal.returns-in-Some
returns-in-Some c = c.id_of.ensures ∙ last_id c.args.ids.now c.args.nodes.now c.args.nodes.now (Some c.in-Some.node.now) refl c.in-Some.ensures.value

pub returns-in-None : goal.returns-in-None
returns-in-None c = last_id c.args.ids.now c.args.nodes.now c.args.nodes.now None refl c.in-None.ensures.value
