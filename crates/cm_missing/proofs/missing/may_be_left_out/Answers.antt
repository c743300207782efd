use Rattle.std.proofs.Common.{◌≡◌, ◌∙◌, ap, sym, refl, Bool, ◌||◌, Bor, List, [], ◌∷◌, ℕ, map}
use Rattle.std.specs.List.{list_any}
use Rattle.std.specs.Str.{bytes_eq}
use Rattle.cm_missing.proofs.missing.may_be_left_out.Goals as goal

any_names : (f : List ℕ → Bool) (xs : List (Bor (List ℕ))) → list_any (λ n. f n.now) xs ≡ list_any f (map (λ n. n.now) xs)
any_names f [] = refl
any_names f (x ∷ xs) = ap (λ b. f x.now || b) (any_names f xs)

pub returns-else-conditions : goal.returns-else-conditions
returns-else-conditions c =
    let has = λ (name : List ℕ). list_any (λ t. bytes_eq name t.name) c.args.pickle.now.tags in
    let names = c.args.conditions.now.allowed_tags.items in
    c.has_one.ensures
    ∙ (λ j. list_any (λ (name : Bor (List ℕ)). list_any (λ t. bytes_eq name.now t.name) (c.as_slice.ensures j)) (c.as_slice-else-conditions.ensures.value j))
    ∙ any_names has names ∙ ap (λ b. b || list_any has (map (λ n. n.now) names)) (sym c.if-conditions.false)
