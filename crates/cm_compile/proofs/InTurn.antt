-- The lines and the ids of pickles, those of one scenario after another.
use Rattle.std.proofs.Common.{◌≡◌, ℕ, ◌+◌, ◌<◌, ◌≤◌, List, [], ◌∷◌, ◌++◌, length, drop, get_or, sym, ap, ◌∙◌, append_assoc, append-nil, arith}
use Rattle.std.specs.List.{sum_by, concat, flat_map}
use Rattle.std.proofs.lemmas.List.{at_drop_all, drop_more}
use Rattle.std.proofs.lemmas.List.Folds.{concat-append}
use Rattle.std.proofs.lemmas.List.Sums.{sum_by-cons, sum_by-append}
use Rattle.gk_pickle.specs.declared.pickles.Pickle.{Pickle}
use Rattle.gk_pickle.specs.InFeature.{ScenarioInFeature}
use Rattle.gk_pickle.specs.Scenarios.{pickles_of_one}
use Rattle.cm_messages.specs.PickleLayout.{pickle_data}
use Rattle.cm_compile.specs.Compiled.{data_line, id_count, compiled_pickle_lines}

-- the lines of pickles in two parts
in_parts : (uri : List ℕ) (id : ℕ) (ps qs : List Pickle)
    → compiled_pickle_lines uri id (ps ++ qs) ≡ compiled_pickle_lines uri id ps ++ compiled_pickle_lines uri (id + sum_by id_count ps) qs
in_parts uri id [] qs =
    let same : id ≡ id + sum_by id_count [] = omega arith in
    ap (λ n. compiled_pickle_lines uri n qs) same
in_parts uri id (p ∷ ps) qs =
    let next : (id + id_count p) + sum_by id_count ps ≡ id + sum_by id_count (p ∷ ps) = omega (arith, sum_by-cons id_count p ps) in
    ap (λ ls. data_line (pickle_data uri id p) ∷ ls)
    (in_parts uri (id + id_count p) ps qs ∙ ap (λ n. compiled_pickle_lines uri (id + id_count p) ps ++ compiled_pickle_lines uri n qs) next)

-- the pickles of the scenarios from one of them on
from_here : (xs : List ScenarioInFeature) (i : ℕ) (x : ScenarioInFeature) → i < length xs → x ≡ get_or xs i x
    → flat_map pickles_of_one (drop i xs) ≡ pickles_of_one x ++ flat_map pickles_of_one (drop (i + 1) xs)
from_here xs i x l e = ap (flat_map pickles_of_one) (drop_more xs i x l ∙ ap (λ y. y ∷ drop (i + 1) xs) (sym e))

pub ids_from_here : (xs : List ScenarioInFeature) (i : ℕ) (x : ScenarioInFeature) → i < length xs → x ≡ get_or xs i x
    → sum_by id_count (flat_map pickles_of_one (drop i xs))
    ≡ sum_by id_count (pickles_of_one x) + sum_by id_count (flat_map pickles_of_one (drop (i + 1) xs))
ids_from_here xs i x l e =
    ap (sum_by id_count) (from_here xs i x l e) ∙ sum_by-append id_count (pickles_of_one x) (flat_map pickles_of_one (drop (i + 1) xs))

-- what is left once the lines of a scenario are added
pub one_added : (lines new uri : List ℕ) (id next : ℕ) (xs : List ScenarioInFeature) (i : ℕ) (x : ScenarioInFeature) (all : List ℕ)
    → new ≡ lines ++ concat (compiled_pickle_lines uri id (pickles_of_one x)) → next ≡ id + sum_by id_count (pickles_of_one x)
    → i < length xs → x ≡ get_or xs i x → lines ++ concat (compiled_pickle_lines uri id (flat_map pickles_of_one (drop i xs))) ≡ all
    → new ++ concat (compiled_pickle_lines uri next (flat_map pickles_of_one (drop (i + 1) xs))) ≡ all
one_added lines new uri id next xs i x all n after l e h =
    let here : List Pickle = pickles_of_one x in
    let rest : List Pickle = flat_map pickles_of_one (drop (i + 1) xs) in
    let first : List (List ℕ) = compiled_pickle_lines uri id here in
    let left : List (List ℕ) = compiled_pickle_lines uri (id + sum_by id_count here) rest in
    ap (λ ls. ls ++ concat (compiled_pickle_lines uri next rest)) n ∙ ap (λ m. (lines ++ concat first) ++ concat (compiled_pickle_lines uri m rest)) after
    ∙ append_assoc lines (concat first) (concat left) ∙ ap (λ ls. lines ++ ls) (sym (concat-append first left))
    ∙ ap (λ ls. lines ++ concat ls) (sym (in_parts uri id here rest))
    ∙ ap (λ ps. lines ++ concat (compiled_pickle_lines uri id ps)) (sym (from_here xs i x l e)) ∙ h

-- no scenario is left
pub all_added : (lines uri : List ℕ) (id : ℕ) (xs : List ScenarioInFeature) (i : ℕ) (all : List ℕ)
    → length xs ≤ i → lines ++ concat (compiled_pickle_lines uri id (flat_map pickles_of_one (drop i xs))) ≡ all → lines ≡ all
all_added lines uri id xs i all l h =
    sym (ap (λ ls. lines ++ ls) (at_drop_all (λ ys. concat (compiled_pickle_lines uri id (flat_map pickles_of_one ys))) xs i l) ∙ append-nil lines) ∙ h
