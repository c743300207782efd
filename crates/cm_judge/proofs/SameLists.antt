-- Lists whose elements are compared one by one.
use Rattle.std.proofs.Common.{◌≡◌, ◌&&◌, ℕ, List, [], ◌∷◌, refl, ap}
use Rattle.cm_stream.specs.Texts.{Utf8, same_list, same_texts}
use Rattle.cm_stream.specs.Sources.{ids_at}
use Rattle.cm_judge.specs.Matching.{is_id}

-- the texts are the ids of the nodes, compared node by node
pub same_ids : (ids : List Utf8) (xs : List Utf8) (nodes : List ℕ) → same_list (is_id ids) xs nodes ≡ same_texts xs (ids_at ids nodes)
same_ids ids [] [] = refl
same_ids ids [] (n ∷ ns) = refl
same_ids ids (x ∷ xs) [] = refl
same_ids ids (x ∷ xs) (n ∷ ns) = ap (λ rest. is_id ids x n && rest) (same_ids ids xs ns)
