-- The ids of a text's nodes and pickles fit.
use Rattle.std.proofs.Common.{◌≡◌, ℕ, ◌+◌, ◌*◌, ◌<◌, ◌≤◌, ◌^◌, List, [], ◌∷◌, length, arith}
use Rattle.std.specs.List.{sum_by, AllByRecursion}
use Rattle.std.specs.Str.{IsUtf8}
use Rattle.std.proofs.lemmas.List.Sums.{sum_by-cons}
use Rattle.std.proofs.lemmas.Nat.{mul-le}
use Rattle.gk_document.specs.declared.tree.Document.{Document}
use Rattle.gk_grammar.specs.Grammar.{feature_nodes}
use Rattle.gk_grammar.specs.Documents.{IsDocumentOf}
use Rattle.gk_grammar.proofs.LawLemmas.{no_more_nodes_than_bytes_holds}
use Rattle.gk_pickle.specs.declared.pickles.Pickle.{Pickle}
use Rattle.gk_pickle.specs.Pickles.{pickles}
use Rattle.gk_pickle.specs.Order.{document_steps, ComesFrom}
use Rattle.gk_pickle.proofs.Ordering.{steps_in_document_order}
use Rattle.cm_compile.specs.Compiled.{id_count}
use Rattle.cm_compile.proofs.Nodes.{few_pickles, few_steps}

at_most : (d : Document) (ps : List Pickle) → AllByRecursion (ComesFrom (document_steps d.feature)) ps
    → sum_by id_count ps ≤ length ps * (length (feature_nodes d.feature) + 1)
at_most d [] h = omega arith
at_most d (p ∷ ps) h =
    let n : ℕ = length (feature_nodes d.feature) + 1 in
    let here : length p.steps + 1 ≤ n = omega (arith, few_steps d.feature p h.0) in
    let rest : sum_by id_count ps ≤ length ps * n = at_most d ps h.1 in
    rw (sum_by-cons id_count p ps) (grind (arith, here, rest))

few : (d : Document) → length (pickles d) ≤ length (feature_nodes d.feature)
unfolding pickles
few d = few_pickles d.feature

-- a text has at most as many nodes as bytes, and its pickles and their steps are no more
pub ids_fit : (text : List ℕ) (d : Document) → IsUtf8 text → IsDocumentOf text d → length text ≤ 16777216
    → d.nodes + sum_by id_count (pickles d) < 2 ^ 64
ids_fit text d u h short =
    let nodes : d.nodes ≤ 16777216 = omega (arith, no_more_nodes_than_bytes_holds text d u h) in
    let same : d.nodes ≡ length (feature_nodes d.feature) = h.count in
    let steps : sum_by id_count (pickles d) ≤ length (pickles d) * (length (feature_nodes d.feature) + 1) = at_most d (pickles d) (steps_in_document_order d) in
    let all : length (pickles d) * (length (feature_nodes d.feature) + 1) ≤ 16777216 * 16777217 =
    mul-le (length (pickles d)) (length (feature_nodes d.feature) + 1) 16777216 16777217 (omega (arith, few d)) (omega arith) in
    omega arith
