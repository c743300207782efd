-- The lines that the machine takes whole are the texts of the grammar, and what it made is their one document.
use Rattle.std.proofs.Common.{◌≡◌, ℕ, List, ◌++◌, length, Option, Some, None, Ok, refl, sym, ap, subst, ◌∙◌}
use Rattle.gk_grammar.specs.Token.{Line}
use Rattle.gk_grammar.specs.Tree as tree
use Rattle.gk_grammar.specs.Tree.{Feature, Document}
use Rattle.gk_grammar.specs.Grammar.{IsFeatureText, Doc, feature_nodes}
use Rattle.gk_grammar.specs.Machine.{FlatBlock, State, run, blocks_at_end, initial_state}
use Rattle.gk_grammar.specs.Assembly.{assembled_feature, document_of, IsFeatureFirst}
use Rattle.gk_grammar.proofs.Complete.{Counts}
use Rattle.gk_grammar.proofs.Whole.{FlatBlocksCount, flat_blocks_count}
use Rattle.gk_grammar.proofs.OneTree.{tree_again, one_tree, linked_feature_first}
use Rattle.gk_grammar.proofs.Numbers.{numbered, counted}
use Rattle.gk_grammar.proofs.Places.{AreNumberedFrom, text_in_order}
use Rattle.gk_grammar.proofs.FlatBlockNumbers.{nodes_counted, nodes_count_so, feature_count}
use Rattle.gk_grammar.proofs.Final.{flat_blocks_of, Takes, text_taken, taken_text, one_taking}
use Rattle.gk_grammar.proofs.Text.{AreFlatBlocks, kept, closing, read_text}

counted_nodes : (f : Option Feature) → FlatBlocksCount 0 (flat_blocks_of f) → Counts 0 (feature_nodes f)
counted_nodes None h = tt
counted_nodes (Some f) h = nodes_counted f h

counted_flat_blocks : (f : Option Feature) → Counts 0 (feature_nodes f) → FlatBlocksCount 0 (flat_blocks_of f)
counted_flat_blocks None h = tt
counted_flat_blocks (Some f) h = nodes_count_so f h

node_count : (f : Option Feature) → flat_blocks_count (flat_blocks_of f) ≡ length (feature_nodes f)
node_count None = refl
node_count (Some f) = feature_count f

assembled_again : (f : Option Feature) (ls : List Line) (cs : List tree.Comment) → IsFeatureText f ls cs → assembled_feature (flat_blocks_of f) ≡ f
assembled_again None ls cs h = refl
assembled_again (Some f) ls cs h = tree_again f h.0

-- the document that a whole run made is that of the lines, and its flat blocks begin with the feature
pub record Accepted (ls : List Line) (s : State) (last : List FlatBlock) : Type 0 where
  pub doc : Doc ls (document_of s last)
  pub feature_first : IsFeatureFirst (s.flat_blocks ++ last)

pub accepted : (ls : List Line) (s : State) (last : List FlatBlock) → AreNumberedFrom 1 ls → run initial_state ls ≡ Ok s → blocks_at_end s.phase ≡ Some last → Accepted ls s last
accepted ls s last a e f =
    let k = kept ls s e in
    let c : AreFlatBlocks (s.flat_blocks ++ last) s.nodes = closing s s.phase last f k.0.0 k.0.1 k.1.0 k.1.1 in
    let r = read_text ls s.comments (s.flat_blocks ++ last) c.0 c.1 (taken_text ls s last e f) in
    let same : r.0 ≡ assembled_feature (s.flat_blocks ++ last) = sym (assembled_again r.0 ls s.comments r.1) ∙ ap assembled_feature (sym r.2) in
    record {
      doc = subst (λ (z : Option Feature). Doc ls (record { feature = z; comments = s.comments; nodes = s.nodes })) same (record {
        text = r.1;
        numbers = numbered (feature_nodes r.0) (text_in_order r.0 1 ls s.comments a r.1) (counted_nodes r.0 (subst (FlatBlocksCount 0) r.2 c.1));
        count = c.2 ∙ ap flat_blocks_count r.2 ∙ node_count r.0;
      });
      feature_first = linked_feature_first (s.flat_blocks ++ last) c.0;
    }

-- the machine takes each text of the grammar
pub doc_taken : (ls : List Line) (d : Document) → AreNumberedFrom 1 ls → Doc ls d → Takes ls (flat_blocks_of d.feature) d.comments d.nodes
doc_taken ls d a h =
    subst (λ (z : ℕ). Takes ls (flat_blocks_of d.feature) d.comments z) (node_count d.feature ∙ sym h.count)
    (text_taken d.feature ls d.comments (counted_flat_blocks d.feature (counted (feature_nodes d.feature) (text_in_order d.feature 1 ls d.comments a h.text) h.numbers)) h.text)

-- ---- one document at most

one_feature : (f g : Option Feature) (ls : List Line) (cs ds : List tree.Comment) → IsFeatureText f ls cs → IsFeatureText g ls ds → flat_blocks_of f ≡ flat_blocks_of g → f ≡ g
one_feature None None ls cs ds a b e = refl
one_feature None (Some g) ls cs ds a b e = absurd cc
one_feature (Some f) None ls cs ds a b e = absurd cc
one_feature (Some f) (Some g) ls cs ds a b e = ap Some (one_tree f g a.0 b.0 e)

document_is : (a b : Document) → a.feature ≡ b.feature → a.comments ≡ b.comments → a.nodes ≡ b.nodes → a ≡ b
document_is a b p q r = λ i. record { feature = p i; comments = q i; nodes = r i }

pub one_doc : (ls : List Line) → AreNumberedFrom 1 ls → (a b : Document) → Doc ls a → Doc ls b → a ≡ b
one_doc ls l a b h k =
    let e = one_taking ls (flat_blocks_of a.feature) (flat_blocks_of b.feature) a.comments b.comments a.nodes b.nodes (doc_taken ls a l h) (doc_taken ls b l k) in
    document_is a b (one_feature a.feature b.feature ls a.comments b.comments h.text k.text e.0) e.1 e.2
