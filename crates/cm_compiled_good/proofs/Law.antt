-- What a text compiles to is a good stream.
use Rattle.std.proofs.Common.{ℕ, ◌<◌, ◌≤◌, List, [], ◌∷◌, length, IsUtf8, inl, arith}
use Rattle.std.specs.List.{AllByRecursion}
use Rattle.gk_document.specs.declared.tree.Document.{Document}
use Rattle.gk_grammar.specs.Documents.{IsDocumentOf, IsTooLong}
use Rattle.gk_pickle.specs.declared.pickles.Pickle.{Pickle}
use Rattle.cm_messages.specs.PickleLayout.{pickle_data}
use Rattle.gk_pickle.specs.Pickles.{pickles}
use Rattle.cm_stream.specs.Readings.{Accepted}
use Rattle.cm_stream.proofs.OnePass.{reads_it}
use Rattle.cm_read_back.proofs.Skeletons.{skeletons_same}
use Rattle.cm_read_back.proofs.Texts.{parsed_are_readable}
use Rattle.cm_read_back.specs.Values.{IsPlain}
use Rattle.cm_compiled_good.specs.Law.{CompiledAreGood}
use Rattle.cm_compiled_good.proofs.Blocks.{parsed_clean}
use Rattle.cm_compiled_good.proofs.Compiling.{pickles_fine}
use Rattle.cm_compiled_good.proofs.Faultless.{Known}
use Rattle.cm_compiled_good.proofs.Filling.{filled_utf8}
use Rattle.cm_compiled_good.proofs.Fine.{below, clean, PickleFine}
use Rattle.cm_compiled_good.proofs.Goods.{good_if_plain}
use Rattle.cm_compile.proofs.Ids.{ids_fit}
use Rattle.cm_compiled_good.proofs.Numbers.{next_is}
use Rattle.cm_compiled_good.proofs.Placed.{nodes_below}
use Rattle.cm_compiled_good.proofs.Plain.{source_plain, pickle_plain}
use Rattle.cm_compiled_good.proofs.PlainDocument.{document_plain}
use Rattle.cm_compiled_good.proofs.Written.{ArePlain}

no_more : (n m : ℕ) → (m < n → ⊥) → n ≤ m
no_more n m h = omega (arith, h)

known : (uri text : List ℕ) (d : Document) → IsUtf8 text → IsDocumentOf text d → (IsTooLong text → ⊥) → Known uri text d
known uri text d u is short =
    let bytes : length text ≤ 16777216 = no_more (length text) 16777216 (λ h. short (inl h)) in
    record {
      read = reads_it text (Accepted d) (short, is);
      same = skeletons_same text d is;
      small = omega (arith, ids_fit text d u is bytes, next_is d.nodes (pickles d));
      fine = pickles_fine (below d.nodes) (λ t h cs x y z. tt) d (nodes_below d (parsed_are_readable text d is short).numbered);
    }

each_plain : (uri : List ℕ) → IsUtf8 uri → (ps : List Pickle) → AllByRecursion (PickleFine clean) ps → AllByRecursion (λ (p : Pickle). (id : ℕ) → IsPlain (pickle_data uri id p)) ps
each_plain uri u [] h = tt
each_plain uri u (p ∷ ps) h = (λ id. pickle_plain uri id p u h.0, each_plain uri u ps h.1)

plain : (uri text : List ℕ) (d : Document) → IsUtf8 uri → IsUtf8 text → IsDocumentOf text d → (IsTooLong text → ⊥) → ArePlain uri text d
plain uri text d v u is short =
    let parts = parsed_clean text d u is short in
    record {
      source = source_plain uri text v u;
      document = document_plain uri d v parts.0 parts.1;
      each = each_plain uri v (pickles d) (pickles_fine clean (λ t header cells x y z. filled_utf8 t header cells x z) d parts.0);
    }

pub compiled_are_good : CompiledAreGood
compiled_are_good settings uri text d v u is short fits = good_if_plain settings uri text d (parsed_are_readable text d is short) (known uri text d u is short) (plain uri text d v u is short) fits
