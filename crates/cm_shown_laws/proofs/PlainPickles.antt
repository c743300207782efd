-- Pickles with texts of UTF-8 are plain, and the pickle that is due where ids are UTF-8 is one.
use Rattle.std.proofs.Common.{ℕ, zero, suc, List, [], ◌∷◌, map, Option, Some, None, IsUtf8, refl}
use Rattle.std.specs.Prelude.{option_map, slice_get, unwrap_or}
use Rattle.std.specs.List.{AllByRecursion}
use Rattle.std.proofs.lemmas.Str.{IsUtf8-nil}
use Rattle.json.proofs.Printed.Utf8.{IsUtf8-are_ascii}
use Rattle.serde_json.specs.Data.{string}
use Rattle.serde_json.specs.View.{items_of}
use Rattle.gk_pickle.specs.declared.pickles.PickleArgument.TheVariants as due_argument
use Rattle.cm_envelope.specs.declared.pickle.Pickle.{Pickle}
use Rattle.cm_envelope.specs.declared.pickle.PickleArgument.{PickleArgument}
use Rattle.cm_envelope.specs.declared.pickle.PickleArgument.TheVariants as argument
use Rattle.cm_envelope.specs.declared.pickle.PickleCell.{PickleCell}
use Rattle.cm_envelope.specs.declared.pickle.PickleDocString.{PickleDocString}
use Rattle.cm_envelope.specs.declared.pickle.PickleRow.{PickleRow}
use Rattle.cm_envelope.specs.declared.pickle.PickleStep.{PickleStep}
use Rattle.cm_envelope.specs.declared.pickle.PickleTag.{PickleTag}
use Rattle.cm_envelope.specs.declared.pickle.StepKind.{StepKind}
use Rattle.cm_envelope.specs.declared.pickle.StepKind.TheVariants as kind
use Rattle.cm_stream.specs.Sources.{DueArgument, DuePickle, DueStep, DueTag, ids_at}
use Rattle.cm_stream.specs.Texts.{Utf8}
use Rattle.cm_differs.specs.DuePickles.{argument_of, due_cell, due_pickle, due_row, due_pickle_step, due_pickle_steps, due_tag}
use Rattle.cm_differs.specs.PickleData.{argument_data, pickle_cell_data, pickle_doc_string_data, kind_word, pickle_row_data, pickle_step_data, pickle_tag_data}
use Rattle.cm_read_back.specs.Values.{IsPlain, ItemsArePlain}
use Rattle.cm_compiled_good.proofs.Compiling.{all_mapped}
use Rattle.cm_compiled_good.proofs.Fine.{clean, ArgumentFine, MediaFine, MediaOf, PickleFine, StepFine, TagFine}
use Rattle.cm_compiled_good.proofs.Plain.{items_plain}
use Rattle.cm_shown_laws.specs.Differences.{IsPlainPickle}
use Rattle.cm_shown_laws.proofs.Readings.{AreTexts}
use Rattle.cm_shown_laws.proofs.ReadPickles.{ArgumentTexts, CellTexts, DocStringTexts, PickleHasTexts, RowTexts, StepTexts, TagTexts}

-- ---- as JSON

texts_plain : (ts : List (List ℕ)) → AreTexts ts → ItemsArePlain (items_of (map string ts))
texts_plain ts h = items_plain IsUtf8 string (λ t k. k) ts h

cell_plain : (c : PickleCell) → CellTexts c → IsPlain (pickle_cell_data c)
cell_plain c h = (IsUtf8-are_ascii _ refl, h, tt)

row_plain : (r : PickleRow) → RowTexts r → IsPlain (pickle_row_data r)
row_plain r h = (IsUtf8-are_ascii _ refl, items_plain CellTexts pickle_cell_data cell_plain r.cells h, tt)

doc_string_plain : (d : PickleDocString) (m : Option (List ℕ)) → DocStringTexts (record d { media_type = m }) → IsPlain (pickle_doc_string_data (record d { media_type = m }))
doc_string_plain d None h = (IsUtf8-are_ascii _ refl, h.0, tt)
doc_string_plain d (Some m) h = (IsUtf8-are_ascii _ refl, h.0, (IsUtf8-are_ascii _ refl, h.1, tt))

argument_plain : (a : PickleArgument) → ArgumentTexts (Some a) → IsPlain (argument_data a)
argument_plain (argument.Table t) h = (IsUtf8-are_ascii _ refl, (IsUtf8-are_ascii _ refl, items_plain RowTexts pickle_row_data row_plain t.rows h, tt), tt)
argument_plain (argument.Text d) h = (IsUtf8-are_ascii _ refl, doc_string_plain d d.media_type h, tt)

word_utf8 : (k : StepKind) → IsUtf8 (kind_word k)
word_utf8 kind.Unknown = IsUtf8-are_ascii _ refl
word_utf8 kind.Context = IsUtf8-are_ascii _ refl
word_utf8 kind.Action = IsUtf8-are_ascii _ refl
word_utf8 kind.Outcome = IsUtf8-are_ascii _ refl

step_at : (s : PickleStep) (a : Option PickleArgument) (k : Option StepKind) → StepTexts (record s { argument = a; kind = k }) → IsPlain (pickle_step_data (record s { argument = a; kind = k }))
step_at s None None h = (IsUtf8-are_ascii _ refl, texts_plain s.ast_node_ids h.1, (IsUtf8-are_ascii _ refl, h.0, tt))
step_at s None (Some k) h = (IsUtf8-are_ascii _ refl, texts_plain s.ast_node_ids h.1, (IsUtf8-are_ascii _ refl, h.0, (IsUtf8-are_ascii _ refl, word_utf8 k, tt)))
step_at s (Some a) None h = (IsUtf8-are_ascii _ refl, argument_plain a h.2, (IsUtf8-are_ascii _ refl, texts_plain s.ast_node_ids h.1, (IsUtf8-are_ascii _ refl, h.0, tt)))
step_at s (Some a) (Some k) h =
    (IsUtf8-are_ascii _ refl, argument_plain a h.2, (IsUtf8-are_ascii _ refl, texts_plain s.ast_node_ids h.1, (IsUtf8-are_ascii _ refl, h.0, (IsUtf8-are_ascii _ refl, word_utf8 k, tt))))

step_plain : (s : PickleStep) → StepTexts s → IsPlain (pickle_step_data s)
step_plain s h = step_at s s.argument s.kind h

tag_plain : (t : PickleTag) → TagTexts t → IsPlain (pickle_tag_data t)
tag_plain t h = (IsUtf8-are_ascii _ refl, h.1, (IsUtf8-are_ascii _ refl, h.0, tt))

pub pickle_plain : (p : Pickle) → PickleHasTexts p → IsPlainPickle p
pickle_plain p h = (
  IsUtf8-are_ascii _ refl,
  (
    IsUtf8-are_ascii _ refl,
    texts_plain p.ast_node_ids h.ast_node_ids,
    (
      IsUtf8-are_ascii _ refl,
      h.language,
      (
        IsUtf8-are_ascii _ refl,
        h.name,
        (
          IsUtf8-are_ascii _ refl,
          items_plain StepTexts pickle_step_data step_plain p.steps h.steps,
          (IsUtf8-are_ascii _ refl, items_plain TagTexts pickle_tag_data tag_plain p.tags h.tags, (IsUtf8-are_ascii _ refl, h.uri, tt)),
        ),
      ),
    ),
  ),
  tt,
)

-- ---- what is due

id_text : (ids : List Utf8) (n : ℕ) → AreTexts ids → IsUtf8 (unwrap_or (slice_get ids n) [])
id_text [] n h = IsUtf8-nil
id_text (id ∷ ids) zero h = h.0
id_text (id ∷ ids) (suc n) h = id_text ids n h.1

ids_texts : (ids : List Utf8) → AreTexts ids → (nodes : List ℕ) → AreTexts (ids_at ids nodes)
ids_texts ids h [] = tt
ids_texts ids h (n ∷ nodes) = (id_text ids n h, ids_texts ids h nodes)

tag_due : (ids : List Utf8) → AreTexts ids → (t : DueTag) → TagFine clean t → TagTexts (due_tag ids t)
tag_due ids h t k = (k.1, id_text ids t.node h)

row_due : (cells : List Utf8) → AreTexts cells → RowTexts (due_row cells)
row_due cells h = all_mapped IsUtf8 CellTexts due_cell (λ c k. k) cells h

media_due : (m : Option (List ℕ)) → MediaFine clean m → MediaOf clean m
media_due None h = tt
media_due (Some []) h = absurd h
media_due (Some (b ∷ bs)) h = h

argument_due : (a : Option DueArgument) → ArgumentFine clean a → ArgumentTexts (option_map argument_of a)
argument_due None h = tt
argument_due (Some (due_argument.Table rows)) h = all_mapped AreTexts RowTexts due_row row_due rows h
argument_due (Some (due_argument.Text d)) h = (h.1, media_due d.media h.0)

step_due : (ids : List Utf8) → AreTexts ids → (beside : Option PickleStep) (s : DueStep) → StepFine clean s → StepTexts (due_pickle_step ids beside s)
step_due ids h beside s k = (k.0, ids_texts ids h s.nodes, argument_due s.argument k.2)

steps_due : (ids : List Utf8) → AreTexts ids → (beside : List PickleStep) (ss : List DueStep) → AllByRecursion (StepFine clean) ss → AllByRecursion StepTexts (due_pickle_steps ids beside ss)
steps_due ids h beside [] k = tt
steps_due ids h [] (s ∷ ss) k = (step_due ids h None s k.0, steps_due ids h [] ss k.1)
steps_due ids h (b ∷ bs) (s ∷ ss) k = (step_due ids h (Some b) s k.0, steps_due ids h bs ss k.1)

pub due_texts : (uri : Utf8) (ids : List Utf8) (beside : List PickleStep) (due : DuePickle) → IsUtf8 uri → AreTexts ids → PickleFine clean due → PickleHasTexts (due_pickle uri ids beside due)
due_texts uri ids beside due u h k = record {
  uri = u;
  name = k.0;
  language = IsUtf8-are_ascii _ refl;
  ast_node_ids = ids_texts ids h due.nodes;
  tags = all_mapped (TagFine clean) TagTexts (due_tag ids) (tag_due ids h) due.tags k.2;
  steps = steps_due ids h beside due.steps k.3;
}
