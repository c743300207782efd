-- What is written of tags, rows, comments and steps is plain.
use Rattle.std.proofs.Common.{ℕ, List, [], ◌∷◌, map, Option, Some, None, IsUtf8, refl}
use Rattle.std.specs.List.{AllByRecursion}
use Rattle.json.proofs.Printed.Utf8.{IsUtf8-are_ascii}
use Rattle.serde_json.specs.View.{items_of}
use Rattle.gk_document.specs.declared.tree.Cell.{Cell}
use Rattle.gk_document.specs.declared.tree.Fence.{Fence}
use Rattle.gk_document.specs.declared.tree.Fence.TheVariants as fence
use Rattle.gk_document.specs.declared.tree.KeywordType.{KeywordType}
use Rattle.gk_document.specs.declared.tree.KeywordType.TheVariants as keyword
use Rattle.gk_document.specs.declared.tree.Location.{Location}
use Rattle.gk_document.specs.declared.tree.Tag.{Tag}
use Rattle.gk_document.specs.declared.tree.Row.{Row}
use Rattle.gk_document.specs.declared.tree.DocString.{DocString}
use Rattle.gk_document.specs.declared.tree.Argument.{Argument}
use Rattle.gk_document.specs.declared.tree.Argument.TheVariants.{Table, Text}
use Rattle.gk_document.specs.declared.tree.Step.{Step}
use Rattle.gk_document.specs.declared.tree.Comment.{Comment}
use Rattle.gk_document.specs.Fences.{fence_characters}
use Rattle.cm_messages.specs.DocumentLayout.{location_data, cell_data, row_data, tag_data, comment_data, doc_string_data, table_place, table_data, keyword_word, step_data}
use Rattle.cm_read_back.specs.Values.{IsPlain, ItemsArePlain}
use Rattle.cm_compiled_good.proofs.Clean.{CommentOk}
use Rattle.cm_compiled_good.proofs.Fine.{Fits64, clean, TagOf, CellOf, RowOf, MediaOf, StepOf}
use Rattle.cm_compiled_good.proofs.Plain.{decimal_utf8, items_plain}

-- ---- parts

pub place_plain : (l : Location) → Fits64 l.line × Fits64 l.column → IsPlain (location_data l)
place_plain l h = (IsUtf8-are_ascii _ refl, h.1, (IsUtf8-are_ascii _ refl, h.0, tt))

cell_plain : (line : ℕ) (c : Cell) → CellOf clean line c → IsPlain (cell_data line c)
cell_plain line c h = (IsUtf8-are_ascii _ refl, place_plain (record { line = line; column = c.column }) h.1, (IsUtf8-are_ascii _ refl, h.0, tt))

pub row_plain : (r : Row) → RowOf clean r → IsPlain (row_data r)
row_plain r h = (
  IsUtf8-are_ascii _ refl,
  items_plain (CellOf clean r.location.line) (cell_data r.location.line) (cell_plain r.location.line) r.cells h.2,
  (IsUtf8-are_ascii _ refl, decimal_utf8 r.node, (IsUtf8-are_ascii _ refl, place_plain r.location h.1, tt)),
)

tag_plain : (t : Tag) → TagOf clean t → IsPlain (tag_data t)
tag_plain t h = (IsUtf8-are_ascii _ refl, decimal_utf8 t.node, (IsUtf8-are_ascii _ refl, place_plain t.location h.2, (IsUtf8-are_ascii _ refl, h.1, tt)))

pub tags_plain : (ts : List Tag) → AllByRecursion (TagOf clean) ts → ItemsArePlain (items_of (map tag_data ts))
tags_plain ts h = items_plain (TagOf clean) tag_data tag_plain ts h

pub rows_plain : (rs : List Row) → AllByRecursion (RowOf clean) rs → ItemsArePlain (items_of (map row_data rs))
rows_plain rs h = items_plain (RowOf clean) row_data row_plain rs h

pub comment_plain : (c : Comment) → CommentOk c → IsPlain (comment_data c)
comment_plain c h = (IsUtf8-are_ascii _ refl, place_plain c.location (h.1, h.2), (IsUtf8-are_ascii _ refl, h.0, tt))

-- ---- steps

fence_utf8 : (f : Fence) → IsUtf8 (fence_characters f)
fence_utf8 fence.Quotes = IsUtf8-are_ascii _ refl
fence_utf8 fence.Backticks = IsUtf8-are_ascii _ refl

doc_string_plain : (d : DocString) (m : Option (List ℕ)) → Fits64 d.location.line × Fits64 d.location.column → MediaOf clean m → IsUtf8 d.content → IsPlain (doc_string_data (record d { media = m }))
doc_string_plain d None p h k = (IsUtf8-are_ascii _ refl, k, (IsUtf8-are_ascii _ refl, fence_utf8 d.fence, (IsUtf8-are_ascii _ refl, place_plain d.location p, tt)))
doc_string_plain d (Some []) p h k = (IsUtf8-are_ascii _ refl, k, (IsUtf8-are_ascii _ refl, fence_utf8 d.fence, (IsUtf8-are_ascii _ refl, place_plain d.location p, tt)))
doc_string_plain d (Some (b ∷ bs)) p h k =
    (IsUtf8-are_ascii _ refl, k, (IsUtf8-are_ascii _ refl, fence_utf8 d.fence, (IsUtf8-are_ascii _ refl, place_plain d.location p, (IsUtf8-are_ascii _ refl, h, tt))))

table_placed : (p : Location) (rs : List Row) → Fits64 p.line × Fits64 p.column → AllByRecursion (RowOf clean) rs → IsPlain (location_data (table_place p rs))
table_placed p [] h k = place_plain p h
table_placed p (r ∷ rs) h k = place_plain r.location k.0.1

table_plain : (p : Location) (rs : List Row) → Fits64 p.line × Fits64 p.column → AllByRecursion (RowOf clean) rs → IsPlain (table_data p rs)
table_plain p rs h k = (IsUtf8-are_ascii _ refl, table_placed p rs h k, (IsUtf8-are_ascii _ refl, rows_plain rs k, tt))

word_utf8 : (k : KeywordType) → IsUtf8 (keyword_word k)
word_utf8 keyword.Unknown = IsUtf8-are_ascii _ refl
word_utf8 keyword.Context = IsUtf8-are_ascii _ refl
word_utf8 keyword.Action = IsUtf8-are_ascii _ refl
word_utf8 keyword.Outcome = IsUtf8-are_ascii _ refl
word_utf8 keyword.Conjunction = IsUtf8-are_ascii _ refl

step_at : (s : Step) (a : Option Argument) → StepOf clean (record s { argument = a }) → IsPlain (step_data (record s { argument = a }))
step_at s None h = (
  IsUtf8-are_ascii _ refl,
  decimal_utf8 s.node,
  (IsUtf8-are_ascii _ refl, h.2, (IsUtf8-are_ascii _ refl, word_utf8 s.kind, (IsUtf8-are_ascii _ refl, place_plain s.location h.1, (IsUtf8-are_ascii _ refl, h.3, tt)))),
)
step_at s (Some (Table rows)) h = (
  IsUtf8-are_ascii _ refl,
  table_plain s.location rows h.1 h.4,
  (
    IsUtf8-are_ascii _ refl,
    decimal_utf8 s.node,
    (IsUtf8-are_ascii _ refl, h.2, (IsUtf8-are_ascii _ refl, word_utf8 s.kind, (IsUtf8-are_ascii _ refl, place_plain s.location h.1, (IsUtf8-are_ascii _ refl, h.3, tt)))),
  ),
)
step_at s (Some (Text d)) h =
    let doc = h.4 in (
      IsUtf8-are_ascii _ refl,
      doc_string_plain d d.media doc.0 doc.1 doc.2,
      (
        IsUtf8-are_ascii _ refl,
        decimal_utf8 s.node,
        (IsUtf8-are_ascii _ refl, h.2, (IsUtf8-are_ascii _ refl, word_utf8 s.kind, (IsUtf8-are_ascii _ refl, place_plain s.location h.1, (IsUtf8-are_ascii _ refl, h.3, tt)))),
      ),
    )

step_plain : (s : Step) → StepOf clean s → IsPlain (step_data s)
step_plain s h = step_at s s.argument h

pub steps_plain : (ss : List Step) → AllByRecursion (StepOf clean) ss → ItemsArePlain (items_of (map step_data ss))
steps_plain ss h = items_plain (StepOf clean) step_data step_plain ss h
