-- Sources and pickles are read back.
use Rattle.std.proofs.Common.{◌≡◌, ℕ, ◌+◌, List, [], ◌∷◌, map, Option, Some, None, Ok, refl, codes, decimal}
use Rattle.serde_json.specs.Data.{string}
use Rattle.serde_json.specs.Find.{as_str}
use Rattle.serde_json.specs.View.{items_of}
use Rattle.gk_pickle.specs.declared.pickles.StepType.{StepType}
use Rattle.gk_pickle.specs.declared.pickles.StepType.TheVariants.{Unknown, Context, Action, Outcome}
use Rattle.gk_pickle.specs.declared.pickles.PickleTag.{PickleTag}
use Rattle.gk_pickle.specs.declared.pickles.PickleDocString.{PickleDocString}
use Rattle.gk_pickle.specs.declared.pickles.PickleArgument.{PickleArgument}
use Rattle.gk_pickle.specs.declared.pickles.PickleArgument.TheVariants.{Table, Text}
use Rattle.gk_pickle.specs.declared.pickles.PickleStep.{PickleStep}
use Rattle.gk_pickle.specs.declared.pickles.Pickle.{Pickle}
use Rattle.cm_messages.specs.Layout.{id_data}
use Rattle.cm_messages.specs.SourceLayout.{source_data}
use Rattle.cm_messages.specs.PickleLayout.{type_word, pickle_cell_data, pickle_row_data, pickle_tag_data, pickle_doc_string_data, pickle_step_data, pickle_steps_data, pickle_data}
use Rattle.cm_envelope.specs.declared.envelope.Envelope.TheVariants as envelope
use Rattle.cm_envelope.specs.Reading.{envelope_of}
use Rattle.cm_envelope.specs.Member.{each, object_in, good}
use Rattle.cm_envelope.specs.Pickles.{as_step_kind, pickle_tag, pickle_cell, pickle_row, pickle_doc_string, pickle_step}
use Rattle.cm_read_back.specs.Laws.{SourceIsReadBack, PickleIsReadBack}
use Rattle.cm_read_back.proofs.Depths.{source_depth, pickle_depth}
use Rattle.cm_read_back.proofs.Lines.{read_as}
use Rattle.cm_read_back.proofs.Lists.{each_is}
use Rattle.cm_read_back.proofs.Orders.{source_order, pickle_order}
use Rattle.cm_read_back.specs.Pickles.{source_read, pickle_read, kind_read, tag_read, cell_read, row_read, doc_string_read, step_read, steps_read}

source_value_is : (uri text : List ℕ) → envelope_of (source_data uri text) ≡ Ok (envelope.Source (source_read uri text))
unfolding source_data
source_value_is uri text = refl

pub source_is : SourceIsReadBack
source_is uri text = read_as (source_data uri text) _ (source_value_is uri text) (source_depth uri text) (source_order uri text)

-- ---- lists

ids_are : (name : List ℕ) (ns : List ℕ) → each (λ e. good name (as_str e)) (items_of (map id_data ns)) ≡ Ok (map decimal ns)
ids_are name ns = each_is (λ e. good name (as_str e)) id_data decimal (λ n. refl) ns

tags_are : (ts : List PickleTag) → each (object_in (codes "tags") pickle_tag) (items_of (map pickle_tag_data ts)) ≡ Ok (map tag_read ts)
tags_are ts = each_is (object_in (codes "tags") pickle_tag) pickle_tag_data tag_read (λ t. refl) ts

cells_are : (cs : List (List ℕ)) → each (object_in (codes "cells") pickle_cell) (items_of (map pickle_cell_data cs)) ≡ Ok (map cell_read cs)
cells_are cs = each_is (object_in (codes "cells") pickle_cell) pickle_cell_data cell_read (λ c. refl) cs

rows_are : (rs : List (List (List ℕ))) → each (object_in (codes "rows") pickle_row) (items_of (map pickle_row_data rs)) ≡ Ok (map row_read rs)
rows_are rs = each_is (object_in (codes "rows") pickle_row) pickle_row_data row_read (λ r. rw (cells_are r) refl) rs

-- ---- steps

doc_string_at : (d : PickleDocString) (m : Option (List ℕ)) → pickle_doc_string (pickle_doc_string_data (record d { media = m })) ≡ Ok (doc_string_read (record d { media = m }))
doc_string_at d None = refl
doc_string_at d (Some []) = refl
doc_string_at d (Some (c ∷ cs)) = refl

kind_is : (k : StepType) → as_step_kind (string (type_word k)) ≡ Some (kind_read k)
kind_is Unknown = refl
kind_is Context = refl
kind_is Action = refl
kind_is Outcome = refl

step_at : (id : ℕ) (s : PickleStep) (a : Option PickleArgument) →
    object_in (codes "steps") pickle_step (pickle_step_data id (record s { argument = a })) ≡ Ok (step_read id (record s { argument = a }))
step_at id s None = rw (kind_is s.kind, ids_are (codes "astNodeIds") s.nodes) refl
step_at id s (Some (Table rows)) = rw (kind_is s.kind, ids_are (codes "astNodeIds") s.nodes, rows_are rows) refl
step_at id s (Some (Text d)) = rw (kind_is s.kind, ids_are (codes "astNodeIds") s.nodes, doc_string_at d d.media) refl

steps_are : (id : ℕ) (ss : List PickleStep) → each (object_in (codes "steps") pickle_step) (items_of (pickle_steps_data id ss)) ≡ Ok (steps_read id ss)
steps_are id [] = refl
steps_are id (s ∷ ss) = rw (step_at id s s.argument, steps_are (id + 1) ss) refl

pickle_value_is : (uri : List ℕ) (first : ℕ) (p : Pickle) → envelope_of (pickle_data uri first p) ≡ Ok (envelope.Pickle (pickle_read uri first p))
unfolding pickle_data
pickle_value_is uri first p = rw (ids_are (codes "astNodeIds") p.nodes, tags_are p.tags, steps_are first p.steps) refl

pub pickle_is : PickleIsReadBack
pickle_is uri first p = read_as (pickle_data uri first p) _ (pickle_value_is uri first p) (pickle_depth uri first p) (pickle_order uri first p)
