-- A scenario without placeholders compiles alike for each row.
use Rattle.std.proofs.Common.{◌≡◌, ℕ, List, [], ◌∷◌, ◌++◌, map, Option, Some, None, refl, sym, ap, ◌∙◌, arith, option_map, option_and_then}
use Rattle.std.specs.List.{flat_map, AllByRecursion}
use Rattle.std.specs.Option.{option_to_list}
use Rattle.std.proofs.lemmas.List.{map-append}
use Rattle.gk_document.specs.declared.tree.Cell.{Cell}
use Rattle.gk_document.specs.declared.tree.KeywordType.{KeywordType}
use Rattle.gk_document.specs.declared.tree.Row.{Row}
use Rattle.gk_document.specs.declared.tree.Argument.{Argument}
use Rattle.gk_document.specs.declared.tree.Argument.TheVariants as argument
use Rattle.gk_document.specs.declared.tree.Step.{Step}
use Rattle.gk_pickle.specs.declared.pickles.StepType.{StepType}
use Rattle.gk_pickle.specs.declared.pickles.PickleArgument.{PickleArgument}
use Rattle.gk_pickle.specs.declared.pickles.PickleArgument.TheVariants as value
use Rattle.gk_pickle.specs.declared.pickles.PickleStep.{PickleStep}
use Rattle.gk_pickle.specs.Inheritance.{Filling, no_filling}
use Rattle.gk_pickle.specs.Fill.{placeholder, filled_text}
use Rattle.gk_document.specs.MediaType.{unless_empty}
use Rattle.gk_pickle.specs.Steps.{type_of, filled_by, filled_row, filled_argument, steps_after, keyword_types, pickle_steps}
use Rattle.gk_pickle.specs.Pickles.{row_filling}
use Rattle.gk_pickle.specs.Alike.{argument_texts, step_texts, HasNoPlaceholder, content, RowsCompileAlike}
use Rattle.gk_pickle.proofs.Cutting.{joined_is_replaced}

same_text : (text : List ℕ) (header cells : List Cell) → HasNoPlaceholder header text → filled_text text header cells ≡ text
same_text text [] cells h = refl
same_text text (name ∷ names) [] h = refl
same_text text (name ∷ names) (cell ∷ cells) h =
    ap (λ t. filled_text t names cells) (joined_is_replaced (placeholder name.value) cell.value text text [] (omega arith) (refl, h.0)) ∙ same_text text names cells h.1

module _ {A : Type 0} (P : A → Type 0) where
  first_part : (xs ys : List A) → AllByRecursion P (xs ++ ys) → AllByRecursion P xs
  first_part [] ys h = tt
  first_part (x ∷ xs) ys h = (h.0, first_part xs ys h.1)

  last_part : (xs ys : List A) → AllByRecursion P (xs ++ ys) → AllByRecursion P ys
  last_part [] ys h = h
  last_part (x ∷ xs) ys h = last_part xs ys h.1

module _ (f : Filling) where
  abbrev Lack : List (List ℕ) → Type 0
  Lack texts = AllByRecursion (HasNoPlaceholder f.header) texts

  same_cells : (cells : List Cell) → Lack (map (λ c. c.value) cells) → map (λ c. filled_by f c.value) cells ≡ map (λ c. filled_by no_filling c.value) cells
  same_cells [] h = refl
  same_cells (c ∷ cs) h =
      ap (λ t. t ∷ map (λ (c : Cell). filled_by f c.value) cs) (same_text c.value f.header f.cells h.0) ∙ ap (λ ts. c.value ∷ ts) (same_cells cs h.1)

  same_rows : (rows : List Row) → Lack (flat_map (λ row. map (λ c. c.value) row.cells) rows) → map (filled_row f) rows ≡ map (filled_row no_filling) rows
  same_rows [] h = refl
  same_rows (row ∷ rows) h =
      let own : List (List ℕ) = map (λ (c : Cell). c.value) row.cells in
      let others : List (List ℕ) = flat_map (λ (r : Row). map (λ (c : Cell). c.value) r.cells) rows in
      ap (λ r. r ∷ map (filled_row f) rows) (same_cells row.cells (first_part (HasNoPlaceholder f.header) own others h))
      ∙ ap (λ rs. filled_row no_filling row ∷ rs) (same_rows rows (last_part (HasNoPlaceholder f.header) own others h))

  same_media : (media : Option (List ℕ)) → Lack (option_to_list media)
      → option_and_then (λ m. unless_empty (filled_by f m)) media ≡ option_and_then (λ m. unless_empty (filled_by no_filling m)) media
  same_media None h = refl
  same_media (Some m) h = ap unless_empty (same_text m f.header f.cells h.0)

  same_argument : (a : Argument) → Lack (argument_texts a) → filled_argument f a ≡ filled_argument no_filling a
  same_argument (argument.Table rows) h = ap value.Table (same_rows rows h)
  same_argument (argument.Text d) h =
      let media = same_media d.media (first_part (HasNoPlaceholder f.header) (option_to_list d.media) (d.content ∷ []) h) in
      let text = last_part (HasNoPlaceholder f.header) (option_to_list d.media) (d.content ∷ []) h in
      ap (λ m. value.Text (record { media = m; content = filled_by f d.content })) media
      ∙ ap (λ t. value.Text (record { media = option_and_then (λ m. unless_empty (filled_by no_filling m)) d.media; content = t })) (same_text d.content f.header f.cells text.0)

  same_option : (a : Option Argument) → Lack (flat_map argument_texts (option_to_list a)) → option_map (filled_argument f) a ≡ option_map (filled_argument no_filling) a
  same_option None h = refl
  same_option (Some a) h = ap Some (same_argument a (first_part (HasNoPlaceholder f.header) (argument_texts a) [] h))

  same_steps : (k : List KeywordType) (steps : List Step) → Lack (flat_map step_texts steps)
      → map content (steps_after k f steps) ≡ map content (steps_after k no_filling steps)
  same_steps k [] h = refl
  same_steps k (s ∷ ss) h =
      let own = first_part (HasNoPlaceholder f.header) (step_texts s) (flat_map step_texts ss) h in
      let others = last_part (HasNoPlaceholder f.header) (step_texts s) (flat_map step_texts ss) h in
      let k' : List KeywordType = k ++ s.kind ∷ [] in
      let rest : List (List ℕ × StepType × Option PickleArgument) = map content (steps_after k' f ss) in
      ap (λ t. (t, type_of k', option_map (filled_argument f) s.argument) ∷ rest) (same_text s.text f.header f.cells own.0)
      ∙ ap (λ a. (s.text, type_of k', a) ∷ rest) (same_option s.argument own.1)
      ∙ ap (λ r. (s.text, type_of k', option_map (filled_argument no_filling) s.argument) ∷ r) (same_steps k' ss others)

  same_pickle_steps : (background steps : List Step) → Lack (flat_map step_texts steps)
      → map content (pickle_steps background f steps) ≡ map content (pickle_steps background no_filling steps)
  same_pickle_steps background [] h = refl
  same_pickle_steps background (s ∷ ss) h =
      let before : List PickleStep = steps_after [] no_filling background in
      map-append content before (steps_after (keyword_types background) f (s ∷ ss))
      ∙ ap (λ l. map content before ++ l) (same_steps (keyword_types background) (s ∷ ss) h)
      ∙ sym (map-append content before (steps_after (keyword_types background) no_filling (s ∷ ss)))

pub rows_compile_alike : RowsCompileAlike
rows_compile_alike inherited s tags header row other h =
    let f : Filling = row_filling header row in
    let g : Filling = row_filling header other in
    record {
      name = same_text s.name f.header f.cells h.0 ∙ sym (same_text s.name g.header g.cells h.0);
      tags = refl;
      steps = same_pickle_steps f inherited.steps s.steps h.1 ∙ sym (same_pickle_steps g inherited.steps s.steps h.1);
    }
