-- A row cut at its bars.
use Rattle.std.proofs.Common.{◌≡◌, ℕ, ◌+◌, Bool, true, false, cond, List, [], ◌∷◌, ◌++◌, Option, Some, None, sym, refl, ap, ◌∙◌, subst, arith}
use Rattle.std.specs.Prelude.{◌==◌, ◌&&◌, not, map, codes, is_some}
use Rattle.std.specs.Char.{is_whitespace}
use Rattle.std.specs.List.{AllByRecursion, flat_map, list_all, slice_split}
use Rattle.std.specs.Str.{skip_leading_whitespace}
use Rattle.std.proofs.lemmas.Bool.{eqb-true, ne_eqb, false≢true}
use Rattle.std.proofs.lemmas.List.{append_assoc}
use Rattle.gk_line.specs.Cells.{CellUnit, plain_unit, units, is_bar, is_space, widths, CellText, cell_at, cells_from, cells_of, without_first, NoBar, IsCutAtBar}
use Rattle.gk_line.specs.Characters.{backslash, vertical_bar}
use Rattle.gk_line.specs.Texts.{after, text_after_indent}
use Rattle.gk_line.specs.Tokens.{begins_by}
use Rattle.gk_line.proofs.PlaceLemmas.{skip-split}
use Rattle.gk_line.proofs.TagLemmas.{test_cases}
use Rattle.gk_line.proofs.TextLemmas.{and_true, after-some}
use Rattle.gk_line.proofs.UnitLemmas.{units-other, cells-cut, cells-none}
use Rattle.gk_laws.specs.Rows.{unit_text, bar, closed_cell, IsRowCut, cells_after, RowsAreCut, RowCutIsOne, CellsAreCut}
use Rattle.gk_laws.proofs.Units.{writes}

-- ---- every row is cut

-- white space before a bar is units by themselves
indent_units : (gap rest : List ℕ) → list_all is_whitespace gap ≡ true → units (gap ++ vertical_bar ∷ rest) ≡ map plain_unit gap ++ bar ∷ units rest
indent_units [] rest h = units-other vertical_bar rest refl
indent_units (c ∷ gap) rest h =
    let both = and_true _ _ h in
    let other : (c == backslash) ≡ false = ne_eqb c backslash (λ e. absurd (false≢true (ap is_whitespace (sym e) ∙ both.0))) in
    units-other c (gap ++ vertical_bar ∷ rest) other ∙ ap (λ q. plain_unit c ∷ q) (indent_units gap rest both.1)

indent_spaces : (gap : List ℕ) → list_all is_whitespace gap ≡ true → list_all is_space (map plain_unit gap) ≡ true
indent_spaces [] h = refl
indent_spaces (c ∷ gap) h =
    let both = and_true _ _ h in
    ap (λ b. b && list_all is_space (map plain_unit gap)) both.0 ∙ indent_spaces gap both.1

is_the_bar : (u : CellUnit) → is_bar u ≡ true → u ≡ bar
is_the_bar u h = by_pair u.is_pair u.meaning h where
  by_pair : (b : Bool) (m : ℕ) → (not b && m == vertical_bar) ≡ true → ◌≡◌ {A = CellUnit} (record { meaning = m; is_pair = b }) bar
  by_pair true m e = absurd (false≢true e)
  by_pair false m e = ap plain_unit (eqb-true m vertical_bar e)

-- cells that a bar follows, and a rest
abbrev HasCells : List CellUnit → Type 0
HasCells us =
    (cells : List (List CellUnit)) × (rest : List CellUnit) × (us ≡ flat_map closed_cell cells ++ rest)
    × AllByRecursion NoBar cells × NoBar rest

has_cells : (us : List CellUnit) → HasCells us
has_cells [] = ([], [], refl, tt, tt)
has_cells (u ∷ us) = test_cases (is_bar u) (λ e. ends (is_the_bar u e) (has_cells us)) (λ e. grows e (has_cells us)) where
  ends : u ≡ bar → HasCells us → HasCells (u ∷ us)
  ends is (cells, rest, whole, none, last) = ([] ∷ cells, rest, ap (λ q. q ∷ us) is ∙ ap (λ q. bar ∷ q) whole, (tt, none), last)

  grows : is_bar u ≡ false → HasCells us → HasCells (u ∷ us)
  grows e ([], rest, whole, none, last) = ([], u ∷ rest, ap (λ q. u ∷ q) whole, tt, (e, last))
  grows e (cell ∷ cells, rest, whole, none, last) = ((u ∷ cell) ∷ cells, rest, ap (λ q. u ∷ q) whole, ((e, none.0), none.1), last)

abbrev IsCutRow : List ℕ → Type 0
IsCutRow line =
    (indent : List CellUnit) × (cells : List (List CellUnit)) × (rest : List CellUnit)
    × IsRowCut (units line) indent cells rest

cut_row : (line gap rest : List ℕ) → line ≡ gap ++ vertical_bar ∷ rest → list_all is_whitespace gap ≡ true → IsCutRow line
cut_row line gap rest parts space =
    let cells = has_cells (units rest) in (
      map plain_unit gap,
      cells.0,
      cells.1,
      record {
        whole = ap units parts ∙ indent_units gap rest space ∙ ap (λ q. map plain_unit gap ++ bar ∷ q) cells.2;
        is_indent = indent_spaces gap space;
        no_bar_in_cells = cells.3;
        no_bar_in_rest = cells.4;
      },
    )

row_is_cut : (line : List ℕ) → begins_by (codes "|") line ≡ true → IsCutRow line
unfolding begins_by text_after_indent
row_is_cut line h = by_option (after (codes "|") (skip_leading_whitespace line)) refl h where
  by_option : (o : Option (List ℕ)) → after (codes "|") (skip_leading_whitespace line) ≡ o → is_some o ≡ true → IsCutRow line
  by_option None is e = absurd (false≢true e)
  by_option (Some rest) is e =
      let front = skip-split line in
      cut_row line front.0 rest (front.1 ∙ ap (λ q. front.0 ++ q) (after-some (codes "|") (skip_leading_whitespace line) rest is)) front.2

-- ---- what is cut so is a row

skip_indent : (us more : List CellUnit) → list_all is_space us ≡ true → skip_leading_whitespace (flat_map unit_text (us ++ bar ∷ more)) ≡ vertical_bar ∷ flat_map unit_text more
skip_indent [] more h = refl
skip_indent (u ∷ us) more h =
    let both = and_true _ _ h in
    by_pair u.is_pair u.meaning both.0 (skip_indent us more both.1) where
      by_pair : (b : Bool) (m : ℕ) → (not b && is_whitespace m) ≡ true → skip_leading_whitespace (flat_map unit_text (us ++ bar ∷ more)) ≡ vertical_bar ∷ flat_map unit_text more
          → skip_leading_whitespace (unit_text (record { meaning = m; is_pair = b }) ++ flat_map unit_text (us ++ bar ∷ more)) ≡ vertical_bar ∷ flat_map unit_text more
      by_pair true m e later = absurd (false≢true e)
      by_pair false m e later =
          let text = flat_map unit_text (us ++ bar ∷ more) in
          ap (λ b. cond b (skip_leading_whitespace text) (m ∷ text)) e ∙ later

cut_is_row : (line : List ℕ) → IsCutRow line → begins_by (codes "|") line ≡ true
unfolding begins_by text_after_indent after
cut_is_row line (indent, cells, rest, row) =
    let more = flat_map closed_cell cells ++ rest in
    let body : skip_leading_whitespace line ≡ vertical_bar ∷ flat_map unit_text more =
    ap skip_leading_whitespace (sym (writes line) ∙ ap (flat_map unit_text) row.whole) ∙ skip_indent indent more row.is_indent in
    ap (λ q. is_some (after (codes "|") q)) body

pub rows_are_cut : RowsAreCut
rows_are_cut line = (row_is_cut line, cut_is_row line)

-- ---- in one way only

no_bar_in_indent : (us : List CellUnit) → list_all is_space us ≡ true → NoBar us
no_bar_in_indent [] h = tt
no_bar_in_indent (u ∷ us) h =
    let both = and_true _ _ h in
    (by_pair u.is_pair u.meaning both.0, no_bar_in_indent us both.1) where
      by_pair : (b : Bool) (m : ℕ) → (not b && is_whitespace m) ≡ true → (not b && m == vertical_bar) ≡ false
      by_pair true m e = refl
      by_pair false m e = ne_eqb m vertical_bar (λ is. absurd (false≢true (ap is_whitespace (sym is) ∙ e)))

no_bar_first : (u : CellUnit) → is_bar u ≡ false → bar ≡ u → ⊥
no_bar_first u h e = false≢true (sym h ∙ ap is_bar (sym e))

first_bar : (a b x y : List CellUnit) → NoBar a → NoBar b → a ++ bar ∷ x ≡ b ++ bar ∷ y → (a ≡ b) × (x ≡ y)
first_bar [] [] x y na nb e = (refl, cc)
first_bar [] (v ∷ b) x y na nb e = absurd (no_bar_first v nb.0 (cc))
first_bar (u ∷ a) [] x y na nb e = absurd (no_bar_first u na.0 (cc))
first_bar (u ∷ a) (v ∷ b) x y na nb e =
    let first : u ≡ v = cc in
    let later : a ++ bar ∷ x ≡ b ++ bar ∷ y = cc in
    let same = first_bar a b x y na.1 nb.1 later in
    (ap (λ q. q ∷ a) first ∙ ap (λ q. v ∷ q) same.0, same.1)

one_cell : (cell : List CellUnit) (cells : List (List CellUnit)) (rest : List CellUnit) → flat_map closed_cell (cell ∷ cells) ++ rest ≡ cell ++ bar ∷ (flat_map closed_cell cells ++ rest)
one_cell cell cells rest = append_assoc (closed_cell cell) (flat_map closed_cell cells) rest ∙ append_assoc cell (bar ∷ []) (flat_map closed_cell cells ++ rest)

bar_inside : (front back : List CellUnit) → NoBar (front ++ bar ∷ back) → ⊥
bar_inside [] back h = false≢true (sym h.0)
bar_inside (u ∷ front) back h = bar_inside front back h.1

same_cells : (cells others : List (List CellUnit)) (rest other_rest : List CellUnit) → AllByRecursion NoBar cells → AllByRecursion NoBar others → NoBar rest → NoBar other_rest
    → flat_map closed_cell cells ++ rest ≡ flat_map closed_cell others ++ other_rest → (cells ≡ others) × (rest ≡ other_rest)
same_cells [] [] rest other_rest nc nd nr ns e = (refl, e)
same_cells [] (d ∷ others) rest other_rest nc nd nr ns e =
    absurd (bar_inside d (flat_map closed_cell others ++ other_rest) (subst NoBar (e ∙ one_cell d others other_rest) nr))
same_cells (c ∷ cells) [] rest other_rest nc nd nr ns e =
    absurd (bar_inside c (flat_map closed_cell cells ++ rest) (subst NoBar (sym e ∙ one_cell c cells rest) ns))
same_cells (c ∷ cells) (d ∷ others) rest other_rest nc nd nr ns e =
    let first = first_bar c d _ _ nc.0 nd.0 (sym (one_cell c cells rest) ∙ e ∙ one_cell d others other_rest) in
    let later = same_cells cells others rest other_rest nc.1 nd.1 nr ns first.1 in
    (ap (λ q. q ∷ cells) first.0 ∙ ap (λ q. d ∷ q) later.0, later.1)

pub row_cut_is_one : RowCutIsOne
row_cut_is_one row indent other_indent cells other_cells rest other_rest a b =
    let first = first_bar indent other_indent _ _ (no_bar_in_indent indent a.is_indent) (no_bar_in_indent other_indent b.is_indent) (sym a.whole ∙ b.whole) in
    let later = same_cells cells other_cells rest other_rest a.no_bar_in_cells b.no_bar_in_cells a.no_bar_in_rest b.no_bar_in_rest first.1 in
    (first.0, later.0, later.1)

-- ---- the cells

-- the cells from a column on
abbrev cells_at : ℕ → List (List CellUnit) → List CellText
cells_at column [] = []
cells_at column (cell ∷ cells) = cell_at column cell ∷ cells_at (column + widths cell + 1) cells

cells_from_cut : (column : ℕ) (cells : List (List CellUnit)) (rest : List CellUnit) → AllByRecursion NoBar cells → NoBar rest → cells_from column (slice_split is_bar (flat_map closed_cell cells ++ rest)) ≡ cells_at column cells
cells_from_cut column [] rest nc nr = cells-none column rest nr
cells_from_cut column (cell ∷ cells) rest nc nr =
    let more = flat_map closed_cell cells ++ rest in
    cells-cut column (flat_map closed_cell (cell ∷ cells) ++ rest) cell more (record { parts = one_cell cell cells rest; first = nc.0 })
    ∙ ap (λ q. cell_at column cell ∷ q) (cells_from_cut (column + widths cell + 1) cells rest nc.1 nr)

widths-append : (us vs : List CellUnit) → widths (us ++ vs) ≡ widths us + widths vs
widths-append [] vs = omega arith
widths-append (u ∷ us) vs = omega (arith, widths-append us vs)

cells_after_at : (before : List CellUnit) (cells : List (List CellUnit)) → cells_after before cells ≡ cells_at (widths before + 1) cells
cells_after_at before [] = refl
cells_after_at before (cell ∷ cells) =
    let next : widths (before ++ closed_cell cell) + 1 ≡ widths before + 1 + widths cell + 1 = omega (arith, widths-append before (closed_cell cell), widths-append cell (bar ∷ [])) in
    ap (λ q. cell_at (widths before + 1) cell ∷ q) (cells_after_at (before ++ closed_cell cell) cells ∙ ap (λ n. cells_at n cells) next)

pub cells_are_cut : CellsAreCut
unfolding cells_of
cells_are_cut line indent cells rest row =
    let more = flat_map closed_cell cells ++ rest in
    let cut : IsCutAtBar (units line) indent more = record { parts = row.whole; first = no_bar_in_indent indent row.is_indent } in
    let start : 1 + widths indent + 1 ≡ widths (closed_cell indent) + 1 = omega (arith, widths-append indent (bar ∷ [])) in
    ap without_first (cells-cut 1 (units line) indent more cut)
    ∙ cells_from_cut (1 + widths indent + 1) cells rest row.no_bar_in_cells row.no_bar_in_rest
    ∙ ap (λ n. cells_at n cells) start ∙ sym (cells_after_at (closed_cell indent) cells)
