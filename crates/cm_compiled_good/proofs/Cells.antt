-- The values of a row's cells are of scalar values.
use Rattle.std.proofs.Common.{◌≡◌, ℕ, ◌+◌, ◌==◌, ◌&&◌, List, [], ◌∷◌, Bool, true, false, cond, length, map, Option, Some, None, refl, subst}
use Rattle.std.specs.Prelude.{⊤}
use Rattle.std.specs.Char.{IsScalar}
use Rattle.std.specs.List.{AllByRecursion}
use Rattle.gk_line.specs.Cells.{CellUnit, CellText, plain_unit, unit_or, escape_meaning, units, is_bar, is_space, widths, skip_spaces, drop_spaces, cells_from, without_first, cells_of}
use Rattle.cm_compiled_good.proofs.Scalars.{Scalars, split_all}

abbrev UnitFits : CellUnit → Type 0
UnitFits u = IsScalar u.meaning

abbrev OptionFits : Option ℕ → Type 0
OptionFits None = ⊤
OptionFits (Some c) = IsScalar c

escaped_fits : (d : ℕ) (o : Option ℕ) → escape_meaning d ≡ o → OptionFits o
escaped_fits d None e = tt
escaped_fits d (Some c) e = go (d == 124) (d == 92) (d == 110) e
  where
    go : (a b n : Bool) → cond a (Some 124) (cond b (Some 92) (cond n (Some 10) None)) ≡ Some c → IsScalar c
    go true b n e = let same : 124 ≡ c = cc in subst IsScalar same refl
    go false true n e = let same : 92 ≡ c = cc in subst IsScalar same refl
    go false false true e = let same : 10 ≡ c = cc in subst IsScalar same refl
    go false false false e = cc

units_fit : (cs : List ℕ) → Scalars cs → AllByRecursion UnitFits (units cs)
unfolding units
units_fit [] h = tt
units_fit (c ∷ []) h = (h.0, tt)
units_fit (c ∷ d ∷ cs) h = go (c == 92) (escape_meaning d) refl (units_fit (d ∷ cs) h.1) (units_fit cs h.1.1)
  where
    pairs : (o : Option ℕ) → OptionFits o → AllByRecursion UnitFits (units (d ∷ cs)) → AllByRecursion UnitFits (units cs) → AllByRecursion UnitFits (unit_or o (plain_unit c ∷ units (d ∷ cs)) (units cs))
    pairs None k one two = (h.0, one)
    pairs (Some x) k one two = (k, two)

    go : (b : Bool) (o : Option ℕ) → escape_meaning d ≡ o → AllByRecursion UnitFits (units (d ∷ cs)) → AllByRecursion UnitFits (units cs)
        → AllByRecursion UnitFits (unit_or (cond b (escape_meaning d) None) (plain_unit c ∷ units (d ∷ cs)) (units cs))
    go false o e one two = pairs None tt one two
    go true o e one two = pairs (escape_meaning d) (escaped_fits d (escape_meaning d) refl) one two

skipped_fit : (us : List CellUnit) → AllByRecursion UnitFits us → AllByRecursion UnitFits (skip_spaces us)
skipped_fit [] h = tt
skipped_fit (u ∷ us) h = go (is_space u) (skipped_fit us h.1)
  where
    go : (b : Bool) → AllByRecursion UnitFits (skip_spaces us) → AllByRecursion UnitFits (cond b (skip_spaces us) (u ∷ us))
    go true k = k
    go false k = h

dropped_fit : (us : List CellUnit) → AllByRecursion UnitFits us → AllByRecursion UnitFits (drop_spaces us)
dropped_fit [] h = tt
dropped_fit (u ∷ us) h = go (is_space u && length (drop_spaces us) == 0) (dropped_fit us h.1)
  where
    go : (b : Bool) → AllByRecursion UnitFits (drop_spaces us) → AllByRecursion UnitFits (cond b [] (u ∷ drop_spaces us))
    go true k = tt
    go false k = (h.0, k)

values_fit : (us : List CellUnit) → AllByRecursion UnitFits us → Scalars (map (λ (u : CellUnit). u.meaning) us)
values_fit [] h = tt
values_fit (u ∷ us) h = (h.0, values_fit us h.1)

abbrev pub CellFits : CellText → Type 0
CellFits c = Scalars c.value

cells_fit : (column : ℕ) (ps : List (List CellUnit)) → AllByRecursion (AllByRecursion UnitFits) ps → AllByRecursion CellFits (cells_from column ps)
cells_fit column [] h = tt
cells_fit column (p ∷ []) h = tt
cells_fit column (p ∷ q ∷ more) h =
    (values_fit (drop_spaces (skip_spaces p)) (dropped_fit (skip_spaces p) (skipped_fit p h.0)), cells_fit (column + widths p + 1) (q ∷ more) h.1)

without_fit : (cs : List CellText) → AllByRecursion CellFits cs → AllByRecursion CellFits (without_first cs)
without_fit [] h = tt
without_fit (c ∷ cs) h = h.1

pub row_fits : (cs : List ℕ) → Scalars cs → AllByRecursion CellFits (cells_of cs)
unfolding cells_of
row_fits cs h = without_fit _ (cells_fit 1 _ (split_all UnitFits is_bar (units cs) (units_fit cs h)))
