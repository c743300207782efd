-- The kind and the column of a fault, by the kinds of the lines.
use Rattle.std.specs.Prelude.{ℕ, ◌+◌, Bool, true, false, not, ◌&&◌, ◌||◌, ◌==◌, List, [], ◌∷◌, if◌then◌else◌}
use Rattle.std.specs.List.{list_all}
use Rattle.gk_grammar.specs.Token.{Line, line}
use Rattle.gk_grammar.specs.declared.fault.FaultKind.{FaultKind}
use Rattle.gk_grammar.specs.declared.fault.FaultKind.TheVariants as fault
use Rattle.gk_plain.specs.declared.plain.Kind.{Kind}
use Rattle.gk_plain.specs.declared.plain.Kind.TheVariants as kind
use Rattle.gk_plain.specs.PlainLines.{is_gap_kind}

-- a row or what may be between rows
abbrev pub is_row_or_gap_kind : Kind → Bool
is_row_or_gap_kind (kind.Row count) = true
is_row_or_gap_kind k = is_gap_kind k

-- a row with another count of cells
abbrev pub is_other_row : ℕ → Kind → Bool
is_other_row count (kind.Row other) = not (other == count)
is_other_row count _ = false

-- a row with another count is among the lines, with nothing but rows, comments and blank lines after it
abbrev pub differs : ℕ → List Kind → Bool
differs count [] = false
differs count (k ∷ ks) =
    (is_other_row count k && list_all is_row_or_gap_kind ks) || differs count ks

abbrev pub row_fault : List Kind → ℕ → FaultKind
row_fault before count = if differs count before then fault.CellCount else fault.Unexpected

-- the kind of the fault at a line, by its kind and those of the lines before it
abbrev pub fault_kind : List Kind → Kind → FaultKind
fault_kind before (kind.SpacedTag column) = fault.TagSpace
fault_kind before kind.English = fault.UnsupportedLanguage
fault_kind before kind.OtherLanguage = fault.UnsupportedLanguage
fault_kind before (kind.Row count) = row_fault before count
fault_kind before _ = fault.Unexpected

-- the column of the first character after the indent
abbrev pub first_column : Line → ℕ
first_column (line n t i k) = i + 1

-- the column of the fault at a line with this first column
abbrev pub fault_column : Kind → ℕ → ℕ
fault_column (kind.SpacedTag column) first = column
fault_column _ first = first
