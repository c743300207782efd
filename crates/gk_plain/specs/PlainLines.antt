-- Which kinds of lines the parts are that are cut no further.
use Rattle.std.specs.Prelude.{ℕ, Bool, true, false, not, ◌&&◌, ◌==◌, List, [], ◌∷◌, Option, Some, None, if◌then◌else◌}
use Rattle.std.specs.List.{list_all}
use Rattle.gk_line.specs.declared.tokens.Block.{Block}
use Rattle.gk_line.specs.declared.tokens.Block.TheVariants as block
use Rattle.gk_document.specs.declared.tree.Fence.{Fence}
use Rattle.gk_document.specs.declared.tree.Fence.TheVariants as fence
use Rattle.gk_plain.specs.declared.plain.Kind.{Kind}
use Rattle.gk_plain.specs.declared.plain.Kind.TheVariants as kind
use Rattle.gk_plain.specs.declared.plain.Part.{Part}
use Rattle.gk_plain.specs.declared.plain.Part.TheVariants as part

-- a comment or a blank line
abbrev pub is_gap_kind : Kind → Bool
is_gap_kind kind.Blank = true
is_gap_kind kind.Comment = true
is_gap_kind kind.English = true
is_gap_kind kind.OtherLanguage = true
is_gap_kind _ = false

-- the same, but no language line
abbrev pub is_plain : Kind → Bool
is_plain kind.Blank = true
is_plain kind.Comment = true
is_plain _ = false

-- the line ends a description of the block
abbrev pub kind_stops : Block → Kind → Bool
kind_stops b kind.Tags = true
kind_stops b (kind.SpacedTag column) = true
kind_stops b (kind.Title block.Feature) = false
kind_stops b (kind.Title block.Rule) = true
kind_stops b (kind.Title block.Scenario) = true
kind_stops block.Feature (kind.Title block.Background) = true
kind_stops block.Rule (kind.Title block.Background) = true
kind_stops block.Scenario (kind.Title block.Examples) = true
kind_stops block.Examples (kind.Title block.Examples) = true
kind_stops block.Background kind.Step = true
kind_stops block.Scenario kind.Step = true
kind_stops block.Examples (kind.Row count) = true
kind_stops _ _ = false

abbrev pub is_text : Block → Kind → Bool
is_text b k = not (kind_stops b k)

abbrev pub same_block : Block → Block → Bool
same_block block.Feature block.Feature = true
same_block block.Rule block.Rule = true
same_block block.Background block.Background = true
same_block block.Scenario block.Scenario = true
same_block block.Examples block.Examples = true
same_block _ _ = false

abbrev pub is_title : Block → Kind → Bool
is_title b (kind.Title c) = same_block c b
is_title b _ = false

abbrev pub is_fence_kind : Fence → Kind → Bool
is_fence_kind fence.Quotes (kind.Fenced fence.Quotes) = true
is_fence_kind fence.Backticks (kind.Fenced fence.Backticks) = true
is_fence_kind _ _ = false

-- the line that a part of one line begins with
abbrev pub begins : Part → Kind → Bool
begins part.EnglishLine kind.English = true
begins part.TagLine kind.Tags = true
begins part.StepLine kind.Step = true
begins (part.Row count) (kind.Row other) = other == count
begins _ _ = false

-- a line, and the gap after it
abbrev pub is_line : Part → List Kind → Bool
is_line p [] = false
is_line p (k ∷ ks) = begins p k && list_all is_gap_kind ks

-- a title line, and the text after it
abbrev pub is_heading : Block → List Kind → Bool
is_heading b [] = false
is_heading b (k ∷ ks) = is_title b k && list_all (is_text b) ks

-- up to the first line that begins with the fence, and the gap after it
abbrev pub closes : Fence → List Kind → Bool
closes f [] = false
closes f (k ∷ ks) = if is_fence_kind f k then list_all is_gap_kind ks else closes f ks

abbrev pub is_doc_string : List Kind → Bool
is_doc_string (kind.Fenced f ∷ ks) = closes f ks
is_doc_string _ = false

-- the kinds are those of the part's lines
abbrev pub are_lines : Part → List Kind → Bool
are_lines part.PlainGap ks = list_all is_plain ks
are_lines part.DocString ks = is_doc_string ks
are_lines (part.Heading b) ks = is_heading b ks
are_lines p ks = is_line p ks

-- how many cells the first line has, if it is a row
abbrev pub row_count : List Kind → Option ℕ
row_count (kind.Row count ∷ ks) = Some count
row_count _ = None
