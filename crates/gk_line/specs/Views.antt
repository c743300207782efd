-- The lines and tokens that the code returns, with their texts as lists of characters.
use Rattle.std.specs.Prelude.{ℕ, ◌≡◌, ⊤, List, Option, Some}
use Rattle.std.specs.Option.{option_map}
use Rattle.gk_line.specs.declared.tags_and_comments.TagFault.{TagFault}
use Rattle.gk_line.specs.declared.tags_and_comments.TagFault.TheVariants.{TagSpace, Memory}
use Rattle.std.specs.Str.{chars}
use Rattle.gk_line.specs.Cells.{CellText}
use Rattle.gk_line.specs.Tags.{TagWord}
use Rattle.gk_document.specs.declared.tree.Cell.{Cell}
use Rattle.gk_line.specs.declared.tags_and_comments.TagText.{TagText}
use Rattle.gk_line.specs.Tokens.{TitleText, StepText, FenceText}
use Rattle.gk_line.specs.declared.tokens.Line.{Line}
use Rattle.gk_line.specs.declared.tokens.Title.{Title}
use Rattle.gk_line.specs.declared.tokens.StepLine.{StepLine}
use Rattle.gk_line.specs.declared.tokens.FenceLine.{FenceLine}

abbrev pub line_chars : Line → List ℕ
line_chars line = chars line.text.now

abbrev pub numbered_line : Line → ℕ × List ℕ
numbered_line line = (line.number, chars line.text.now)

abbrev pub title_text : Title → TitleText
title_text t = record { keyword = chars t.keyword.now; name = chars t.name.now; column = t.column }

abbrev pub step_text : StepLine → StepText
step_text s = record {
  keyword = chars s.keyword.now;
  kind = s.kind;
  text = chars s.text.now;
  column = s.column;
}

abbrev pub fence_text : FenceLine → FenceText
fence_text f = record { fence = f.fence; media = chars f.media.now; column = f.column }

abbrev pub cell_text : Cell → CellText
cell_text c = record { value = chars (c.value); column = c.column }

abbrev pub tag_word : TagText → TagWord
tag_word t = record { word = chars t.word.now; column = t.column }

-- the fault names the column of the first piece with white space in it; want of memory says nothing of the line
abbrev pub IsTagFault : TagFault → Option TagWord → Type 0
IsTagFault (TagSpace column) piece = option_map (λ p. p.column) piece ≡ Some column
IsTagFault Memory piece = ⊤
