-- What the parser's values are in the machine's terms.
use Rattle.std.specs.Prelude.{◌≡◌, ℕ, Bool, true, false, List, map, Result, Ok, Err, ◌⊎◌}
use Rattle.std.specs.Str.{chars, encode_utf8_all}
use Rattle.gk_line.specs.Views.{line_chars, numbered_line, tag_word, title_text, step_text, fence_text}
use Rattle.gk_grammar.specs.declared.fault.FaultKind.TheVariants as kind
use Rattle.gk_grammar.specs.Token as read
use Rattle.gk_grammar.specs.Token.{Utf8, line, line_of, tag_text, title_token, step_token, fence_token}
use Rattle.gk_grammar.specs.Machine as machine
use Rattle.gk_grammar.specs.Machine.{State, PlacedFault}
use Rattle.gk_line.specs.declared.tags_and_comments.TagText.{TagText}
use Rattle.gk_tree.specs.declared.fault.ParseFault.{ParseFault}
use Rattle.gk_tree.specs.declared.token.IndentedLine.{IndentedLine}
use Rattle.gk_tree.specs.declared.token.Token.{Token}
use Rattle.gk_tree.specs.declared.token.Token.TheVariants as token
use Rattle.gk_tree.specs.declared.blocks.Body.{Body}
use Rattle.gk_tree.specs.declared.blocks.Body.TheVariants as body
use Rattle.gk_tree.specs.declared.blocks.FlatBlock.{FlatBlock}
use Rattle.gk_tree.specs.declared.parser.Progress.{Progress}
use Rattle.gk_tree.specs.declared.doc_string.OpenDocString.{OpenDocString}
use Rattle.gk_tree.specs.declared.parser.Phase.{Phase}
use Rattle.gk_tree.specs.declared.parser.Phase.TheVariants as phase
use Rattle.gk_tree.specs.declared.parser.Parser.{Parser}

-- the text of these bytes, as a token has it
abbrev pub text_of : List ℕ → Utf8
text_of bytes = encode_utf8_all (chars bytes)

abbrev pub word_of : TagText → read.TagText
word_of t = tag_text (tag_word t)

abbrev pub token_view : Token → read.Token
token_view token.Blank = read.Blank
token_view token.Comment = read.Comment
token_view (token.Language word) = read.Language (text_of word.now)
token_view (token.Tags tags) = read.Tags (Ok (map word_of tags.words.items))
token_view (token.SpacedTag column) = read.Tags (Err column)
token_view (token.Title block title) = title_token block (title_text title)
token_view (token.Step step) = step_token (step_text step)
token_view (token.Row cells) = read.Row cells
token_view (token.Fenced fence) = fence_token (fence_text fence)
token_view token.Other = read.Other

-- a line that is read as this token
abbrev pub line_at : IndentedLine → Token → read.Line
line_at at t = line at.line.number (line_chars at.line) at.indent (token_view t)

-- a line that was kept
abbrev pub kept_line : IndentedLine → read.Line
kept_line at = line_of (numbered_line at.line)

abbrev pub body_of : Body → machine.Body
body_of body.Bare = machine.Bare
body_of (body.Steps steps) = machine.Steps steps
body_of (body.Rows rows) = machine.Rows rows

abbrev pub flat_block_of : FlatBlock → machine.FlatBlock
flat_block_of c =
    record {
      block = c.block;
      node = c.node;
      place = c.location;
      tags = c.tags;
      keyword = c.keyword;
      name = c.name;
      description = c.description;
      body = body_of c.body;
    }

abbrev pub open_doc_string_of : OpenDocString → machine.OpenDocString
open_doc_string_of q =
    record { place = q.location; fence = q.fence; media = text_of q.media.now; indent = q.indent }

abbrev pub phase_of : Phase → machine.Phase
phase_of phase.Start = machine.Start
phase_of phase.AfterLanguage = machine.AfterLanguage
phase_of (phase.AfterTags before tags) = machine.AfterTags before tags
phase_of (phase.InDescription flat_block lines) =
    machine.InDescription (flat_block_of flat_block.value) (map kept_line lines.items)
phase_of (phase.AfterStep s) =
    machine.AfterStep (flat_block_of s.value.flat_block) s.value.before s.value.last
phase_of (phase.InDocString s opening lines) =
    machine.InDocString (flat_block_of s.value.flat_block) s.value.before s.value.last
    (open_doc_string_of opening) (map kept_line lines.items)
phase_of (phase.InExamplesTable flat_block rows) =
    machine.InExamplesTable (flat_block_of flat_block.value) rows

-- before the first block, after the language line or not
abbrev pub head_of : Bool → machine.Phase
head_of true = machine.AfterLanguage
head_of false = machine.Start

abbrev pub state_at : Progress → machine.Phase → State
state_at p phase =
    record {
      comments = p.comments;
      nodes = p.nodes;
      flat_blocks = map flat_block_of p.flat_blocks;
      phase = phase;
    }

-- what was made so far, where the phase doesn't matter
abbrev pub state_so_far : Progress → State
state_so_far p = state_at p machine.Start

abbrev pub state_in : Progress → Phase → State
state_in p phase = state_at p (phase_of phase)

abbrev pub state_of : Parser → State
state_of p = state_in p.progress p.phase

abbrev pub placed_fault : ParseFault → PlacedFault
placed_fault f = record { kind = f.kind; line = f.line; column = f.column }

abbrev pub out_of_memory : ParseFault
out_of_memory = record { kind = kind.Memory; line = 0; column = 0 }

abbrev pub too_long : ParseFault
too_long = record { kind = kind.TooLong; line = 0; column = 0 }

-- what a function returned is what the machine gives, unless memory ran out
abbrev pub Gives : {X Y : Type 0} → (X → Y) → Result X ParseFault → Result Y PlacedFault → Type 0
Gives view (Ok x) r = r ≡ Ok (view x)
Gives view (Err fault) r = (fault ≡ out_of_memory) ⊎ (r ≡ Err (placed_fault fault))
