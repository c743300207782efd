-- What is told of files and pickles, one after another. It is in the contracts of private functions alone, and no public
-- promise depends on how it is put.
use Rattle.std.specs.Prelude.{◌≡◌, ◌+◌, ℕ, List, [], ◌∷◌, ◌++◌, Result, Ok, Err, count_by, length, map, string_bytes, take}
use Rattle.std.specs.List.{filter}
use Rattle.cm_reasons.specs.Lines.{text_of_lines, most_lines}
use Rattle.cm_stream.specs.Release.{Conditions}
use Rattle.cm_stream.specs.Texts.{Utf8}
use Rattle.gk_document.specs.declared.tree.Document.{Document}
use Rattle.gk_tree.specs.declared.fault.ParseFault.{ParseFault}
use Rattle.cm_missing.specs.Missing.{Accepted, AskedFile, AskedPickle, FileReading, Refused, file_lines, file_scenarios, file_unrun, is_left_out, is_missing, missing_line}
use Rattle.cm_missing.specs.declared.missing.Missing.{Missing}

-- some lines, and what is counted
pub record CountedLines : Type 0 where
  pub lines : List (List ℕ)
  pub scenarios : ℕ
  pub unrun : ℕ

abbrev pub and_then : CountedLines → CountedLines → CountedLines
and_then a b = record {
  lines = a.lines ++ b.lines;
  scenarios = a.scenarios + b.scenarios;
  unrun = a.unrun + b.unrun;
}

abbrev pub line_told : List ℕ → CountedLines
line_told line = record { lines = line ∷ []; scenarios = 0; unrun = 0 }

abbrev pub pickles_told : Conditions → (path : Utf8) → List AskedPickle → CountedLines
pickles_told asked path ps = record {
  lines = map (missing_line path) (filter (is_missing asked) ps);
  scenarios = length ps;
  unrun = count_by (is_left_out asked) ps;
}

abbrev pub file_told : Conditions → AskedFile → FileReading → CountedLines
file_told asked f reading = record {
  lines = file_lines asked f reading;
  scenarios = file_scenarios reading;
  unrun = file_unrun asked f reading;
}

-- this is kept
pub record Keeps (m : Missing) (t : CountedLines) : Type 0 where
  pub text : string_bytes m.text ≡ text_of_lines (take most_lines t.lines)
  pub count : m.count ≡ length t.lines
  pub scenarios : m.scenarios ≡ t.scenarios
  pub unrun : m.unrun ≡ t.unrun

-- this more is kept than before
abbrev pub KeepsMore : (old new : Missing) → CountedLines → Type 0
KeepsMore old new more = (t : CountedLines) → Keeps old t → Keeps new (and_then t more)

-- what the parser answers
abbrev pub reading_of : Result Document ParseFault → FileReading
reading_of (Ok d) = Accepted d
reading_of (Err f) = Refused f.kind f.line f.column
