-- The line of each finding, as the code makes it. It is in the contracts of private functions alone.
use Rattle.std.specs.Prelude.{ℕ, List}
use Rattle.cm_stream.specs.Texts.{Utf8}
use Rattle.cm_missing.specs.Missing.{refused_line, missing_text}
use Rattle.cm_missing.specs.declared.missing.Finding.{Finding}
use Rattle.cm_missing.specs.declared.missing.Finding.TheVariants as finding

abbrev pub finding_line : (path : Utf8) → Finding → List ℕ
finding_line path (finding.Refused f) = refused_line path f.kind f.line f.column
finding_line path (finding.Missing line name) = missing_text path line name.now
