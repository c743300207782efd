-- What is shown of JSON is read back.
use Rattle.std.specs.Prelude.{◌≡◌, ◌<◌, ◌^◌, Some, true}
use Rattle.std.specs.List.{AllByRecursion}
use Rattle.std.specs.Str.{IsUtf8}
use Rattle.serde_json.specs.Data.{Data}
use Rattle.serde_json.specs.Read.{read}
use Rattle.serde_json.specs.Written.{compact_text}
use Rattle.cm_cases.specs.JsonLines.{CaseValues, case_data, object_text}
use Rattle.cm_cases.specs.Shown.{shown_json}
use Rattle.cm_read_back.specs.Laws.{IsLineOf}
use Rattle.cm_read_back.specs.Values.{IsPlain, in_order}

-- what is shown of the text without spaces of a plain value, its members in order, is a line of the value
abbrev pub ShownHaveLines : Type 0
ShownHaveLines =
    (d : Data) → IsPlain d → in_order d ≡ true → IsLineOf (shown_json (compact_text d)) d

-- its numbers are of 64 bits, its texts UTF-8
pub record IsPlainCase (v : CaseValues) : Type 0 where
  pub attempts : v.attempts < 2 ^ 64
  pub line : v.line < 2 ^ 64
  pub name : IsUtf8 v.name
  pub status : IsUtf8 v.status
  pub tags : AllByRecursion IsUtf8 v.tags
  pub uri : IsUtf8 v.uri

-- The object of a line is UTF-8, and read as these six values; different values have different objects.
pub record IsReadBack (v : CaseValues) : Type 0 where
  pub utf8 : IsUtf8 (object_text v)
  pub value : read (object_text v) ≡ Some (case_data v)
  pub only : (w : CaseValues) → case_data w ≡ case_data v → w ≡ v

abbrev pub CasesAreReadBack : Type 0
CasesAreReadBack = (v : CaseValues) → IsPlainCase v → IsReadBack v
