use Rattle.std.proofs.Common.{◌≡◌, ◌+◌, ◌++◌, ◌≤◌, length}
use denote.Text.{Utf8}
use denote.Shadow.{shadow}
use Rattle.std.specs.Str.{chars}
use Rattle.std.specs.String.{string_bytes, string_capacity, string_len}
use Rattle.gk_document.specs.Fences.{fence_mark}
use Rattle.gk_line.specs.DocStrings.{fences_unescaped}
use Rattle.gk_line.proofs.doc_strings.push_unescaped.Given as goal

abbrev pub decreases-loop-front : goal.decreases-loop-front
decreases-loop-front l = length l.rest

abbrev pub invariant-loop-front : goal.invariant-loop-front
invariant-loop-front l =
    shadow (Utf8 l.rest)
    × (chars (string_bytes l.value) ++ fences_unescaped (fence_mark l.fence) 0 (chars l.rest)
    ≡ chars (string_bytes l.fn.value) ++ fences_unescaped (fence_mark l.fence) 0 (chars l.text))
    × (string_len l.value + length l.rest ≤ string_capacity l.value)
