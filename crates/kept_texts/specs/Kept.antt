-- The bytes of a text that is kept.
use Rattle.std.specs.Prelude.{string_bytes}
use Rattle.gk_document.specs.Texts.{Utf8}
use Rattle.kept_texts.specs.declared.kept_text.KeptText.{KeptText}
use Rattle.kept_texts.specs.declared.kept_text.KeptText.TheVariants.{Short, Long}

abbrev pub bytes_of : KeptText → Utf8
bytes_of (Short text) = text.bytes
bytes_of (Long text) = string_bytes text
