-- What the bytes of a source are as a text (RFC 3629: UTF-8).
use Rattle.std.specs.Prelude.{◌≡◌, ◌<◌, ◌≤◌, ⊤, ℕ, List, length, Bool, true, false, Result, Err}
use Rattle.std.specs.Str.{IsUtf8}
use Rattle.gk_grammar.specs.Documents.{max_bytes}
use Rattle.ck_commands.specs.declared.text_input.TextFault.{TextFault}
use Rattle.ck_commands.specs.declared.text_input.TextFault.TheVariants.{ReadFailed, TooLong, NotUtf8, Memory}

-- the text is the bytes: they are UTF-8 and within the limit
pub record IsTextOf (bytes text : List ℕ) : Type 0 where
  pub same : text ≡ bytes
  pub few : length bytes ≤ max_bytes
  pub utf8 : IsUtf8 bytes

-- why the bytes are no text, where no read failed and memory wasn't refused: too many, else no UTF-8
abbrev pub HasTextFault : List ℕ → TextFault → Type 0
HasTextFault bytes TooLong = max_bytes < length bytes
HasTextFault bytes NotUtf8 = (length bytes ≤ max_bytes) × (IsUtf8 bytes → ⊥)
HasTextFault bytes ReadFailed = ⊤
HasTextFault bytes Memory = ⊤

-- why the bytes aren't held, UTF-8 or not
abbrev pub HasBytesFault : List ℕ → TextFault → Type 0
HasBytesFault bytes TooLong = max_bytes < length bytes
HasBytesFault bytes NotUtf8 = ⊥
HasBytesFault bytes ReadFailed = ⊤
HasBytesFault bytes Memory = ⊤

-- it is that a read failed
abbrev pub is_failed_text_read : {A : Type 0} → Result A TextFault → Bool
is_failed_text_read (Err ReadFailed) = true
is_failed_text_read _ = false
