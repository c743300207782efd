-- What was read of a source.
use Rattle.std.proofs.Common.{◌≡◌, ◌∙◌, ◌<◌, ◌≤◌, ◌++◌, ℕ, List, Result, Ok, Err, true, false, refl, length, length-append, append-nil, ap, sym, subst, arith, IsUtf8}
use Rattle.std.specs.Result.{IfErr, IsErrAnd}
use Rattle.cm_envelope.specs.Device.{Hears, Input, OfInput, OfWhole}
use Rattle.cm_envelope.proofs.Sources.{input_weaker}
use Rattle.ck_commands.specs.TextInput.{HasBytesFault, HasTextFault, IsTextOf, is_failed_text_read}
use Rattle.ck_commands.specs.declared.text_input.TextFault.{TextFault}
use Rattle.ck_commands.specs.declared.text_input.TextFault.TheVariants.{ReadFailed, TooLong, NotUtf8, Memory}

-- at the end nothing comes after what was heard
pub input_of_whole : {P : List ℕ → Type 0} (i j : Input) → OfWhole i j P → OfInput i j P
input_of_whole {P} i j h = (h.0, h.1, λ rest may. subst P (sym (ap (λ l. h.0 ++ l) (may h.2) ∙ append-nil h.0)) h.3)

-- all bytes, as a text
pub text_of_all : (i j : Input) (text bytes : List ℕ) → IsUtf8 text → text ≡ bytes → length bytes ≤ 16777216 → Hears i j bytes → j.is_over ≡ true → OfWhole i j (λ all. IsTextOf all text)
text_of_all i j text bytes utf8 same few heard over = (bytes, heard, over, record { same = same; few = few; utf8 = subst IsUtf8 same utf8 })

-- a fault of the bytes is one of the text
fault_is : (all : List ℕ) (fault : TextFault) → HasBytesFault all fault → HasTextFault all fault
fault_is all TooLong h = h
fault_is all NotUtf8 h = absurd h
fault_is all ReadFailed h = tt
fault_is all Memory h = tt

pub bytes_fault : (i j : Input) (fault : TextFault) → OfInput i j (λ all. HasBytesFault all fault) → OfInput i j (λ all. HasTextFault all fault)
bytes_fault i j fault h = input_weaker {P = λ all. HasBytesFault all fault} {Q = λ all. HasTextFault all fault} i j h (λ xs p. fault_is xs fault p)

-- more were read than a text may have
pub too_many : (i j : Input) (read : List ℕ) → Hears i j read → 16777216 < length read → OfInput i j (λ all. HasBytesFault all TooLong)
too_many i j read heard many = (read, heard, λ rest may. omega (arith, many, length-append read rest))

-- a fault of the bytes that is passed on
pub on_fault : {T : Type 0} (i j : Input) (x : TextFault) (r : Result T TextFault) → IsErrAnd r (λ f. f ≡ x) → OfInput i j (λ all. HasBytesFault all x) → IfErr r (λ fault. OfInput i j (λ all. HasTextFault all fault))
on_fault i j x (Ok y) h is = absurd h
on_fault i j x (Err f) h is = rw h (bytes_fault i j x is)

pub other_fault : (A : Type 0) (f : TextFault) → is_failed_text_read {A = A} (Err f) ≡ false → f ≡ ReadFailed → ⊥
other_fault A ReadFailed other is = cc
other_fault A TooLong other is = cc
other_fault A NotUtf8 other is = cc
other_fault A Memory other is = cc

pub failed_fault : (A : Type 0) (f : TextFault) → is_failed_text_read {A = A} (Err f) ≡ true → f ≡ ReadFailed
failed_fault A ReadFailed failed = refl
failed_fault A TooLong failed = cc
failed_fault A NotUtf8 failed = cc
failed_fault A Memory failed = cc
