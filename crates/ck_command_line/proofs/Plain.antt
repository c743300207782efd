-- Words that are no option.
use Rattle.std.proofs.Common.{◌≡◌, ℕ, Bool, true, false, [], ◌∷◌, None, refl, sym, subst}
use Rattle.std.proofs.lemmas.Bool.{eqb-true}
use Rattle.std.specs.Prelude.{codes, ◌==◌}
use Rattle.std.specs.Str.{bytes_eq}
use Rattle.clap.specs.Words.{Text}
use Rattle.clap.specs.Lexer.{long_of, short_of}
use Rattle.ck_command_line.specs.Asked.{is_option}

-- the word is neither `--` nor an option
abbrev pub IsValue : Text → Type 0
IsValue word = (bytes_eq word (codes "--") ≡ false) × (long_of word ≡ None) × (short_of word ≡ None)

without_hyphen : (c : ℕ) (cs : Text) → (c == 45) ≡ false → IsValue (c ∷ cs)
without_hyphen c cs e = (rw e refl, rw e refl, rw e refl)

one_character : (c : ℕ) (b : Bool) → (c == 45) ≡ b → IsValue (c ∷ [])
one_character c true e = subst (λ (n : ℕ). IsValue (n ∷ [])) (sym (eqb-true c 45 e)) (refl, refl, refl)
one_character c false e = without_hyphen c [] e

pub plain : (word : Text) → is_option word ≡ false → IsValue word
plain [] h = (refl, refl, refl)
plain (c ∷ []) h = one_character c (c == 45) refl
plain (c ∷ d ∷ cs) h = without_hyphen c (d ∷ cs) h
