-- Texts in a row, and what is told of the start of an attempt.
use Rattle.std.proofs.Common.{◌≡◌, ◌∙◌, ap, ℕ, List, [], ◌++◌, Option, Some, None, append_assoc, option_map}
use Rattle.std.specs.Prelude.{unwrap_or}
use Rattle.std.specs.Option.{option_map_or}
use Rattle.cm_envelope.specs.declared.envelope.TestCaseStarted.{TestCaseStarted}
use Rattle.cm_steps.specs.Attempts.{start_facts}
use Rattle.cm_stream.specs.Texts.{Utf8}

pub three_more : (o a b c : List ℕ) → o ++ a ++ b ++ c ≡ o ++ (a ++ b ++ c)
three_more o a b c = ap (λ (text : List ℕ). text ++ c) (append_assoc o a b) ∙ append_assoc o (a ++ b) c

pub four_more : (o a b c d : List ℕ) → o ++ a ++ b ++ c ++ d ≡ o ++ (a ++ b ++ c ++ d)
four_more o a b c d = ap (λ (text : List ℕ). text ++ d) (three_more o a b c) ∙ append_assoc o (a ++ b ++ c) d

-- what is told by the test case and the number of an attempt that started so
pub start_told : (told : Utf8 → ℕ → List ℕ) (o : Option TestCaseStarted) (case : Utf8) (n : ℕ) → Some (case, n) ≡ option_map start_facts o → told case n ≡ option_map_or (λ s. told s.test_case_id s.attempt) o []
start_told told None case n e = absurd cc
start_told told (Some s) case n e =
    let same : (case, n) ≡ start_facts s = ap (λ (o : Option (Utf8 × ℕ)). unwrap_or o (case, n)) e in
    ap (λ (facts : Utf8 × ℕ). told facts.0 facts.1) same
