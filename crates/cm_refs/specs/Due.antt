-- How a call answers by the fault that is due, the first in order.
use Rattle.std.specs.Prelude.{◌≡◌, ◌⊎◌, Option, Result, Err, IsErrAnd, IsOk, IsOkUnless, MatchOption}

-- it refuses exactly where a fault is due, and by that fault
abbrev pub RefusesExactly : {A E : Type 0} → (due : Option E) → Result A E → Type 0
RefusesExactly due result = MatchOption due (IsOk result) (λ fault. result ≡ Err fault)

-- it does so, but where no fault is due it may answer this one, which is want of memory
abbrev pub RefusesExactlyUnless : {A E : Type 0} → (due : Option E) → Result A E → (memory : E)
    → Type 0
RefusesExactlyUnless due result memory =
    MatchOption due (IsOkUnless result memory) (λ fault. result ≡ Err fault)

-- it refuses where a fault is due, and by that fault, but it may answer this one in place of any answer
abbrev pub RefusesUnless : {A E : Type 0} → (due : Option E) → Result A E → (memory : E) → Type 0
RefusesUnless due result memory =
    MatchOption due (IsOkUnless result memory)
    (λ fault. IsErrAnd result (λ e. (e ≡ fault) ⊎ (e ≡ memory)))
