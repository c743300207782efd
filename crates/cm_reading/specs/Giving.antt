-- What a function returned, beside what reading gives.
use Rattle.std.specs.Prelude.{◌≡◌, ℕ, List, Result, Ok, Err}
use Rattle.cm_envelope.specs.Documents.{Ids, NodeRead}
use Rattle.cm_reading.specs.declared.fault.MemberFault.{MemberFault}
use Rattle.cm_reading.specs.declared.fault.MemberFault.TheVariants.{Bad, Memory}

-- What a function returned is what reading gives, unless memory ran out.
abbrev pub FailsAtMember : {A : Type 0} → MemberFault → Result A (List ℕ) → Type 0
FailsAtMember (Bad name) reading = reading ≡ Err name.now
FailsAtMember Memory reading = Unit {0}

abbrev pub GivesMember : {A : Type 0} → Result A MemberFault → Result A (List ℕ) → Type 0
GivesMember (Ok x) reading = reading ≡ Ok x
GivesMember (Err e) reading = FailsAtMember e reading

-- the same of a value that is seen by view
abbrev pub GivesMemberOf : {A B : Type 0} → (A → B) → Result A MemberFault → Result B (List ℕ)
    → Type 0
GivesMemberOf view (Ok x) reading = reading ≡ Ok (view x)
GivesMemberOf view (Err e) reading = FailsAtMember e reading

-- What a function returned, and the ids that it left, are what reading gives, unless memory ran out.
abbrev pub GivesNode : {A : Type 0} → Result A MemberFault → Ids → NodeRead A → Type 0
GivesNode (Ok x) ids reading = reading ≡ Ok (x, ids)
GivesNode (Err e) ids reading = FailsAtMember e reading
