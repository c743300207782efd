-- Why a text isn't compiled.
use Rattle.std.specs.Prelude.{◌≡◌, ◌⊎◌, ℕ, List}
use Rattle.gk_grammar.specs.declared.fault.FaultKind.{FaultKind}
use Rattle.gk_grammar.specs.declared.fault.FaultKind.TheVariants as kind
use Rattle.gk_grammar.specs.Documents.{HasFault, IsTooLong}
use Rattle.gk_tree.specs.declared.fault.ParseFault.{ParseFault}
use Rattle.gk_tree.specs.Views.{too_long}
use Rattle.cm_compile.specs.declared.fault.CompileFault.{CompileFault}
use Rattle.cm_compile.specs.declared.fault.CompileFault.TheVariants.{Parse, Memory}

-- the text is beyond the limits, or within them it has the fault that is reported
abbrev pub IsRefusedWith : List ℕ → ParseFault → Type 0
IsRefusedWith text f =
    (IsTooLong text × (f ≡ too_long)) ⊎ ((IsTooLong text → ⊥)
    × HasFault text f.kind f.line f.column)

abbrev fault_of_kind : FaultKind → ParseFault → CompileFault
fault_of_kind kind.Memory f = Memory
fault_of_kind _ f = Parse f

-- what a fault of the parser is reported as: its want of memory is want of memory
abbrev pub compile_fault : ParseFault → CompileFault
compile_fault f = fault_of_kind f.kind f
