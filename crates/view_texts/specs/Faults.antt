-- Why a trace wasn't written whole.
use Rattle.aps_io.specs.declared.all.WriteRefusal.{WriteRefusal}
use Rattle.aps_io.specs.declared.all.WriteRefusal.TheVariants as refusal
use Rattle.view_texts.specs.declared.fault.TraceFault.{TraceFault}
use Rattle.view_texts.specs.declared.fault.TraceFault.TheVariants.{WriteFault, NoMemory}

-- what a refused write means for a trace
abbrev pub trace_fault_of : WriteRefusal → TraceFault
trace_fault_of refusal.WriteFault = WriteFault
trace_fault_of refusal.NoMemory = NoMemory
