use Rattle.aps_io.specs.declared.all.WriteRefusal.{WriteRefusal}
use Rattle.aps_io.specs.declared.all.WriteRefusal.TheVariants as refusal
use Rattle.aps_report.specs.declared.by_entry.JournalFault.{JournalFault}
use Rattle.aps_report.specs.declared.by_entry.JournalFault.TheVariants.{WriteFault, NoMemory}

-- what a refused write means for the journal
abbrev pub fault_of : WriteRefusal → JournalFault
fault_of refusal.WriteFault = WriteFault
fault_of refusal.NoMemory = NoMemory
