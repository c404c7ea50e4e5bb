-- Why the slots of a file are not taken in any further.
use Rattle.replica_file.specs.declared.reading.ReadFault.{ReadFault}
use Rattle.replica_file.specs.declared.reading.ReadFault.TheVariants as read_fault
use Rattle.replica_file.specs.declared.stop.Stop.{Stop}
use Rattle.replica_file.specs.declared.stop.Stop.TheVariants as stop

-- for bytes that were not read
abbrev pub stop_of : ReadFault → Stop
stop_of read_fault.DiskFault = stop.Disk
stop_of read_fault.NoMemory = stop.NoMemory
