-- How an opening tells the errors of what it calls.
use Rattle.ctr_home.specs.disk_StoreFault.{StoreFault}
use Rattle.ctr_home.specs.disk_StoreFault.TheVariants as store
use Rattle.ctr_log.specs.declared.reading.ReadError.{ReadError}
use Rattle.ctr_log.specs.declared.reading.ReadError.TheVariants as read
use Rattle.ctr_log.specs.declared.opening.OpenError.{OpenError}
use Rattle.ctr_log.specs.declared.opening.OpenError.TheVariants.{Damaged, Fault, OutOfMemory}

-- how it tells a fault or damage below
abbrev pub fault_told : StoreFault → OpenError
fault_told store.Fault = Fault
fault_told (store.Damaged d) = Damaged d

-- how it tells an end of reading
abbrev pub read_told : ReadError → OpenError
read_told (read.Store fault) = fault_told fault
read_told read.OutOfMemory = OutOfMemory
