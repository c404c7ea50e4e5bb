-- How a fault of delivering operations becomes the fault of an exchange.
use Rattle.replica_core.specs.declared.keeping.FeedFault.{FeedFault}
use Rattle.replica_core.specs.declared.keeping.FeedFault.TheVariants as feed_fault
use Rattle.relay_sync.specs.declared.syncing.SyncFault.{SyncFault}
use Rattle.relay_sync.specs.declared.syncing.SyncFault.TheVariants.{NoMemory, TooMany}

-- a fault of feeding as one of an exchange
abbrev pub fault_of : FeedFault → SyncFault
fault_of (feed_fault.TooMany most) = TooMany most
fault_of feed_fault.NoMemory = NoMemory
