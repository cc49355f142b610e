-- Internal. Calls as contracts see them.
use Rattle.disks.specs.declared.past.Call.{Call}
use Rattle.disks.specs.declared.past.Call.TheVariants.{Wrote as wrote, Tore as tore, Synced as synced}
use Rattle.disks.specs.Devices.{DiskCall}
use Rattle.disks.specs.Devices.{Wrote, Tore, Synced}

-- a call, with its bytes as lists
abbrev pub call_of : Call → DiskCall
call_of (wrote place bytes) = Wrote place bytes.items
call_of (tore place bytes left) = Tore place bytes.items left.items
call_of synced = Synced
