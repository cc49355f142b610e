-- Believed. The file of a store, by a command line.
use Rattle.std.specs.Prelude.{◌≡◌, ◌≤◌, List, ◌++◌, Option, None, Some, codes, decimal}
use Rattle.clap.specs.Words.{Row, Text, first_of}
use Rattle.command_line.specs.declared.store.Data.{Data}
use Rattle.disks.specs.declared.sync_policy.SyncPolicy.{SyncPolicy}
use Rattle.disks.specs.declared.sync_policy.SyncPolicy.TheVariants.{Always, Batch}

-- Where a store is to be kept: a file, and what a sync of it waits for.
pub record DataAsk : Type 0 where
  pub file : Option Text
  pub sync : SyncPolicy

-- the same, of what a command line was read as
abbrev pub asked_data : Option Data → DataAsk
asked_data None = record { file = None; sync = Always }
asked_data (Some d) = record { file = Some d.file.now; sync = d.sync }

-- the text of what a sync waits for, which is a second at most
abbrev pub IsSyncText : Text → SyncPolicy → Type 0
IsSyncText text Always = text ≡ codes "always"
IsSyncText text (Batch millis) = (text ≡ codes "batch " ++ decimal millis) × (1 ≤ millis) × (millis ≤ 1000)

-- what a sync waits for, by the option: nothing where none is given
abbrev pub IsSync : Option Text → SyncPolicy → Type 0
IsSync None sync = sync ≡ Always
IsSync (Some text) sync = IsSyncText text sync

-- what a sync waits for is given with a file alone
abbrev pub MayHaveSync : (file sync : Option Text) → Type 0
MayHaveSync None sync = sync ≡ None
MayHaveSync (Some file) sync = Unit {0}

-- where a store is to be kept, by the rows of a command line
abbrev pub AreData : List Row → DataAsk → Type 0
AreData found d = (d.file ≡ first_of (codes "data") found) × IsSync (first_of (codes "sync") found) d.sync × MayHaveSync d.file (first_of (codes "sync") found)
