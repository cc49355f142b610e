-- Internal. Why no item was taken.
use Rattle.std.specs.Prelude.{Bool, true, false}
use Rattle.http_message.specs.declared.incomplete.Incomplete.{Incomplete}
use Rattle.http_message.specs.declared.incomplete.Incomplete.TheVariants as incomplete
use Rattle.http_message.specs.declared.taken.Taken.{Taken}
use Rattle.http_message.specs.declared.taken.Taken.TheVariants as taken

-- the same before the head of an item, by whether no byte but CR and LF is left
abbrev pub before_head : Incomplete → Bool → Incomplete
before_head incomplete.Truncated true = incomplete.InputEnd
before_head incomplete.Truncated false = incomplete.Truncated
before_head incomplete.InputEnd blank = incomplete.InputEnd
before_head incomplete.ReadFault blank = incomplete.ReadFault
before_head incomplete.WriteFault blank = incomplete.WriteFault

-- the answer
abbrev pub taken_by : Incomplete → Taken
taken_by incomplete.InputEnd = taken.InputEnd
taken_by incomplete.Truncated = taken.Truncated
taken_by incomplete.ReadFault = taken.ReadFault
taken_by incomplete.WriteFault = taken.WriteFault
