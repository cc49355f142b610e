-- Internal. What a reader gives.
use Rattle.std.specs.Prelude.{◌≡◌, Option, Some, None, Result, Ok, Err}
use Rattle.store_base.specs.declared.fields.Unread.{Unread}
use Rattle.store_base.specs.declared.fields.Unread.TheVariants.{Bad, Memory}

-- a reader failed for want of memory, or where there is nothing to read
abbrev pub Fails : {Y : Type 0} → Unread → Option Y → Type 0
Fails Memory read = Unit {0}
Fails Bad read = read ≡ None

-- what a reader returned, seen by view, is what is to be read
abbrev pub Gives : {X Y : Type 0} → (X → Y) → Result X Unread → Option Y → Type 0
Gives view (Ok x) read = read ≡ Some (view x)
Gives view (Err e) read = Fails e read
