-- what was read is what the disk has from the place on
use Rattle.std.proofs.Common.{◌≤◌, ◌-◌, min, length, arith, rules}
use Rattle.store_base.proofs.WindowLemmas.{ahead_read, size_read, filled_after}
use Rattle.store_base.proofs.window.Window.fill.Goals as goal

pub invariant_of-self : goal.invariant_of-self
invariant_of-self g c =
    let low : length c.read_into.new.buffer.items ≤ c.min-size.result = size_read c.read_into.result _ c.self.inside.place c.min-size.result c.read_into.new.buffer.items c.read_into.ensures.bytes c.read_into.ensures.none in (
      omega arith,
      omega arith,
      ahead_read c.read_into.result _ _ c.self.inside.place c.min-size.result c.read_into.new.buffer.items c.read_into.ensures.bytes c.read_into.ensures.none c.read_into.ensures.kept,
    )

pub returns-clause-filled : goal.returns-clause-filled
returns-clause-filled g c =
    filled_after c.read_into.result _ _ c.self.inside.place c.len-2.result 65792 c.args.count c.min-size.result c.read_into.new.buffer.items
    c.len-2.ensures (search rules) c.requires c.read_into.ensures.bytes c.read_into.ensures.kept
