-- what is behind the place is still what was read
use Rattle.std.proofs.Common.{◌≤◌, ◌-◌, length, ap, arith, length-drop}
use Rattle.store_base.specs.Windows.{WindowView}
use Rattle.store_base.proofs.WindowLemmas.{ahead_skip}
use Rattle.store_base.proofs.window.Window.skip.Goals as goal

pub invariant_of-self : goal.invariant_of-self
invariant_of-self g c =
    let same = ap (λ (v : WindowView). length v.ahead) c.self.view_is in
    let within : c.args.count ≤ length c.self.inside.buffer.items - c.self.inside.used = omega (arith, c.requires, same, length-drop c.self.inside.used c.self.inside.buffer.items) in (
      omega (arith, within, c.self.invariant.0),
      omega (arith, within, c.self.invariant.0, c.self.invariant.1),
      ahead_skip (g.K.Disk.at c.self.inside.disk).history c.self.inside.place c.self.inside.used c.args.count c.self.inside.buffer.items within c.self.invariant.2,
    )
