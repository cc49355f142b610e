-- nothing was read
use Rattle.std.proofs.Common.{length, arith, ap, List, ℕ}
use Rattle.store_base.proofs.WindowLemmas.{ahead_none}
use Rattle.store_base.proofs.window.Window.new.Goals as goal

pub invariant_of-result : goal.invariant_of-result
invariant_of-result g c =
    let size = ap (λ (l : List ℕ). length l) c.new.ensures.items in
    (omega arith, omega (arith, size), ahead_none (g.K.Disk.at c.args.disk).history 0 c.new.result.items c.new.ensures.items)
