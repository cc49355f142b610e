-- a place is drawn or kept, and the rest is as before
use Rattle.std.proofs.Common.{◌∙◌, ℕ, arith, length-set, sym}
use Rattle.disks.specs.Devices.{is_open_by}
use Rattle.disks.proofs.Draws.{opened_more, kept_more, drawn_all}
use Rattle.disks.proofs.memory_disk.draw_open.Goals as goal
use Rattle.disks.proofs.memory_disk.draw_open.Goals.{then-opens, else-opens}

pub returns-then-used-draws : goal.returns-then-used-draws
returns-then-used-draws c =
    drawn_all (is_open_by c.args.synced c.args.ranges.now) c.loop-place.place c.loop-place.used c.loop-place.bytes c.args.draws.now _ (omega arith) c.loop-place.invariant.drawn

pub loop-place-preserved : goal.loop-place-preserved
loop-place-preserved c = elim c.if-opens.branch [
  | then-opens w ↦ rw (w.bytes-is, w.used-is) (record {
    used = omega arith;
    size = omega (arith, length-set {A = ℕ});
    drawn = opened_more (is_open_by c.args.synced c.args.ranges.now) c.loop-place.place c.loop-place.used c.loop-place.bytes c.args.draws.now _ (omega arith) (omega arith)
        (sym c.is_open_at-opens.ensures ∙ w.if-opens.true) c.loop-place.invariant.drawn;
  })
  | else-opens w ↦ rw (w.bytes-is, w.used-is) (record {
    used = c.loop-place.invariant.used;
    size = c.loop-place.invariant.size;
    drawn = kept_more (is_open_by c.args.synced c.args.ranges.now) c.loop-place.place c.loop-place.used c.loop-place.bytes c.args.draws.now _ (omega arith) (omega arith)
        (sym c.is_open_at-opens.ensures ∙ w.if-opens.false) c.loop-place.invariant.drawn;
  })
]
