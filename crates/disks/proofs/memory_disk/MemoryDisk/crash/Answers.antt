-- the disk is at rest with what was drawn
use Rattle.std.proofs.Common.{◌≡◌, List, ℕ, Some, ap, sym, ◌∙◌, arith, rules}
use Rattle.std.proofs.lemmas.List.{with_items_is}
use Rattle.disks.specs.Devices.{DiskCall, Device, device, is_open_by, drawn, crashed}
use Rattle.disks.specs.Histories.{DiskView}
use Rattle.disks.proofs.KeptLemmas.{crash_leaves, crashed_is}
use Rattle.disks.proofs.memory_disk.MemoryDisk.crash.Goals as goal

pub returns : goal.returns
returns g c =
    let d : Device = device c.self.inside.start.value.items c.self.inside.past in
    let bytes : c.of.result.value.items ≡ crashed d c.args.draws.now =
    ap (λ v. v.items) c.of.ensures
    ∙ with_items_is c.self.inside.bytes c.draw_open.new.bytes (omega (arith, c.draw_open.auto.bytes, c.self.inside.bytes.ok.0))
    ∙ (let e : c.draw_open.new.bytes ≡ drawn (is_open_by c.self.inside.synced c.self.inside.ranges.items) 0 c.self.inside.bytes.items c.args.draws.now = search rules in e)
    ∙ crashed_is d c.self.inside.bytes.items c.self.inside.synced c.self.inside.ranges.items c.args.draws.now c.self.invariant in
    record {
      history = record { start = c.self.inside.start.value.items; calls = c.self.inside.past };
      was = ap (λ (v : DiskView). v.history) (sym c.self.view_is);
      is = ap (λ (x : List ℕ). Some (record { start = x; calls = c.new.result })) bytes
          ∙ ap (λ (x : List DiskCall). Some (record { start = crashed d c.args.draws.now; calls = x })) c.new.ensures;
      may = crash_leaves d c.args.draws.now c.self.invariant.sound;
      faults = ap (λ (v : DiskView). v.faults) c.self.view_is;
    }
