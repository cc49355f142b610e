-- the history has the write, and what is kept follows it
use Rattle.std.proofs.Common.{◌≡◌, ◌≤◌, ◌∷◌, List, ℕ, length, ap, sym, ◌∙◌, subst, arith, rules}
use Rattle.disks.specs.Devices.{DiskCall, Wrote, Device, device}
use Rattle.disks.specs.Histories.{DiskView, IsWithin}
use Rattle.disks.specs.MemoryDisks.{IsKept}
use Rattle.disks.proofs.KeptLemmas.{kept_write}
use Rattle.disks.proofs.memory_disk.MemoryDisk.put.Goals as goal

pub invariant_of-self-2 : goal.invariant_of-self-2
invariant_of-self-2 g c =
    let d : Device = device c.self.inside.start.value.items c.self.inside.past in
    let within : c.args.place ≤ length d.seen =
    (let P : DiskView → Type 0 = λ v. IsWithin v.history c.args.place in subst P (sym c.self.view_is) c.requires) in
    let calls : c.note.new.self ≡ Wrote c.args.place c.args.bytes.now ∷ c.self.inside.past =
    c.note.ensures ∙ ap (λ (x : List ℕ). Wrote c.args.place x ∷ c.self.inside.past) c.in_ok-text.ensures in
    let Q : List DiskCall → Type 0 = λ x. IsKept (device c.self.inside.start.value.items x) c.write_over.new.old.items c.self.inside.synced c.insert.new.self.items in
    subst Q (sym calls)
    (kept_write d c.self.inside.bytes.items c.write_over.new.old.items c.self.inside.synced c.self.inside.ranges.items c.insert.new.self.items c.args.place c.args.bytes.now
    c.self.invariant (omega (arith, within, ap (λ (x : List ℕ). length x) c.self.invariant.seen)) c.in_ok-write_over.ensures.done (search rules))
