-- the history has the write that tore, and what is kept follows it
use Rattle.std.proofs.Common.{◌≡◌, ◌≤◌, ◌∷◌, ◌/◌, List, ℕ, length, take, Some, ap, sym, ◌∙◌, subst, inr, arith, rules, length-take}
use Rattle.disks.specs.Devices.{DiskCall, Tore, Device, device, over, IsTorn}
use Rattle.disks.specs.Histories.{DiskView, IsWithin, Tears}
use Rattle.disks.specs.MemoryDisks.{IsKept}
use Rattle.disks.proofs.KeptLemmas.{kept_tear, half_torn}
use Rattle.disks.proofs.memory_disk.MemoryDisk.put_half.Goals as goal

pub invariant_of-self-2 : goal.invariant_of-self-2
invariant_of-self-2 g c =
    let d : Device = device c.self.inside.start.value.items c.self.inside.past in
    let within : c.args.place ≤ length d.seen =
    (let P : DiskView → Type 0 = λ v. IsWithin v.history c.args.place in subst P (sym c.self.view_is) c.requires) in
    let small : length (take (length c.args.bytes.now / 2) c.args.bytes.now) ≤ length c.args.bytes.now = omega (arith, length-take (length c.args.bytes.now / 2) c.args.bytes.now) in
    let left : c.write_over.new.old.items ≡ over c.self.inside.bytes.items c.args.place (take (length c.args.bytes.now / 2) c.args.bytes.now) = search rules in
    let torn : IsTorn c.args.place c.args.bytes.now c.self.inside.bytes.items c.write_over.new.old.items =
    rw left (half_torn c.self.inside.bytes.items c.args.place c.args.bytes.now (take (length c.args.bytes.now / 2) c.args.bytes.now)
    (omega (arith, within, ap (λ (x : List ℕ). length x) c.self.invariant.seen)) small) in
    let calls : c.note.new.self ≡ Tore c.args.place c.args.bytes.now c.write_over.new.old.items ∷ c.self.inside.past =
    c.note.ensures ∙ ap (λ (x : List ℕ). Tore c.args.place x c.write_over.new.old.items ∷ c.self.inside.past) c.in_ok-text.ensures in
    let Q : List DiskCall → Type 0 = λ x. IsKept (device c.self.inside.start.value.items x) c.in_ok-next.next.items c.self.inside.synced c.insert.new.self.items in
    let copied : c.in_ok-next.next.items ≡ c.write_over.new.old.items = c.in_ok-next.ensures ∙ c.deref-2.ensures.value in
    subst Q (sym calls) (rw copied
    (kept_tear d c.self.inside.bytes.items c.write_over.new.old.items c.self.inside.synced c.self.inside.ranges.items c.insert.new.self.items c.args.place c.args.bytes.now
    c.self.invariant torn (search rules)))

pub returns-clause-torn : goal.returns-clause-torn
returns-clause-torn g c =
    let d : Device = device c.self.inside.start.value.items c.self.inside.past in
    let within : c.args.place ≤ length d.seen =
    (let P : DiskView → Type 0 = λ v. IsWithin v.history c.args.place in subst P (sym c.self.view_is) c.requires) in
    let small : length (take (length c.args.bytes.now / 2) c.args.bytes.now) ≤ length c.args.bytes.now = omega (arith, length-take (length c.args.bytes.now / 2) c.args.bytes.now) in
    let left : c.write_over.new.old.items ≡ over d.seen c.args.place (take (length c.args.bytes.now / 2) c.args.bytes.now) = rw c.self.invariant.seen (search rules) in
    let torn : IsTorn c.args.place c.args.bytes.now d.seen c.write_over.new.old.items =
    rw left (half_torn d.seen c.args.place c.args.bytes.now (take (length c.args.bytes.now / 2) c.args.bytes.now) within small) in
    let calls : c.note.new.self ≡ Tore c.args.place c.args.bytes.now c.write_over.new.old.items ∷ c.self.inside.past =
    c.note.ensures ∙ ap (λ (x : List ℕ). Tore c.args.place x c.write_over.new.old.items ∷ c.self.inside.past) c.in_ok-text.ensures in
    let P : DiskView → Type 0 = λ v. Tears v.history (Some (record { start = c.self.inside.start.value.items; calls = c.note.new.self })) c.args.place c.args.bytes.now in
    subst P c.self.view_is (inr (c.write_over.new.old.items, torn, ap (λ (x : List DiskCall). Some (record { start = c.self.inside.start.value.items; calls = x })) calls))
