-- what the calls so far leave of the disk, at each return
use Rattle.std.proofs.Common.{◌≤◌, ◌<◌, Bool, subst, rules}
use Rattle.record_log.specs.Starts.{MarkIs}
use Rattle.record_log.proofs.StartLemmas.{synced_short, leaves_new, leaves_read, start_0, start_new, start_read, begun_new, begun_old}
use Rattle.record_log.proofs.start.start.Goals as goal

pub returns-in-Err-clause-leaves : goal.returns-in-Err-clause-leaves
returns-in-Err-clause-leaves g c = start_0 (g.D.Disk.at c.args.disk.now).history (g.D.Disk.at c.sync.new.self).history c.in-Err.ensures.0

pub returns-in-Ok-store-clause-begun : goal.returns-in-Ok-store-clause-begun
returns-in-Ok-store-clause-begun g c =
    let few : c.len.result ≤ 5 = search rules in
    begun_new (g.D.Disk.at c.args.disk.now).history (g.D.Disk.at c.sync.new.self).history (g.D.Disk.at c.store.new.disk).history
    (synced_short (g.D.Disk.at c.args.disk.now).history (g.D.Disk.at c.sync.new.self).history c.len.result c.in-Ok.ensures.0 c.len.ensures few)
    c.in-Ok.ensures.0 c.in-Ok-store.ensures.stored

pub returns-in-Ok-store-clause-leaves : goal.returns-in-Ok-store-clause-leaves
returns-in-Ok-store-clause-leaves g c =
    let few : c.len.result ≤ 5 = search rules in
    leaves_new (g.D.Disk.at c.args.disk.now).history (g.D.Disk.at c.sync.new.self).history (g.D.Disk.at c.store.new.disk).history
    (synced_short (g.D.Disk.at c.args.disk.now).history (g.D.Disk.at c.sync.new.self).history c.len.result c.in-Ok.ensures.0 c.len.ensures few)
    c.in-Ok.ensures.0 c.in-Ok-store.ensures.stored

pub returns-in-Err-store-clause-leaves : goal.returns-in-Err-store-clause-leaves
returns-in-Err-store-clause-leaves g c =
    let few : c.len.result ≤ 5 = search rules in
    start_new (g.D.Disk.at c.args.disk.now).history (g.D.Disk.at c.sync.new.self).history (g.D.Disk.at c.store.new.disk).history c.store.result
    (synced_short (g.D.Disk.at c.args.disk.now).history (g.D.Disk.at c.sync.new.self).history c.len.result c.in-Ok.ensures.0 c.len.ensures few)
    c.in-Ok.ensures.0 c.store.ensures.stored

pub returns-in-Ok-true-clause-leaves : goal.returns-in-Ok-true-clause-leaves
returns-in-Ok-true-clause-leaves g c =
    leaves_read (g.D.Disk.at c.args.disk.now).history (g.D.Disk.at c.sync.new.self).history (g.D.Disk.at c.has_mark.new.disk).history c.in-Ok.ensures.0 c.has_mark.ensures.kept

pub returns-in-Ok-false-clause-leaves : goal.returns-in-Ok-false-clause-leaves
returns-in-Ok-false-clause-leaves g c =
    start_read (g.D.Disk.at c.args.disk.now).history (g.D.Disk.at c.sync.new.self).history (g.D.Disk.at c.has_mark.new.disk).history c.in-Ok.ensures.0 c.has_mark.ensures.kept

pub returns-in-Err-has_mark-clause-leaves : goal.returns-in-Err-has_mark-clause-leaves
returns-in-Err-has_mark-clause-leaves g c =
    start_read (g.D.Disk.at c.args.disk.now).history (g.D.Disk.at c.sync.new.self).history (g.D.Disk.at c.has_mark.new.disk).history c.in-Ok.ensures.0 c.has_mark.ensures.kept

pub returns-in-Ok-true-clause-begun : goal.returns-in-Ok-true-clause-begun
returns-in-Ok-true-clause-begun g c =
    let many : 5 < c.len.result = search rules in
    let M : Bool → Type 0 = λ found. MarkIs (g.D.Disk.at c.sync.new.self).history found in
    begun_old (g.D.Disk.at c.args.disk.now).history (g.D.Disk.at c.sync.new.self).history (g.D.Disk.at c.has_mark.new.disk).history c.len.result
    c.in-Ok.ensures.0 c.has_mark.ensures.kept c.len.ensures many (subst M c.in-Ok-true.field-0-test c.in-Ok-true.ensures.mark)
