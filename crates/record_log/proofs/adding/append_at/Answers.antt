-- what the calls so far leave of the log, at each return
use Rattle.record_log.proofs.Steps.{leaves_first, leaves_second, leaves_4, added_4, both_stored}
use Rattle.record_log.proofs.adding.append_at.Goals as goal

pub returns-in-Err-clause-leaves : goal.returns-in-Err-clause-leaves
returns-in-Err-clause-leaves g c =
    leaves_first (g.D.Disk.at c.args.disk.now).history (g.D.Disk.at c.store.new.disk).history c.args.gate c.args.text.now c.in-Err.ensures.stored

pub returns-in-Ok-store-clause-added : goal.returns-in-Ok-store-clause-added
returns-in-Ok-store-clause-added g c =
    added_4 (g.D.Disk.at c.args.disk.now).history (g.D.Disk.at c.store-2.new.disk).history c.args.gate c.args.text.now
    (both_stored _ (g.D.Disk.at c.store.new.disk).history _ c.args.gate c.args.text.now c.in-Ok.ensures.stored c.in-Ok-store.ensures.stored)

pub returns-in-Ok-store-clause-leaves : goal.returns-in-Ok-store-clause-leaves
returns-in-Ok-store-clause-leaves g c =
    leaves_4 (g.D.Disk.at c.args.disk.now).history (g.D.Disk.at c.store-2.new.disk).history c.args.gate c.args.text.now
    (both_stored _ (g.D.Disk.at c.store.new.disk).history _ c.args.gate c.args.text.now c.in-Ok.ensures.stored c.in-Ok-store.ensures.stored)

pub returns-in-Err-store-clause-leaves : goal.returns-in-Err-store-clause-leaves
returns-in-Err-store-clause-leaves g c =
    leaves_second (g.D.Disk.at c.args.disk.now).history (g.D.Disk.at c.store.new.disk).history (g.D.Disk.at c.store-2.new.disk).history c.args.gate c.args.text.now
    c.in-Ok.ensures.stored c.in-Err-store.ensures.stored
