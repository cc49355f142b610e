-- the machine crashed, and was started again
use Rattle.std.proofs.Common.{ap, subst, ◌∙◌}
use Rattle.std.proofs.lemmas.Result.{IfOk-weaker}
use Rattle.durable_book.specs.KeptHub.{KeptView}
use Rattle.crash_core.specs.Machine.{MachineView, IsRestarted}
use Rattle.crash_core.proofs.MachineLemmas.{restart_made}
use Rattle.crash_core.proofs.machine.Machine.restart.Goals as goal

pub returns : goal.returns
returns g c =
    IfOk-weaker c.open.result _ _ (λ m opened.
    subst (λ (x : MachineView). IsRestarted c.args.number c.args.calls c.args.stop x c.args.generator.now.number c.crash_disk.new.generator.number m.0 m.1) c.self.view_is
    (restart_made c.args.number c.args.calls c.args.stop c.self.inside.store.value c.self.inside.seconds c.self.inside.expected c.stop.new.self c.into_disk-disk.result c.crash_disk.new.disk c.deref.result.now
    c.args.generator.now.number c.crash_disk.new.generator.number m.0 m.1
    (c.into_disk-disk.ensures.history ∙ ap (λ (k : KeptView). k.log.history) c.into_inner.ensures)
    c.in_ok-draws.ensures.crashed (c.deref.ensures.value ∙ c.in_ok-draws.ensures.bytes) c.in_ok-draws.ensures.number c.in_ok-stop.ensures opened)) c.open.ensures
