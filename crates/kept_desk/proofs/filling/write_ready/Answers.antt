-- the change was written, or memory ran out
use Rattle.hub_model.specs.declared.entry.Condition.TheVariants.{Always}
use Rattle.hub_model.specs.declared.entry.Entry.TheVariants.{Write}
use Rattle.std.proofs.Common.{refl}
use Rattle.kept_desk.proofs.FillLemmas.{fills_learned, fills_made, writes_made}
use Rattle.kept_desk.proofs.ResultLemmas.{on_ok}
use Rattle.kept_desk.proofs.filling.write_ready.Goals as goal

pub returns-in-Ok-clause-fills : goal.returns-in-Ok-clause-fills
returns-in-Ok-clause-fills g c = fills_made (g.D.Desk.setting c.args.desk.now) (g.D.Desk.seen c.args.desk.now) _ (g.D.Desk.mine c.args.desk.now) _ (Write c.args.clock c.args.change Always) _ c.in-Ok.ensures.made refl

pub returns-in-Ok-clause-written : goal.returns-in-Ok-clause-written
returns-in-Ok-clause-written g c = on_ok c.number_of.result _ (writes_made (g.D.Desk.setting c.args.desk.now) (g.D.Desk.seen c.args.desk.now) _ (g.D.Desk.mine c.args.desk.now) _ (Write c.args.clock c.args.change Always) _ c.in-Ok.ensures.made)

pub returns-in-Err-clause-fills : goal.returns-in-Err-clause-fills
returns-in-Err-clause-fills g c = fills_learned (g.D.Desk.setting c.args.desk.now) (g.D.Desk.seen c.args.desk.now) _ (g.D.Desk.mine c.args.desk.now) _ c.in-Err.ensures.memory
