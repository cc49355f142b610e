-- the write is the next entry, behind those that come ahead of it
use Rattle.hub_model.specs.declared.entry.Written.{Written}
use Rattle.hub_model.specs.declared.entry.Entry.TheVariants.{Write}
use Rattle.hub_model.specs.Reply.{wrote}
use Rattle.world_core.proofs.StoreLemmas.{grown_by, prepared, write_said, write_store}
use Rattle.world_core.proofs.store.write_to.Goals as goal

pub returns-in_err-prepare-clause-grown : goal.returns-in_err-prepare-clause-grown
returns-in_err-prepare-clause-grown c = prepared c.args.desk.now c.prepare.new.desk c.args.moment c.prepare.ensures.entries c.prepare.ensures.setting

pub returns-clause-told : goal.returns-clause-told
returns-clause-told c =
    write_said c.args.desk.now c.prepare.new.desk c.write.new.self c.args.moment c.prepare.ensures.entries c.prepare.ensures.setting c.write.ensures.setting
    c.more_entries.ensures.state c.args.change c.args.condition c.write.result c.write.ensures.made

pub returns-clause-ok : goal.returns-clause-ok
returns-clause-ok c =
    write_store c.args.desk.now c.prepare.new.desk c.write.new.self c.args.moment c.prepare.ensures.entries c.prepare.ensures.setting c.write.ensures.setting
    c.args.change c.args.condition c.write.result c.write.ensures.made

pub returns-clause-grown : goal.returns-clause-grown
returns-clause-grown c =
    grown_by c.args.desk.now c.prepare.new.desk c.write.new.self c.args.moment c.prepare.ensures.entries c.prepare.ensures.setting c.write.ensures.setting
    c.write.result (λ (w : Written). Write c.args.moment c.args.change c.args.condition) (λ (w : Written). wrote w) c.write.ensures.made c.write.ensures.memory
