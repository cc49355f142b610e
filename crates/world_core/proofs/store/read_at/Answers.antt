-- the read is the next entry, at the last commit
use Rattle.hub_model.specs.declared.entry.Answer.{Answer}
use Rattle.hub_model.specs.declared.entry.Entry.TheVariants.{Read}
use Rattle.hub_model.specs.Reply.{read}
use Rattle.world_core.proofs.StoreLemmas.{grown_by, prepared, read_said, read_store}
use Rattle.world_core.proofs.store.read_at.Goals as goal

pub returns-in_err-prepare-clause-grown : goal.returns-in_err-prepare-clause-grown
returns-in_err-prepare-clause-grown c = prepared c.args.desk.now c.prepare.new.desk c.args.moment c.prepare.ensures.entries c.prepare.ensures.setting

pub returns-clause-told : goal.returns-clause-told
returns-clause-told c =
    read_said c.args.desk.now c.prepare.new.desk c.read.new.self c.args.moment c.prepare.ensures.entries c.prepare.ensures.setting c.read.ensures.setting
    c.one_entry_more.ensures.legal c.args.key c.args.tags c.read.result c.read.ensures.made c.read.ensures.fresh

pub returns-clause-ok : goal.returns-clause-ok
returns-clause-ok c =
    read_store c.args.desk.now c.prepare.new.desk c.read.new.self c.args.moment c.prepare.ensures.entries c.prepare.ensures.setting c.read.ensures.setting
    c.one_entry_more.ensures.legal c.args.key c.args.tags c.read.result c.read.ensures.made c.read.ensures.fresh

pub returns-clause-grown : goal.returns-clause-grown
returns-clause-grown c =
    grown_by c.args.desk.now c.prepare.new.desk c.read.new.self c.args.moment c.prepare.ensures.entries c.prepare.ensures.setting c.read.ensures.setting
    c.read.result (λ (a : Answer). Read c.args.moment c.args.key c.args.tags a.commit) (λ (a : Answer). read a) c.read.ensures.made c.read.ensures.memory
