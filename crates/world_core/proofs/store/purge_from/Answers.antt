-- the ask for purges is the next entry
use Rattle.hub_model.specs.declared.entry.PurgeReply.{PurgeReply}
use Rattle.hub_model.specs.declared.entry.Entry.TheVariants.{Purges}
use Rattle.hub_model.specs.Reply.{purged, told_of}
use Rattle.world_core.proofs.StoreLemmas.{grown_by, prepared, purges_said, purges_store}
use Rattle.world_core.proofs.store.purge_from.Goals as goal

pub returns-in_err-prepare-clause-grown : goal.returns-in_err-prepare-clause-grown
returns-in_err-prepare-clause-grown c = prepared c.args.desk.now c.prepare.new.desk c.args.moment c.prepare.ensures.entries c.prepare.ensures.setting

pub returns-clause-told : goal.returns-clause-told
returns-clause-told c =
    purges_said c.args.desk.now c.prepare.new.desk c.purges.new.self c.args.moment c.prepare.ensures.entries c.prepare.ensures.setting c.purges.ensures.setting
    c.args.from (λ (p : PurgeReply). told_of p) c.purges.result c.purges.ensures.made

pub returns-clause-ok : goal.returns-clause-ok
returns-clause-ok c =
    purges_store c.args.desk.now c.prepare.new.desk c.purges.new.self c.args.moment c.prepare.ensures.entries c.prepare.ensures.setting c.purges.ensures.setting
    c.args.from (λ (p : PurgeReply). told_of p) c.purges.result c.purges.ensures.made

pub returns-clause-grown : goal.returns-clause-grown
returns-clause-grown c =
    grown_by c.args.desk.now c.prepare.new.desk c.purges.new.self c.args.moment c.prepare.ensures.entries c.prepare.ensures.setting c.purges.ensures.setting
    c.purges.result (λ (p : PurgeReply). Purges c.args.moment c.args.from) (λ (p : PurgeReply). purged (told_of p)) c.purges.ensures.made c.purges.ensures.memory
