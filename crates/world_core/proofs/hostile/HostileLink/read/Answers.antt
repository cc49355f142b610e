-- what was told is noted, where there is memory
use Rattle.world_core.specs.Hostile.{earlier}
use Rattle.world_core.proofs.HostileLemmas.{noted_grown, noted_last, noted_ok, noted_rest, noted_told}
use Rattle.world_core.proofs.hostile.HostileLink.read.Goals as goal

pub returns-clause-ok : goal.returns-clause-ok
returns-clause-ok c =
    noted_ok c.args.self.now c.told.new.self c.note.new.self c.args.key.now c.note.result c.note.ensures.given
    _ (earlier c.args.back c.args.key.now c.args.self.now.given) c.args.no_cache c.in_ok-reply.reply c.note.ensures.same c.in_ok-reply.ensures.ok

pub returns-clause-told : goal.returns-clause-told
returns-clause-told c =
    noted_told c.args.self.now c.told.new.self c.note.new.self c.args.key.now c.note.result c.note.ensures.given c.in_ok-reply.reply c.note.ensures.same c.in_ok-reply.ensures.told

pub returns-clause-grown : goal.returns-clause-grown
returns-clause-grown c = noted_grown c.args.self.now c.told.new.self c.note.new.self c.args.key.now c.note.result c.note.ensures.given c.in_ok-reply.ensures.grown

pub returns-clause-last : goal.returns-clause-last
returns-clause-last c = noted_last c.args.self.now c.told.new.self c.note.new.self c.args.key.now c.note.result c.note.ensures.given c.in_ok-reply.ensures.last

pub returns-clause-rest : goal.returns-clause-rest
returns-clause-rest c = noted_rest c.args.self.now c.told.new.self c.note.new.self c.args.key.now c.note.result c.note.ensures.given c.in_ok-reply.ensures.rest
