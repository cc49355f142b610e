-- what the session says of its read
use Rattle.client_session.specs.Link.{page}
use Rattle.world_core.specs.Link.{Answers, seen_as}
use Rattle.world_core.proofs.RunLemmas.{passed_holds, went_holds}
use Rattle.world_core.proofs.world.read.Goals as goal

pub returns-in-Ok-clause-stays : goal.returns-in-Ok-clause-stays
returns-in-Ok-clause-stays c = λ held h. passed_holds seen_as Answers c.args.link.now c.read.ensures.by.0 c.read.new.link c.read.ensures.by.1 held h

pub returns-in-Err-clause-stays : goal.returns-in-Err-clause-stays
returns-in-Err-clause-stays c = λ held h. passed_holds seen_as Answers c.args.link.now c.read.ensures.by.0 c.read.new.link c.read.ensures.by.1 held h

pub returns-in-Ok-clause-read : goal.returns-in-Ok-clause-read
returns-in-Ok-clause-read c = λ holds. record {
  by = c.in-Ok.ensures.by;
  front = c.in-Ok.ensures.front;
  floor = c.in-Ok.ensures.floor;
  body = c.in-Ok.ensures.fresh holds;
  page = c.read.ensures.page;
  past = c.in-Ok.ensures.past;
}
