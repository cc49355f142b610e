-- what the session says of its write
use Rattle.client_session.specs.Link.{page}
use Rattle.world_core.specs.Link.{Answers, seen_as}
use Rattle.world_core.proofs.RunLemmas.{passed_holds, went_holds}
use Rattle.world_core.proofs.world.delete.Goals as goal

pub returns-in-Ok-clause-stays : goal.returns-in-Ok-clause-stays
returns-in-Ok-clause-stays c = λ held h. passed_holds seen_as Answers c.args.link.now c.delete.ensures.by.0 c.delete.new.link c.delete.ensures.by.1 held h

pub returns-in-Err-clause-stays : goal.returns-in-Err-clause-stays
returns-in-Err-clause-stays c = λ held h. passed_holds seen_as Answers c.args.link.now c.delete.ensures.by.0 c.delete.new.link c.delete.ensures.by.1 held h

pub returns-in-Ok-clause-delete : goal.returns-in-Ok-clause-delete
returns-in-Ok-clause-delete c = record {
  commit = _;
  by = c.in-Ok.ensures.by;
  session = c.in-Ok.ensures.session;
  past = c.in-Ok.ensures.past;
}
