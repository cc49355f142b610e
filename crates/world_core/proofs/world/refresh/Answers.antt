-- what the session says of its page
use Rattle.client_session.specs.Link.{page}
use Rattle.world_core.specs.Link.{Answers, seen_as}
use Rattle.world_core.proofs.RunLemmas.{passed_holds, went_holds}
use Rattle.world_core.proofs.world.refresh.Goals as goal

pub returns-in-Ok-clause-stays : goal.returns-in-Ok-clause-stays
returns-in-Ok-clause-stays c = λ held h. went_holds (seen_as c.args.link.now) (seen_as c.refresh.new.link) (page c.refresh.ensures.by.0) held c.refresh.ensures.by.1.1 h

pub returns-in-Err-clause-stays : goal.returns-in-Err-clause-stays
returns-in-Err-clause-stays c = λ held h. went_holds (seen_as c.args.link.now) (seen_as c.refresh.new.link) (page c.refresh.ensures.by.0) held c.refresh.ensures.by.1.1 h

pub returns-in-Ok-clause-refresh : goal.returns-in-Ok-clause-refresh
returns-in-Ok-clause-refresh c = record {
  refreshed = _;
  by = c.in-Ok.ensures.by;
  past = c.in-Ok.ensures.past;
}
