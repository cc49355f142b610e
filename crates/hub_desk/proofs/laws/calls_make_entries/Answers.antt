use Rattle.hub_desk.proofs.HistoryLemmas.{entries-represented, replies-behind}
use Rattle.hub_desk.proofs.laws.calls_make_entries.Goals as goal

-- a legal history with more entries has their state
pub returns-clause-represented : goal.returns-clause-represented
returns-clause-represented c = entries-represented c.more_entries.ensures.state c.more_entries.ensures.legal c.helped_writes_may_follow.ensures.history

pub returns-clause-replies : goal.returns-clause-replies
returns-clause-replies c = replies-behind c.more_entries.ensures.state
