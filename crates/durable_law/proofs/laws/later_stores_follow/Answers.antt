-- an opening has the journal of its records, matched and unread; copies are of reads below the kept moment, and of bounded lifetimes
use Rattle.durable_law.proofs.FollowLemmas.{follows}
use Rattle.durable_law.proofs.laws.later_stores_follow.Goals as goal

pub returns : goal.returns
returns c =
    follows c.more_entries.ensures.whole c.openings_have_their_journal.ensures.state c.openings_have_their_journal.ensures.journal c.openings_have_their_journal.ensures.matched c.openings_have_their_journal.ensures.unread
