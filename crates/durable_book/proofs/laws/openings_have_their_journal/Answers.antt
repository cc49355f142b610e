-- record by record, and then the match and the tick
use Rattle.durable_book.proofs.ReplayLemmas.{opening-state, opening-legal, opening-matched, opening-journal, opening-unread, opening-whole}
use Rattle.durable_book.proofs.laws.openings_have_their_journal.Goals as goal

pub returns-clause-state : goal.returns-clause-state
returns-clause-state c = opening-state c.more_entries.ensures.whole

pub returns-clause-legal : goal.returns-clause-legal
returns-clause-legal c = opening-legal c.no_entry_is_legal.ensures.state c.no_entry_is_legal.ensures.legal c.more_entries.ensures.whole c.more_entries.ensures.state c.more_entries.ensures.legal c.helped_writes_may_follow.ensures.history

pub returns-clause-journal : goal.returns-clause-journal
returns-clause-journal c = opening-journal

pub returns-clause-matched : goal.returns-clause-matched
returns-clause-matched c = λ g records moment. opening-matched c.no_entry_is_legal.ensures.state c.no_entry_is_legal.ensures.legal c.more_entries.ensures.whole c.more_entries.ensures.state c.more_entries.ensures.legal c.helped_writes_may_follow.ensures.history g c.front_is_within.ensures records moment

pub returns-clause-unread : goal.returns-clause-unread
returns-clause-unread c = opening-unread

pub returns-clause-whole : goal.returns-clause-whole
returns-clause-whole c = opening-whole
