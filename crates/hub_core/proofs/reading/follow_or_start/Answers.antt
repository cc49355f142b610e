-- the query has seen the last commit, and the queries stay kept
use Rattle.std.proofs.Common.{is_some, ap, sym, ◌∙◌}
use Rattle.hub_core.proofs.KeepLemmas.{keeps-followed}
use Rattle.hub_core.proofs.ReadLemmas.{seen-all}
use Rattle.active_queries.proofs.EntryLemmas.{begun-lookup}
use Rattle.hub_core.proofs.reading.follow_or_start.Goals as goal

pub returns-in_err-follow-in-Query-clause-kept : goal.returns-in_err-follow-in-Query-clause-kept
returns-in_err-follow-in-Query-clause-kept c = λ front copies idle keeps.
    keeps-followed c.args.book.now.journal front copies idle c.args.queries.now.entries keeps c.follow.new.self.entries c.follow.ensures.begun (c.follow.ensures.following keeps.following) (c.follow.ensures.seen front keeps.recent) (c.follow.ensures.above front keeps.recent keeps.listed)

pub returns-in_ok-follow-in-Query-clause-kept : goal.returns-in_ok-follow-in-Query-clause-kept
returns-in_ok-follow-in-Query-clause-kept c = λ front copies idle keeps.
    keeps-followed c.args.book.now.journal front copies idle c.args.queries.now.entries keeps c.follow.new.self.entries c.follow.ensures.begun (c.follow.ensures.following keeps.following) (c.follow.ensures.seen front keeps.recent) (c.follow.ensures.above front keeps.recent keeps.listed)

pub returns-in_ok-follow-in-Query-clause-at_hand : goal.returns-in_ok-follow-in-Query-clause-at_hand
returns-in_ok-follow-in-Query-clause-at_hand c =
    seen-all c.args.book.now.journal c.args.key.now c.count.result c.follow.new.self c.count.ensures.count
    (begun-lookup c.args.queries.now.entries c.follow.new.self.entries c.follow.ensures.begun c.args.key.now
    ∙ ap is_some (sym c.get.ensures) ∙ sym c.is_some.ensures ∙ c.if-is_some.true)
    c.in_ok-follow-in-Query.ensures.reached
