-- the queries have followed, and what they list is added to the invalidations of records
use Rattle.std.proofs.Common.{arith}
use Rattle.hub_core.proofs.IssueLemmas.{active-below, some-active}
use Rattle.hub_core.proofs.KeepLemmas.{keeps-followed, keeps-seen}
use Rattle.hub_core.proofs.MatchLemmas.{invalidations-all}
use Rattle.hub_core.proofs.invalidations.reserve_invalidations.Goals as goal

-- the queries have seen the horizon, which is not above the front
pub follow_all-requires-clause-kept : goal.follow_all-requires-clause-kept
follow_all-requires-clause-kept c = keeps-seen c.args.book.now.journal c.args.front c.args.book.now.horizon c.args.copies.now.copies c.args.copies.now.idle c.args.queries.now.entries c.requires.above c.requires.kept

pub returns-in_err-follow_all-clause-kept : goal.returns-in_err-follow_all-clause-kept
returns-in_err-follow_all-clause-kept c =
    keeps-followed c.args.book.now.journal c.args.front c.args.copies.now.copies c.args.copies.now.idle c.args.queries.now.entries c.requires.kept c.follow_all.new.self.entries
    c.follow_all.ensures.begun (c.follow_all.ensures.following c.requires.kept.following) (c.follow_all.ensures.seen c.args.front c.requires.kept.recent) (c.follow_all.ensures.above c.args.front c.requires.kept.recent c.requires.kept.listed)

pub returns-in_err-invalidations-clause-kept : goal.returns-in_err-invalidations-clause-kept
returns-in_err-invalidations-clause-kept c =
    keeps-followed c.args.book.now.journal c.args.front c.args.copies.now.copies c.args.copies.now.idle c.args.queries.now.entries c.requires.kept c.follow_all.new.self.entries
    c.follow_all.ensures.begun (c.follow_all.ensures.following c.requires.kept.following) (c.follow_all.ensures.seen c.args.front c.requires.kept.recent) (c.follow_all.ensures.above c.args.front c.requires.kept.recent c.requires.kept.listed)

pub returns-in_err-push_query_invalidations-clause-kept : goal.returns-in_err-push_query_invalidations-clause-kept
returns-in_err-push_query_invalidations-clause-kept c =
    keeps-followed c.args.book.now.journal c.args.front c.args.copies.now.copies c.args.copies.now.idle c.args.queries.now.entries c.requires.kept c.follow_all.new.self.entries
    c.follow_all.ensures.begun (c.follow_all.ensures.following c.requires.kept.following) (c.follow_all.ensures.seen c.args.front c.requires.kept.recent) (c.follow_all.ensures.above c.args.front c.requires.kept.recent c.requires.kept.listed)

-- where no key is active, no commit has to invalidate one
pub returns-then-active_count-eq0-clause-kept : goal.returns-then-active_count-eq0-clause-kept
returns-then-active_count-eq0-clause-kept c =
    keeps-followed c.args.book.now.journal c.args.front c.args.copies.now.copies c.args.copies.now.idle c.args.queries.now.entries c.requires.kept c.follow_all.new.self.entries
    c.follow_all.ensures.begun (c.follow_all.ensures.following c.requires.kept.following) (c.follow_all.ensures.seen c.args.front c.requires.kept.recent) (c.follow_all.ensures.above c.args.front c.requires.kept.recent c.requires.kept.listed)

pub returns-then-active_count-eq0-clause-invalidations : goal.returns-then-active_count-eq0-clause-invalidations
returns-then-active_count-eq0-clause-invalidations c = λ key commit some.
    let more = some-active c.args.copies.now.copies key (active-below c.args.copies.now.copies key commit some) in
    absurd (omega (arith, more, c.active_count.ensures, c.if-active_count-eq0.true))

pub returns-clause-kept : goal.returns-clause-kept
returns-clause-kept c =
    keeps-followed c.args.book.now.journal c.args.front c.args.copies.now.copies c.args.copies.now.idle c.args.queries.now.entries c.requires.kept c.follow_all.new.self.entries
    c.follow_all.ensures.begun (c.follow_all.ensures.following c.requires.kept.following) (c.follow_all.ensures.seen c.args.front c.requires.kept.recent) (c.follow_all.ensures.above c.args.front c.requires.kept.recent c.requires.kept.listed)

pub returns-clause-invalidations : goal.returns-clause-invalidations
returns-clause-invalidations c =
    invalidations-all c.args.book.now.journal c.args.front c.args.to c.args.copies.now.copies c.args.copies.now.idle c.follow_all.new.self.entries c.in_ok-invalidations.invalidations.items c.push_query_invalidations.new.invalidations.items
    (returns-clause-kept c) c.in_ok-follow_all.ensures.reached c.in_ok-invalidations.ensures.invalidations c.in_ok-push_query_invalidations.ensures.invalidations
