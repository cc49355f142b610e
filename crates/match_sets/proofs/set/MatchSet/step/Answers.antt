use Rattle.std.proofs.Common.{◌<◌, arith}
use Rattle.match_sets.proofs.Journals.{ready, stands_after, window_at, quiet_step}
use Rattle.match_sets.proofs.LawLemmas.{change_shown}
use Rattle.match_sets.proofs.ToldLemmas.{step_told}
use Rattle.match_sets.proofs.set.MatchSet.step.Goals as goal

-- the kept rows follow the journal
pub returns-clause-stands : goal.returns-clause-stands
returns-clause-stands c = λ journal stands next long.
    let old = c.args.self.now in let row = c.args.row.now in let following = c.rows_follow_the_journal.ensures in
    let is_ready = ready following old journal row c.args.verdict stands next in
    stands_after following old journal row c.args.verdict stands next c.go.new.self long c.go.ensures.query c.in_ok-made.ensures.at (c.in_ok-made.ensures.rows is_ready stands.first.most)
    (c.in_ok-made.ensures.whole is_ready)

-- and the window is among them
pub returns-clause-window : goal.returns-clause-window
returns-clause-window c = λ journal stands next long.
    let old = c.args.self.now in let row = c.args.row.now in
    window_at c.go.new.self journal old.query row.commit (returns-clause-stands c journal stands next long) c.go.ensures.query c.in_ok-made.ensures.at

-- what is told is so of the two windows
pub returns-clause-told : goal.returns-clause-told
returns-clause-told c = λ journal stands next long own.
    let old = c.args.self.now in let row = c.args.row.now in let following = c.rows_follow_the_journal.ensures in
    let is_ready = ready following old journal row c.args.verdict stands next in
    let some : 0 < old.query.take = rw (← c.self.view_is) (omega (arith, c.self.invariant.take_some)) in
    step_told following old journal row c.args.verdict stands next own some c.go.new.self _ c.go.ensures.query (c.in_ok-made.ensures.rows is_ready stands.first.most) (c.in_ok-made.ensures.told is_ready)

-- nothing happened to the rows
pub returns-clause-quiet : goal.returns-clause-quiet
returns-clause-quiet c = λ journal stands is. quiet_step c.args.self.now c.go.new.self journal c.args.row.now c.args.verdict _ stands is c.in_ok-made.ensures.rows c.in_ok-made.ensures.whole c.in_ok-made.ensures.told

-- so it tells which results differ
pub returns-clause-changed : goal.returns-clause-changed
returns-clause-changed c = λ journal stands next long.
    change_shown c.rows_follow_the_journal.ensures c.versions_are_of_one_document.ensures c.results_are_told_by_versions.ensures c.args.self.now journal c.args.row.now c.args.verdict stands next c.go.new.self _ (returns-clause-window c journal stands next long)
    (λ own. returns-clause-told c journal stands next long own) (λ is. (returns-clause-quiet c journal stands is).0)

pub returns-clause-kept : goal.returns-clause-kept
returns-clause-kept c = λ journal stands next.
    let old = c.args.self.now in let row = c.args.row.now in
    c.in_ok-made.ensures.rows (ready c.rows_follow_the_journal.ensures old journal row c.args.verdict stands next) stands.first.most

pub returns-clause-whole : goal.returns-clause-whole
returns-clause-whole c = λ journal stands next. c.in_ok-made.ensures.whole (ready c.rows_follow_the_journal.ensures c.args.self.now journal c.args.row.now c.args.verdict stands next)
