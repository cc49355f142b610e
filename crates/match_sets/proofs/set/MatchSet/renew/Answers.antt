use Rattle.std.proofs.Common.{◌<◌, ◌∙◌, take, ap, sym, arith, List}
use Rattle.query_core.specs.Window.{Row}
use Rattle.match_sets.specs.Contents.{most_rows}
use Rattle.match_sets.proofs.Journals.{started_stands, window_at}
use Rattle.match_sets.proofs.LawLemmas.{change_shown, quiet_renewal, next_within}
use Rattle.match_sets.proofs.ToldLemmas.{renewal_told}
use Rattle.match_sets.proofs.set.MatchSet.renew.Goals as goal

-- the order of the documents does not matter
pub returns-clause-stands : goal.returns-clause-stands
returns-clause-stands c = λ journal within have.
    let old = c.args.self.now in let row = c.args.row.now in
    started_stands c.remake.new.self old.query c.args.docs.now journal row.commit c.in_ok-made.ensures.at (sym c.remake.ensures.query) within
    (c.matches_stay_in_any_order_of_documents.ensures old.query journal row.commit c.args.docs.now have) c.in_ok-made.ensures.first

-- and the window is among the rows
pub returns-clause-window : goal.returns-clause-window
returns-clause-window c = λ journal within have.
    let old = c.args.self.now in let row = c.args.row.now in
    window_at c.remake.new.self journal old.query row.commit (returns-clause-stands c journal within have) c.remake.ensures.query c.in_ok-made.ensures.at

-- what is told is so of the two windows
pub returns-clause-told : goal.returns-clause-told
returns-clause-told c = λ journal stands next have own.
    let old = c.args.self.now in let row = c.args.row.now in
    let some : 0 < old.query.take = rw (← c.self.view_is) (omega (arith, c.self.invariant.take_some)) in
    renewal_told c.rows_follow_the_journal.ensures old journal row c.args.verdict stands next own some c.remake.new.self _ c.remake.ensures.query
    (c.in_ok-made.ensures.rows ∙ ap (λ (l : List Row). take (most_rows old.query) l) (c.matches_stay_in_any_order_of_documents.ensures old.query journal row.commit c.args.docs.now have)) c.in_ok-made.ensures.told

-- so it tells which results differ
pub returns-clause-changed : goal.returns-clause-changed
returns-clause-changed c = λ journal stands next have.
    let old = c.args.self.now in let row = c.args.row.now in
    let within = next_within old journal row c.args.verdict next in
    change_shown c.rows_follow_the_journal.ensures c.versions_are_of_one_document.ensures c.results_are_told_by_versions.ensures old journal row c.args.verdict stands next c.remake.new.self _ (returns-clause-window c journal within have)
    (λ own. returns-clause-told c journal stands next have own) (λ is. quiet_renewal old.query row.id old.rows c.remake.new.self.rows c.args.verdict _ is c.in_ok-made.ensures.told)
