use Rattle.std.proofs.Common.{◌≡◌, ℕ, List, suc, subst, sym, ap, ◌∙◌, arith}
use Rattle.std.proofs.lemmas.Option.{slice_get_within}
use Rattle.commit_book.specs.declared.change.CommitRow.{CommitRow}
use Rattle.match_sets.specs.Follow.{verdict_on}
use Rattle.match_sets.specs.Windows.{has_changed}
use Rattle.active_queries.specs.Following.{Follows, AreAbove}
use Rattle.active_queries.proofs.FollowLemmas.{is-next, seen-passing, seen-stepping, noted, noted-above}
use Rattle.active_queries.proofs.query.ActiveQuery.see.Goals as goal

-- a commit that passes by is seen
pub returns-then-not-is_either-clause-follows : goal.returns-then-not-is_either-clause-follows
returns-then-not-is_either-clause-follows c =
    rw (← c.self.view_is)
    (seen-passing c.equal_results_are_tested.ensures c.windows_stay_where_a_commit_passes_by.ensures _ c.args.book.now.journal c.args.row.now c.verdict_of-verdict.result (rw (← c.self.view_is) at c.requires.next)
    (c.verdict_of-verdict.ensures ∙ ap (λ q. verdict_on q c.args.row.now) c.query.ensures)
    (sym c.is_either.ensures ∙ c.if-not-is_either.true))

-- it is within the journal, and its documents are kept
pub take_step-requires : goal.take_step-requires
take_step-requires c =
    let next = c.requires.next in
    let number : c.args.row.now.commit ≡ suc c.args.self.now.seen = ap (λ (r : CommitRow). r.commit) next.2 in
    let inside = slice_get_within c.args.book.now.journal c.args.self.now.seen next.0 next.1 in
    record { kept = omega (arith, number, c.requires.kept); within = omega (arith, number, inside) }

-- and one that does not with a step
pub returns-clause-follows : goal.returns-clause-follows
returns-clause-follows c = λ kind query follows.
    let journal = c.args.book.now.journal in
    let next = (rw (← c.self.view_is) at c.requires.next) in
    let before = (rw (← c.self.view_is) at follows) in
    let verdict_is = c.verdict_of-verdict.ensures ∙ ap (λ q. verdict_on q c.args.row.now) c.query.ensures in
    let is_next = is-next kind query _ journal c.args.row.now c.verdict_of-verdict.result before next verdict_is in
    let stands = c.in_ok-step.ensures.stands before.stands is_next in
    let shows = c.in_ok-step.ensures.changed before.stands is_next c.self.inside.kind in
    let changed = has_changed c.self.inside.kind c.in_ok-step.step in
    let listed : c.note.new.changed.items ≡ noted changed c.self.inside.changed.items c.args.row.now.commit = c.note.ensures ∙ ap (λ (ns : List ℕ). noted changed ns c.args.row.now.commit) c.reserve.ensures.items in
    subst (λ (ns : List ℕ). Follows kind query (record { kind = c.self.inside.kind; set = c.take_step.new.set; seen = c.args.row.now.commit; from = c.self.inside.from; changed = ns }) journal) (sym listed)
    (seen-stepping c.equal_results_are_tested.ensures c.windows_stay_while_commits_pass_by.ensures _ c.take_step.new.set journal c.args.row.now changed next stands c.in_ok-step.ensures.at c.in_ok-step.ensures.query shows.results kind query before)

-- it is above those that were seen
pub returns-clause-above : goal.returns-clause-above
returns-clause-above c = λ n low above.
    let changed = has_changed c.self.inside.kind c.in_ok-step.step in
    let next : c.args.row.now.commit ≡ suc c.args.self.now.seen = ap (λ (r : CommitRow). r.commit) c.requires.next.2 in
    let listed : c.note.new.changed.items ≡ noted changed c.args.self.now.changed c.args.row.now.commit =
    rw (← c.self.view_is) (c.note.ensures ∙ ap (λ (ns : List ℕ). noted changed ns c.args.row.now.commit) c.reserve.ensures.items) in
    subst (AreAbove n) (sym listed) (noted-above changed c.args.self.now.changed n c.args.self.now.seen c.args.row.now.commit low next above)
