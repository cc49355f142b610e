use Rattle.std.proofs.Common.{◌≡◌, ℕ, not, ◌&&◌, ltb, ◌+◌, ap, ◌∙◌}
use Rattle.match_sets.proofs.Journals.{ready}
use Rattle.match_sets.proofs.set.MatchSet.short.Goals as goal

-- the rows are counted
pub returns : goal.returns
returns c = λ journal stands next.
    let set = c.args.self.now in let row = c.args.row.now in
    let first : c.is_less.result ≡ (not c.args.self.now.whole && ltb c.count_after-count.result (c.args.self.now.query.skip + c.args.self.now.query.take)) = rw (← c.self.view_is) c.is_less.ensures in
    first ∙ ap (λ (n : ℕ). not set.whole && ltb n (set.query.skip + set.query.take)) (c.count_after-count.ensures (ready c.rows_follow_the_journal.ensures set journal row c.args.verdict stands next))
