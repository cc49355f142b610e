use Rattle.std.proofs.Common.{◌≤◌, ap, sym, subst, ◌∙◌}
use Rattle.std.specs.Map.{keys_of}
use Rattle.active_queries.specs.Following.{FollowsKey, AreFollowing}
use Rattle.active_queries.specs.Queries.{HaveSeen, ListAbove}
use Rattle.active_queries.proofs.EntryLemmas.{All-and, All-forgotten, all-above, keys-forgotten}
use Rattle.active_queries.proofs.FollowLemmas.{entry-forgotten}
use Rattle.active_queries.proofs.IndexedLemmas.{indexed-forgotten}
use Rattle.active_queries.proofs.queries.ActiveQueries.forget.Goals as goal

-- a query that has seen the commit follows as before
pub returns-clause-following : goal.returns-clause-following
returns-clause-following c = rw (← c.self.view_is) (λ journal seen following.
    subst (AreFollowing journal) (sym c.forget.ensures.entries)
    (All-forgotten (λ e. (c.args.to ≤ e.1.seen) × FollowsKey journal e) (FollowsKey journal) c.args.to c.self.inside.followers.entries (entry-forgotten journal c.args.to)
    (All-and (λ e. c.args.to ≤ e.1.seen) (FollowsKey journal) c.self.inside.followers.entries seen following)))

pub returns-clause-seen : goal.returns-clause-seen
returns-clause-seen c = rw (← c.self.view_is) (λ n seen.
    subst (HaveSeen n) (sym c.forget.ensures.entries)
    (All-forgotten (λ e. n ≤ e.1.seen) (λ e. n ≤ e.1.seen) c.args.to c.self.inside.followers.entries (λ e low. low) seen))

pub returns-clause-keys : goal.returns-clause-keys
returns-clause-keys c = rw (← c.self.view_is) (ap keys_of c.forget.ensures.entries ∙ keys-forgotten c.args.to c.self.inside.followers.entries)

pub returns-clause-above : goal.returns-clause-above
returns-clause-above c = subst (ListAbove c.args.to) (sym c.forget.ensures.entries) (all-above c.args.to c.self.inside.followers.entries)

pub invariant_of-self : goal.invariant_of-self
invariant_of-self c = record { indexed = indexed-forgotten c.args.to c.self.inside.followers.entries c.forget.new.self.entries c.self.inside.ready c.self.inside.index c.forget.ensures.entries c.self.invariant.indexed }
