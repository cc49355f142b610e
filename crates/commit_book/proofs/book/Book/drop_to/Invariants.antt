use Rattle.std.proofs.Common.{◌≡◌, ◌≤◌, ◌-◌}
use Rattle.commit_book.specs.Contents.{with_horizon}
use Rattle.commit_book.proofs.book.Book.drop_to.Given as goal

abbrev pub invariant-loop-self : goal.invariant-loop-self
invariant-loop-self l = (l.self ≡ with_horizon l.fn.self l.self.horizon l.self.names) × (l.self.horizon ≤ l.to)

abbrev pub decreases-loop-self : goal.decreases-loop-self
decreases-loop-self l = l.to - l.self.horizon
