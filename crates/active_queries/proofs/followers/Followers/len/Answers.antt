use Rattle.std.proofs.Common.{subst, sym}
use Rattle.std.specs.List.{IsDistinct}
use Rattle.query_normal.specs.Keys.{same_key}
use Rattle.active_queries.proofs.LiftLemmas.{keys-lifted}
use Rattle.active_queries.proofs.followers.Followers.len.Goals as goal

pub returns-clause-once : goal.returns-clause-once
returns-clause-once c = rw (← c.self.view_is) (subst (IsDistinct same_key) (sym (keys-lifted c.self.inside.seen c.self.inside.from c.self.inside.held.entries)) c.len.ensures.unique)
