use Rattle.std.proofs.Common.{ℕ, ap, ◌∙◌}
use Rattle.active_queries.specs.Queries.{all_lifted}
use Rattle.active_queries.proofs.LiftLemmas.{lifted-raised}
use Rattle.active_queries.proofs.followers.Followers.raise.Goals as goal

pub returns-clause-entries : goal.returns-clause-entries
returns-clause-entries c = rw (← c.self.view_is)
    (ap (λ (n : ℕ). all_lifted n c.self.inside.from c.self.inside.held.entries) c.max-self-inside.ensures ∙ lifted-raised c.self.inside.seen c.self.inside.from c.args.seen c.self.inside.held.entries)
