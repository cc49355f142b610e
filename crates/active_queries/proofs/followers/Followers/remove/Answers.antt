use Rattle.std.proofs.Common.{option_map, ap, sym, ◌∙◌}
use Rattle.query_normal.specs.Keys.{same_key}
use Rattle.active_queries.specs.Following.{lifted}
use Rattle.active_queries.proofs.EntryLemmas.{removed-among}
use Rattle.active_queries.proofs.LiftLemmas.{lookup-lifted, lifted-among}
use Rattle.active_queries.proofs.followers.Followers.remove.Goals as goal

pub returns-clause-gone : goal.returns-clause-gone
returns-clause-gone c =
    lookup-lifted c.self.inside.seen c.self.inside.from (same_key c.args.key.now) c.swap_remove.new.self.entries
    ∙ ap (option_map (lifted c.self.inside.seen c.self.inside.from)) c.swap_remove.ensures.updates.1

pub returns-clause-others : goal.returns-clause-others
returns-clause-others c = λ other apart. rw (← c.self.view_is)
    (lookup-lifted c.self.inside.seen c.self.inside.from (same_key other) c.swap_remove.new.self.entries
    ∙ ap (option_map (lifted c.self.inside.seen c.self.inside.from)) (c.swap_remove.ensures.updates.2 other apart)
    ∙ sym (lookup-lifted c.self.inside.seen c.self.inside.from (same_key other) c.self.inside.held.entries))

-- the entries that are left were there
pub returns-clause-among : goal.returns-clause-among
returns-clause-among c = rw (← c.self.view_is)
    (lifted-among c.self.inside.seen c.self.inside.from c.self.inside.held.entries c.swap_remove.new.self.entries (λ e there. removed-among (same_key c.args.key.now) c.self.inside.held.entries e (rw c.swap_remove.ensures.entries at there)))
