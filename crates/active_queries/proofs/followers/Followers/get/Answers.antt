use Rattle.std.proofs.Common.{Some, option_map, ap, sym, ◌∙◌}
use Rattle.query_normal.specs.Keys.{same_key}
use Rattle.active_queries.specs.Following.{lifted}
use Rattle.active_queries.proofs.LiftLemmas.{lookup-lifted}
use Rattle.active_queries.proofs.followers.Followers.get.Goals as goal

pub returns-in-Some : goal.returns-in-Some
returns-in-Some c = rw (← c.self.view_is)
    (ap Some c.of.ensures
    ∙ sym (lookup-lifted c.self.inside.seen c.self.inside.from (same_key c.args.key.now) c.self.inside.held.entries ∙ ap (option_map (lifted c.self.inside.seen c.self.inside.from)) (sym c.in-Some.ensures.value)))

pub returns-in-None : goal.returns-in-None
returns-in-None c = rw (← c.self.view_is)
    (sym (lookup-lifted c.self.inside.seen c.self.inside.from (same_key c.args.key.now) c.self.inside.held.entries ∙ ap (option_map (lifted c.self.inside.seen c.self.inside.from)) (sym c.in-None.ensures.value)))
