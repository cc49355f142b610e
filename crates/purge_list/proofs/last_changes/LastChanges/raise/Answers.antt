use Rattle.std.proofs.Common.{sym}
use Rattle.purge_list.proofs.ChangeLemmas.{known_after, not_raised, raised}
use Rattle.purge_list.proofs.last_changes.LastChanges.raise.Goals as goal

-- the greater commit was written
pub returns-clause-changes : goal.returns-clause-changes
returns-clause-changes c =
    rw (← c.self.view_is)
    (raised c.self.inside.keys _ c.args.key.now c.in-Some.last.now c.max.result (sym c.in-Some.ensures.value) (c.get_mut.follows.holds c.max.result) c.args.commit c.max.ensures)

-- the entry of the key was written
pub returns-clause-known : goal.returns-clause-known
returns-clause-known c =
    rw (← c.self.view_is)
    (known_after c.self.inside.keys _ c.args.key.now c.in-Some.last.now c.max.result (sym c.in-Some.ensures.value) (c.get_mut.follows.holds c.max.result))

-- a key without an entry is left
pub returns-in_default-clause-changes : goal.returns-in_default-clause-changes
returns-in_default-clause-changes c =
    rw (← c.self.view_is, c.get_mut.follows.holds-at-none)
    (not_raised c.self.inside.keys.entries c.args.key.now c.args.commit (sym c.in_default.ensures.value))
