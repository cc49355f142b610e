use Rattle.std.proofs.Common.{ap, rules}
use Rattle.purge_list.specs.LastChanges.{Changes, change_of}
use Rattle.purge_list.proofs.ChangeLemmas.{reserved_new}
use Rattle.purge_list.proofs.last_changes.LastChanges.reserve.Goals as goal
use Rattle.purge_list.proofs.last_changes.LastChanges.reserve.Goals.{in-Ok, in-Err}

-- a new key has commit 0, as it had without an entry
pub returns-clause-changes : goal.returns-clause-changes
returns-clause-changes c =
    rw (← c.self.view_is)
    (elim c.match-insert.branch [
      | in-Ok w ↦ reserved_new c.self.inside.keys.entries c.insert.new.self.entries c.in_ok-key.key (search rules) w.in-Ok.ensures.updates.0
      | in-Err w ↦ (λ other. ap (λ (entries : Changes). change_of entries other) w.in-Err.ensures.err)
    ])
