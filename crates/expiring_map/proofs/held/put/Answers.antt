use Rattle.std.proofs.Common.{◌∙◌}
use Rattle.expiring_map.proofs.HeldLemmas.{insert_last, covered_new}
use Rattle.expiring_map.proofs.held.put.Goals as goal

-- a new key is last
pub returns-clause-entries : goal.returns-clause-entries
returns-clause-entries g c = c.insert.ensures.entries ∙ insert_last c.args.held.now.entries c.args.key c.args.timed c.requires.absent

-- its index was pushed
pub returns-clause-covered : goal.returns-clause-covered
returns-clause-covered g c =
    covered_new _ _ _ _ c.args.key c.args.timed _ (c.insert.ensures.entries ∙ insert_last c.args.held.now.entries c.args.key c.args.timed c.requires.absent) c.len.ensures.len c.push_due.ensures.pushed c.requires.covered
