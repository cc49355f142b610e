use Rattle.expiring_map.proofs.HeldLemmas.{covered_moved, parted_at}
use Rattle.expiring_map.proofs.held.drop_at.Goals as goal

-- the other indexes are covered as before
pub cover-requires-clause-covered : goal.cover-requires-clause-covered
cover-requires-clause-covered g c =
    covered_moved c.args.held.now.entries c.swap_remove_index.new.self.entries _ c.args.index (c.in-Some.key, c.in-Some.timed) c.requires.within c.in-Some.ensures.entries c.requires.covered

-- the entry at the index was removed, and no other has its key
pub returns-clause-removes : goal.returns-clause-removes
returns-clause-removes g c = record {
  parted = parted_at _ _ c.args.index (c.in-Some.key, c.in-Some.timed) c.requires.within c.in-Some.ensures.entry c.in-Some.ensures.entries;
  absent = c.in-Some.ensures.updates.1;
}
