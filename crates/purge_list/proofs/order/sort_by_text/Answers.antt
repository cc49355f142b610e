use Rattle.std.proofs.Common.{rules}
use Rattle.purge_list.proofs.PurgeLemmas.{sorted_by_text}
use Rattle.purge_list.proofs.order.sort_by_text.Goals as goal

-- the closure compares the texts
pub returns-clause-sorted : goal.returns-clause-sorted
returns-clause-sorted c = sorted_by_text c.sort_by.new.self.items c.in_ok-sort_by.ensures.sorted (λ a r q k. search rules)
