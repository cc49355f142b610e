use Rattle.std.proofs.Common.{take}
use Rattle.std.specs.List.{filter}
use Rattle.query_core.specs.Meaning.{satisfies}
use Rattle.query_core.specs.Candidates.{HasFirsts}
use Rattle.query_core.proofs.windows.candidates.Given as goal

abbrev pub invariant-loop-row : goal.invariant-loop-row
invariant-loop-row l = HasFirsts l.query.order l.count (filter (λ row. satisfies l.query.filter row.2) (take l.row-index l.docs)) l.firsts
