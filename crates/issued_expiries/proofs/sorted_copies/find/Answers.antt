use Rattle.issued_expiries.proofs.CopyLemmas.{found_index, absent_index}
use Rattle.issued_expiries.proofs.sorted_copies.find.Goals as goal

pub returns-clause-found : goal.returns-clause-found
returns-clause-found c = found_index c.args.commits.now c.args.commit c.binary_search.result c.binary_search.ensures.position c.requires

pub returns-clause-absent : goal.returns-clause-absent
returns-clause-absent c = absent_index c.args.commits.now c.args.commit c.binary_search.result c.binary_search.ensures.position c.requires
