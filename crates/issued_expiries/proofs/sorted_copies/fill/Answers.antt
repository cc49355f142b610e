use Rattle.std.proofs.Common.{◌∙◌, arith}
use Rattle.issued_expiries.proofs.KeepLemmas.{count_all, copies_alike}
use Rattle.issued_expiries.proofs.sorted_copies.fill.Goals as goal

pub keep_later-requires-clause-space : goal.keep_later-requires-clause-space
keep_later-requires-clause-space c = (let n = count_all c.args.clock c.args.commits.now c.args.untils.now c.requires.len in omega (arith, n, c.requires.space))

pub keep_later-requires-clause-row : goal.keep_later-requires-clause-row
keep_later-requires-clause-row c = (let n = count_all c.args.clock c.args.commits.now c.args.untils.now c.requires.len in omega (arith, n, c.requires.row))

pub returns-clause-copies : goal.returns-clause-copies
returns-clause-copies c = copies_alike _ _ _ c.args.start (c.keep_later.auto.tree ∙ c.requires.sized) c.build.ensures.row ∙ c.keep_later.ensures.copies

pub returns-clause-count : goal.returns-clause-count
returns-clause-count c = c.keep_later.ensures.count ∙ count_all c.args.clock c.args.commits.now c.args.untils.now c.requires.len
