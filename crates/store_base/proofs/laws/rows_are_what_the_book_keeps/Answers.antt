-- commit by commit
use Rattle.std.proofs.Common.{take}
use Rattle.store_base.proofs.RowLemmas.{rows_bases}
use Rattle.store_base.proofs.laws.rows_are_what_the_book_keeps.Goals as goal

pub returns : goal.returns
returns c = λ journal horizon moment. rows_bases 1 (take horizon journal)
