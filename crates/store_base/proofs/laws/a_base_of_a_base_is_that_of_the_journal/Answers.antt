-- the rows of what a base stands for are its own
use Rattle.std.proofs.Common.{arith}
use Rattle.store_base.proofs.DocumentLemmas.{base_again}
use Rattle.store_base.proofs.laws.a_base_of_a_base_is_that_of_the_journal.Goals as goal

pub returns : goal.returns
returns c = λ journal horizon moment later kept low high. base_again journal horizon moment (omega (arith, low, high)) later kept low
