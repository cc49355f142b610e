-- the rows of what a base stands for are its own
use Rattle.std.proofs.Common.{arith}
use Rattle.store_base.proofs.DocumentLemmas.{documents_stay}
use Rattle.store_base.proofs.laws.documents_stay_from_the_horizon_on.Goals as goal

pub returns : goal.returns
returns c = λ journal horizon moment n collection id low high. documents_stay journal horizon moment (omega (arith, low, high)) n collection id low
