use Rattle.std.proofs.Common.{◌∷◌, refl, arith}
use Rattle.client_core.specs.Floor.{listed}
use Rattle.client_core.proofs.TableLemmas.{listed_adds}
use Rattle.client_core.proofs.floors.Floors.list.Goals as goal

pub returns-clause-past : goal.returns-clause-past
returns-clause-past c = λ past had.
    c.put.ensures.past past (listed c.args.mark ∷ past) had (listed_adds past c.args.mark c.args.self.now.pages) (omega arith) refl
