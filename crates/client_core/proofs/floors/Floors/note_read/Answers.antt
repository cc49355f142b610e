use Rattle.std.proofs.Common.{◌∷◌, refl, arith}
use Rattle.client_core.specs.Floor.{read}
use Rattle.client_core.proofs.TableLemmas.{read_adds}
use Rattle.client_core.proofs.floors.Floors.note_read.Goals as goal

pub returns-clause-past : goal.returns-clause-past
returns-clause-past c = λ past had.
    c.put.ensures.past past (read c.args.mark c.args.commit ∷ past) had (read_adds past c.args.mark c.args.commit c.args.self.now.pages had.some_pages) (omega arith) refl
