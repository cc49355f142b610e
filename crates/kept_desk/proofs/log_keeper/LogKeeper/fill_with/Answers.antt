-- the commits of the disk were written
use Rattle.kept_desk.proofs.ResultLemmas.{on_ok_map}
use Rattle.kept_desk.proofs.log_keeper.LogKeeper.fill_with.Goals as goal

pub fill_by-requires : goal.fill_by-requires
fill_by-requires g c = (_, c.in-Ok.ensures.begun)

pub returns-in-Ok-clause-written : goal.returns-in-Ok-clause-written
returns-in-Ok-clause-written g c = on_ok_map c.fill_by.result _ _ (λ all. all _ c.in-Ok.ensures.begun) c.fill_by.ensures.written

pub returns-in-Ok-clause-opened : goal.returns-in-Ok-clause-opened
returns-in-Ok-clause-opened g c = on_ok_map c.fill_by.result _ _ (λ all. all _ c.in-Ok.ensures.begun) c.fill_by.ensures.opened
