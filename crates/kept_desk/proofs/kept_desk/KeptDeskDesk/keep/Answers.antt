-- who keeps the commits keeps as many as the desk has seen, and all that was asked for
use Rattle.kept_desk.proofs.ResultLemmas.{on_ok_map, on_ok_both, on_err_map}
use Rattle.kept_desk.proofs.kept_desk.KeptDeskDesk.keep.Goals as goal

pub returns-clause-kept : goal.returns-clause-kept
returns-clause-kept g c = on_ok_both c.keep.result _ _ (on_ok_map c.keep.result _ _ (λ all. all _ c.commits-commits.ensures) c.keep.ensures.kept) c.keep.ensures.covered

pub returns-clause-unkept : goal.returns-clause-unkept
returns-clause-unkept g c = on_err_map c.keep.result _ _ c.args.self.now.told c.keep.ensures.unkept
