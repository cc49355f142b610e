-- the log that comes in is what was taken last
use Rattle.std.proofs.Common.{◌≡◌, rules, refl, ap, ◌+◌}
use Rattle.shared_log.specs.LogValues.{mark_of}
use Rattle.shared_log.proofs.StandLemmas.{put_done, put_lost}
use Rattle.shared_log.proofs.log_value.LogValue.put_back.Goals as goal

pub returns-clause-back : goal.returns-clause-back
returns-clause-back g c =
    let from_is : c.self.inside.stored ≡ c.args.work.from = search rules in
    let to_is : c.self.inside.taken ≡ c.args.work.to = search rules in
    put_done _ _ _ c.args.work.log (mark_of c.args.work.from) (mark_of c.args.work.to) (c.self.inside.count + 1) c.self.view_is refl (ap mark_of from_is) (ap mark_of to_is) refl c.requires

-- storing failed, and the log that comes in is what was taken last
pub returns-then-is_err-clause-lost : goal.returns-then-is_err-clause-lost
returns-then-is_err-clause-lost g c =
    let from_is : c.self.inside.stored ≡ c.args.work.from = search rules in
    put_lost _ _ _ c.args.work.log (mark_of c.args.work.from) c.self.view_is refl (ap mark_of from_is)
