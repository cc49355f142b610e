-- what was read is a head behind an open gate
use Rattle.std.proofs.Common.{◌≡◌, ◌≤◌, ◌<◌, ◌^◌, length, get_or, refl, arith, rules}
use Rattle.record_log.proofs.GateLemmas.{open_read}
use Rattle.record_log.proofs.head.read_head.Goals as goal

pub returns-clause-head : goal.returns-clause-head
returns-clause-head g c =
    let gate : get_or c.read_at.new.into 0 0 ≡ 1 = search rules in
    let size : length c.read_at.new.into ≡ 14 = search rules in
    let all : 14 ≤ c.in-Ok.count = search rules in
    let bound : c.len.result < 2 ^ 64 = omega arith in
    open_read (g.D.Disk.at c.args.disk.now).history c.args.place c.len.result c.in-Ok.count (get_or c.read_at.new.into 1 0) c.clock_in.result c.size_in.result c.read_at.new.into
    c.len.ensures bound c.in-Ok.ensures.0 size gate all refl c.clock_in.ensures c.size_in.ensures
