use Rattle.std.proofs.Common.{◌-◌, length}
use Rattle.http_message.specs.HeadScan.{Passes}
use Rattle.http_message.proofs.scan.find_head_end.Given as goal

abbrev pub invariant-loop-feed : goal.invariant-loop-feed
invariant-loop-feed l = Passes l.rest l.at

abbrev pub decreases-loop-feed : goal.decreases-loop-feed
decreases-loop-feed l = length l.rest - l.at
