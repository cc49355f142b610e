use Rattle.std.proofs.Common.{length}
use Rattle.http_front.proofs.why.name_refused.Given as goal

abbrev pub decreases-loop-field : goal.decreases-loop-field
decreases-loop-field l = length l.rest
