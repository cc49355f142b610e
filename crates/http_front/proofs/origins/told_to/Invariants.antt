use Rattle.std.proofs.Common.{◌≡◌, length}
use Rattle.http_front.specs.Origins.{origins_in, told_to}
use Rattle.http_front.proofs.origins.told_to.Given as goal

abbrev pub invariant-loop-page : goal.invariant-loop-page
invariant-loop-page l = told_to (origins_in l.rest) l.page ≡ told_to (origins_in l.origins) l.page

abbrev pub decreases-loop-page : goal.decreases-loop-page
decreases-loop-page l = length l.rest
