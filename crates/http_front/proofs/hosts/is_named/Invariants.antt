use Rattle.std.proofs.Common.{◌≡◌, length}
use Rattle.std.specs.List.{list_any}
use Rattle.http_front.specs.Hosts.{is_host}
use Rattle.http_front.specs.Origins.{origins_in}
use Rattle.http_front.proofs.hosts.is_named.Given as goal

abbrev pub invariant-loop-behind : goal.invariant-loop-behind
invariant-loop-behind l = list_any (is_host l.host) (origins_in l.rest) ≡ list_any (is_host l.host) (origins_in l.hosts)

abbrev pub decreases-loop-behind : goal.decreases-loop-behind
decreases-loop-behind l = length l.rest
