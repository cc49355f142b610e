use Rattle.std.proofs.Common.{◌-◌, length}
use Rattle.http_message.specs.HeadFound.{IsUnread}
use Rattle.http_message.specs.Input.{Grows}
use Rattle.http_message.specs.HeadScan.{IsScanned}
use Rattle.http_message.specs.Text.{window}
use Rattle.http_message.specs.Limits.{head_limit}
use Rattle.http_message.proofs.find.find_head.Given as goal

abbrev pub invariant-loop-found : goal.invariant-loop-found
invariant-loop-found g l = record {
  grows : Grows (g.S.Source.at l.fn.source) (g.S.Source.at l.source) IsUnread l.fn.input l.input;
  scanned : IsScanned (window l.input) l.scan;
}

abbrev pub decreases-loop-found : goal.decreases-loop-found
decreases-loop-found g l = head_limit - length l.input
