use Rattle.std.proofs.Common.{◌≤◌, ◌*◌}
use Rattle.http_message.specs.Limits.{item_limit}
use Rattle.http_tests.proofs.requests.report_items.Given as goal

abbrev pub invariant-loop-turn : goal.invariant-loop-turn
invariant-loop-turn g l = l.room.offset ≤ l._turn * item_limit
