use Rattle.std.proofs.Common.{◌≡◌, ◌+◌, take, min}
use Rattle.std.specs.Str.Parse.{digits_value}
use Rattle.http_message.specs.Limits.{body_limit}
use Rattle.http_message.proofs.framing.number.Given as goal

abbrev pub invariant-loop-byte : goal.invariant-loop-byte
invariant-loop-byte l = l.number ≡ min (digits_value 10 (take l.byte-index l.digits)) (body_limit + 1)
