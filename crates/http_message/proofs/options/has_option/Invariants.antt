use Rattle.std.proofs.Common.{◌≡◌, length}
use Rattle.http_message.specs.Fields.{has_option}
use Rattle.http_message.proofs.options.has_option.Given as goal

abbrev pub invariant-loop-member : goal.invariant-loop-member
invariant-loop-member l = has_option l.option l.rest ≡ has_option l.option l.text

abbrev pub decreases-loop-member : goal.decreases-loop-member
decreases-loop-member l = length l.rest
