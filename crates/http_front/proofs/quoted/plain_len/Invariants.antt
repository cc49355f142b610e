use Rattle.std.proofs.Common.{◌≡◌, take}
use Rattle.json.specs.Print.{escape}
use Rattle.http_front.proofs.quoted.plain_len.Given as goal

-- the bytes so far need no escape
abbrev pub invariant-loop-index : goal.invariant-loop-index
invariant-loop-index l = escape (take l.index l.text) ≡ take l.index l.text
