use Rattle.std.proofs.Common.{◌<◌, arith}
use Rattle.http_message.proofs.LineLemmas.{end_filled, trailers_empty, line_here}
use Rattle.http_message.proofs.line.trailers_end.Goals as goal

pub returns-in-Some-eq0 : goal.returns-in-Some-eq0
returns-in-Some-eq0 c =
    end_filled c.args.bytes.now c.find_head_end.result (rw c.in-Some-eq0.field-0-test at c.in-Some-eq0.ensures.some)
    c.find_head_end.ensures

pub returns-in-Some : goal.returns-in-Some
returns-in-Some c =
    let some : 0 < c.in-Some.size = omega arith in
    trailers_empty c.args.bytes.now c.in-Some.size (line_here c.args.bytes.now c.in-Some.size c.in-Some.ensures.some) some
