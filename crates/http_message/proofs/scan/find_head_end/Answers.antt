use Rattle.std.proofs.Common.{◌<◌, arith}
use Rattle.std.proofs.lemmas.List.{take_rest}
use Rattle.http_message.proofs.ScanLemmas.{feed_cut, feed_ends, passes_feed, passes_all}
use Rattle.http_message.proofs.scan.find_head_end.Goals as goal

pub returns-in_default : goal.returns-in_default
returns-in_default c =
    (passes_all c.args.rest.now c.in_default.ensures.none, c.in_default.ensures.none)

pub returns-in-None : goal.returns-in-None
returns-in-None c =
    let feed = c.in-Some.ensures.some.0 in
    (feed_cut c.args.rest.now c.in-Some.feed feed (rw take_rest at c.in-None.ensures.none), feed.passes)

pub loop-feed-preserved : goal.loop-feed-preserved
loop-feed-preserved c =
    passes_feed c.args.rest.now c.in-Some.feed c.in-Some.ensures.some.0
    (rw (take_rest, c.in-Some-eq0.field-0-test) at c.in-Some-eq0.ensures.some)

pub returns-in-Some-empty_line : goal.returns-in-Some-empty_line
returns-in-Some-empty_line c =
    let some : 0 < c.in-Some-empty_line.size = omega arith in
    feed_ends c.args.rest.now c.in-Some.feed c.in-Some-empty_line.size c.in-Some.ensures.some.0
    (rw take_rest at c.in-Some-empty_line.ensures.some) some
