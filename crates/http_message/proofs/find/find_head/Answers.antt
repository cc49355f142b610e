use Rattle.http_message.specs.HeadFound.{IsUnread}
use Rattle.http_message.proofs.InputLemmas.{grows_more}
use Rattle.http_message.proofs.LookLemmas.{scanned_more}
use Rattle.http_message.proofs.find.find_head.Goals as goal

-- the search holds still with the bytes that came
pub loop-found-preserved : goal.loop-found-preserved
loop-found-preserved g c =
    let seen = rw c.bytes.ensures at c.in-Err.ensures in
    let came = c.in_ok-fill-in-Err.ensures in
    record {
      grows = grows_more IsUnread _ _ _ _ c.loop-found.input c.fill.new.self c.loop-found.invariant.grows seen.0 came;
      scanned = scanned_more c.loop-found.input c.fill.new.self came.got c.in-Err.further seen.0.space came.adds seen.1;
    }
