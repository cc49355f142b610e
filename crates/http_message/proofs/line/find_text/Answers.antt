use Rattle.http_message.specs.Line.{IsOpenIn}
use Rattle.http_message.proofs.InputLemmas.{grows_more}
use Rattle.http_message.proofs.LineLemmas.{passed_more}
use Rattle.http_message.proofs.line.find_text.Goals as goal

-- the search holds still with the bytes that came
pub loop-found-preserved : goal.loop-found-preserved
loop-found-preserved g c =
    let seen = rw c.bytes.ensures at c.in-Err.ensures in
    let came = c.in_ok-fill-in-Err.ensures in
    record {
      grows = grows_more (IsOpenIn c.args.sought c.args.capacity) _ _ _ _ c.loop-found.input c.fill.new.self c.loop-found.invariant.grows seen.0 came;
      passed = passed_more c.args.sought c.args.capacity c.loop-found.input c.fill.new.self came.got c.in-Err.further seen.0.short came.adds seen.1;
    }
