-- the body of a change is short
use Rattle.std.proofs.Common.{List, ℕ, length, ap, arith}
use Rattle.record_log.proofs.RecordLemmas.{body_short}
use Rattle.record_log.proofs.batch.Body.of.Goals as goal

pub invariant_of-result : goal.invariant_of-result
invariant_of-result c =
    omega (arith, ap (λ (x : List ℕ). length x) c.in_ok-bytes.ensures.text, body_short c.args.change.now c.in_ok-bytes.ensures.can)
