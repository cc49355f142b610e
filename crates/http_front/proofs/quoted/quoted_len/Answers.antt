use Rattle.std.proofs.Common.{length, ap, arith}
use Rattle.json.specs.Print.{escape}
use Rattle.std.proofs.lemmas.List.{drop_all}
use Rattle.http_front.proofs.QuotedLemmas.{escape_left, quoted_length}
use Rattle.http_front.proofs.quoted.quoted_len.Goals as goal

-- one byte more is counted, and one less is left
pub loop-byte-preserved : goal.loop-byte-preserved
loop-byte-preserved c =
    let left = escape_left c.args.text.now c.loop-byte.byte-index (omega arith) in
    record {
      same = omega (arith, left, c.loop-byte.invariant.same, c.loop-byte.invariant.fits, c.escape_len.ensures, c.saturating_add-len.ensures);
      fits = omega (arith, c.saturating_add-len.ensures);
    }

-- nothing is left, and the quotes were counted
pub returns : goal.returns
returns c =
    let text = c.args.text.now in
    let left = ap (λ bytes. length (escape bytes)) (drop_all c.loop-byte.byte-index text (omega arith)) in
    omega (arith, left, quoted_length text, c.loop-byte.invariant.same, c.loop-byte.invariant.fits)
