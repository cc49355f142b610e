use Rattle.std.proofs.Common.{◌∙◌, arith}
use Rattle.http_front.proofs.UnescapedLemmas.{decoded_test}
use Rattle.http_front.proofs.names.is_name.Goals as goal

pub returns : goal.returns
returns c =
    c.has_name_bytes.ensures
    ∙ decoded_test c.args.text.now (omega (arith, c.decoded_length-length.ensures, c.if-length-eq0.false))
    (omega (arith, c.decoded_length-length.ensures, c.if-length-gt64.false))
