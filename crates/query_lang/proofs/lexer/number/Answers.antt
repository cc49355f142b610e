-- A numeral ends with a digit, and is digits after its sign.
use Rattle.std.proofs.Common.{ap, ◌∙◌}
use Rattle.std.specs.List.{prefix_len}
use Rattle.query_lang.specs.Bytes.{is_digit}
use Rattle.query_lang.proofs.NumeralLemmas.{last_byte, numeral_span}
use Rattle.query_lang.proofs.lexer.number.Goals as goal

pub cut-requires-clause-there : goal.cut-requires-clause-there
cut-requires-clause-there c =
    (last_byte c.args.from.now _ _ c.minus_len-minus.ensures (c.run_len-count.ensures.len ∙ ap (prefix_len is_digit) c.after_minus-digits.ensures) c.if-count-gt0.true).0

pub cut-requires-clause-ascii : goal.cut-requires-clause-ascii
cut-requires-clause-ascii c =
    (last_byte c.args.from.now _ _ c.minus_len-minus.ensures (c.run_len-count.ensures.len ∙ ap (prefix_len is_digit) c.after_minus-digits.ensures) c.if-count-gt0.true).1

pub number_kind-requires : goal.number_kind-requires
number_kind-requires c =
    numeral_span c.args.from.now _ _ _ c.minus_len-minus.ensures (c.run_len-count.ensures.len ∙ ap (prefix_len is_digit) c.after_minus-digits.ensures) c.if-count-gt0.true c.cut.ensures.prefix
