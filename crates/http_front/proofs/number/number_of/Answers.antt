use Rattle.std.proofs.Common.{sym, ◌∙◌}
use Rattle.std.proofs.lemmas.Str.Parse.{parse_digits}
use Rattle.std.specs.Prelude.{Ok, Err}
use Rattle.std.specs.declared.num.ParseIntError.{ParseIntError}
use Rattle.http_front.proofs.NumberLemmas.{own, decimal_digits, decimal_some, digits_utf8, number_of_bad, number_of_fit, number_of_large}
use Rattle.http_front.proofs.number.number_of.Goals as goal

pub returns-then-not-is_decimal : goal.returns-then-not-is_decimal
returns-then-not-is_decimal c = sym (number_of_bad c.args.text.now (sym c.is_decimal.ensures ∙ c.if-not-is_decimal.true))

pub returns-in_default : goal.returns-in_default
returns-in_default c =
    let decimal = sym c.is_decimal.ensures ∙ c.if-not-is_decimal.false in
    absurd (c.in_default.ensures.cases.0 (digits_utf8 c.args.text.now (decimal_digits c.args.text.now decimal)))

pub returns-in-Ok-parse : goal.returns-in-Ok-parse
returns-in-Ok-parse c =
    let text = c.args.text.now in
    let decimal = sym c.is_decimal.ensures ∙ c.if-not-is_decimal.false in
    let parses = rw (c.in-Ok.ensures.cases.0, c.in-Ok-parse.is) at c.parse.ensures.value.0 in
    let read = parse_digits own {E = ParseIntError} 64 text (Ok c.in-Ok-parse.number) parses (decimal_digits text decimal) in
    sym (number_of_fit text c.in-Ok-parse.number decimal read.0.1 read.1)

pub returns-in-Err : goal.returns-in-Err
returns-in-Err c =
    let text = c.args.text.now in
    let decimal = sym c.is_decimal.ensures ∙ c.if-not-is_decimal.false in
    let parses = rw (c.in-Ok.ensures.cases.0, c.in-Err.is) at c.parse.ensures.value.0 in
    let read = parse_digits own {E = ParseIntError} 64 text (Err c.in-Err.field-0) parses (decimal_digits text decimal) in
    sym (number_of_large text (λ fits. read (decimal_some text decimal, fits)))
