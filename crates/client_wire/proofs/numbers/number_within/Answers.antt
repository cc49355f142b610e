use Rattle.std.proofs.Common.{◌≡◌, ◌+◌, ◌<◌, ◌≤◌, min, sym, ◌∙◌, arith}
use Rattle.std.specs.Str.Parse.{digits_value}
use Rattle.client_wire.proofs.NumberLemmas.{no_number, number_above, number_fits}
use Rattle.client_wire.proofs.numbers.number_within.Goals as goal

pub returns-then-not-is_number-clause-value : goal.returns-then-not-is_number-clause-value
returns-then-not-is_number-clause-value c = sym (no_number c.args.text.now c.args.most (sym c.is_number.ensures.value ∙ c.if-not-is_number.true))

pub returns-then-number-from-clause-value : goal.returns-then-number-from-clause-value
returns-then-number-from-clause-value c =
    let is : c.capped-number.result ≡ min (digits_value 10 c.args.text.now) (c.args.most + 1) =
    omega (arith, c.capped-number.ensures, c.from.ensures) in
    let above : c.args.most < c.capped-number.result = omega (arith, c.from-2.ensures, c.if-number-from.true) in
    sym (number_above c.args.text.now c.args.most c.capped-number.result
    (sym c.is_number.ensures.value ∙ c.if-not-is_number.false) is above)

pub returns-clause-value : goal.returns-clause-value
returns-clause-value c =
    let is : c.capped-number.result ≡ min (digits_value 10 c.args.text.now) (c.args.most + 1) =
    omega (arith, c.capped-number.ensures, c.from.ensures) in
    let low : c.capped-number.result ≤ c.args.most = omega (arith, c.from-2.ensures, c.if-number-from.false) in
    sym (number_fits c.args.text.now c.args.most c.capped-number.result
    (sym c.is_number.ensures.value ∙ c.if-not-is_number.false) is low)
