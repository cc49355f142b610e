-- the bytes of the number are those that it was made of
use Rattle.std.proofs.Common.{◌≡◌, length, take, drop, rules, arith}
use Rattle.std.specs.Int.{w32, from_be_bytes}
use Rattle.store_base.proofs.FieldLemmas.{number_4}
use Rattle.store_base.proofs.fields.take_u32.Goals as goal

pub returns-clause-number : goal.returns-clause-number
returns-clause-number c =
    let first : c.in_ok-number.number.now ≡ take 4 c.args.bytes.now = search rules in
    let rest : c.in_ok-number.rest.now ≡ drop 4 c.args.bytes.now = search rules in
    let size : length c.in_ok-number.number.now ≡ 4 = search rules in
    let number : c.from_be_bytes.result ≡ from_be_bytes w32 c.in_ok-number.number.now = search rules in
    number_4 c.args.bytes.now c.in_ok-number.number.now c.in_ok-number.rest.now c.from_be_bytes.result (λ i. omega (arith, c.type_inv.bytes i)) first rest size number
