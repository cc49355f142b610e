-- the bytes of the number are those that it was made of
use Rattle.std.proofs.Common.{◌≡◌, arith, rules}
use Rattle.std.specs.Int.{w64, from_be_bytes}
use Rattle.std.proofs.lemmas.Nat.{be_bytes_8}
use Rattle.record_log.proofs.head.clock_in.Goals as goal

pub returns : goal.returns
returns c =
    let number : c.from_be_bytes.result ≡ from_be_bytes w64 c.args.bytes.now = search rules in
    be_bytes_8 c.args.bytes.now c.from_be_bytes.result c.requires (λ i. omega (arith, c.type_inv.bytes i)) number
