use Rattle.std.proofs.Common.{ℕ, arith}
use Rattle.std.proofs.lemmas.List.{length-append, length-drop, length-take}
use Rattle.http_message.proofs.BodyLemmas.{exact_is}
use Rattle.http_message.proofs.body.take_exact.Goals as goal

pub returns : goal.returns
returns g c =
    exact_is _ _ _ _ c.args.into.now c.copy_from_slice.new.self c.take_all.new.into c.min-held.result c.take_all.result
    (rw c.len.ensures at c.min-held.ensures) (rw c.bytes.ensures at c.copy_from_slice.ensures.after) c.skip.ensures
    (omega (arith, length-append {A = ℕ}, length-drop {A = ℕ}, length-take {A = ℕ})) c.take_all.ensures.full c.take_all.ensures.idle
