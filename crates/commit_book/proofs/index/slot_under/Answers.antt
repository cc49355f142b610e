-- the memory of an id that is there, or of a new one
use Rattle.std.proofs.Common.{sym, arith, refl}
use Rattle.commit_book.proofs.PlaceLemmas.{keeps-under, known-slot}
use Rattle.commit_book.proofs.index.slot_under.Goals as goal

pub returns-in_err-reserve-in-Some-clause-keeps : goal.returns-in_err-reserve-in-Some-clause-keeps
returns-in_err-reserve-in-Some-clause-keeps c =
    keeps-under c.args.records.now c.args.id.now c.in-Some.record _ c.pair_mut-known.result.1.now (sym c.in-Some.ensures.index) c.pair_mut-known.ensures.value _ c.pair_mut-known.ensures.unique
    refl c.reserve.ensures.items c.reserve.ensures.len (omega (arith, c.reserve.ensures.capacity))

pub returns-in_ok-reserve-in-Some-clause-keeps : goal.returns-in_ok-reserve-in-Some-clause-keeps
returns-in_ok-reserve-in-Some-clause-keeps c =
    keeps-under c.args.records.now c.args.id.now c.in-Some.record _ c.pair_mut-known.result.1.now (sym c.in-Some.ensures.index) c.pair_mut-known.ensures.value _ c.pair_mut-known.ensures.unique
    refl c.reserve.ensures.items c.reserve.ensures.len (omega (arith, c.reserve.ensures.capacity))

pub returns-in_ok-reserve-in-Some-clause-ok : goal.returns-in_ok-reserve-in-Some-clause-ok
returns-in_ok-reserve-in-Some-clause-ok c =
    known-slot c.args.records.now c.args.id.now c.in-Some.record _ c.pair_mut-known.result.1.now (sym c.in-Some.ensures.index) c.pair_mut-known.ensures.value _ c.pair_mut-known.ensures.unique
    c.args.collection (omega (arith, c.in_ok-reserve-in-Some.ensures.ok))
