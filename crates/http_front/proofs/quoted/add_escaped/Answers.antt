-- What needs no escape is added, and then the escape of the byte behind it.
use Rattle.std.proofs.Common.{◌++◌}
use Rattle.std.proofs.lemmas.Result.{err_from_is_err_and}
use Rattle.json.specs.Print.{escape}
use Rattle.http_front.proofs.BufferLemmas.{goes_on, goes_to_end, fails}
use Rattle.http_front.proofs.QuotedLemmas.{escape_behind, escape_next, escape_plain}
use Rattle.http_front.proofs.quoted.add_escaped.Goals as goal

pub returns-in_err-end : goal.returns-in_err-end
returns-in_err-end g c =
    let p = err_from_is_err_and c.from_residual.result c.from_residual.ensures.1 in
    let plain = c.part_plain.result.0.now in
    let behind = c.part_plain.result.1.now in
    let old = c.loop-end.invariant.buffered in
    rw p.1
    (fails _ _ _ _ _ plain (escape behind)
    (rw (escape_behind c.loop-end.rest.now plain behind c.part_plain.ensures.parts c.part_plain.ensures.plain) at old) c.in_err-end.ensures)

pub returns-in_default : goal.returns-in_default
returns-in_default g c =
    let plain = c.part_plain.result.0.now in
    let behind = c.part_plain.result.1.now in
    let old = c.loop-end.invariant.buffered in (
      c.in_ok-end.ensures.0,
      goes_to_end _ _ _ _ _ plain _
          (rw (escape_plain c.loop-end.rest.now plain behind c.part_plain.ensures.parts c.part_plain.ensures.plain c.in_default.ensures.cases) at old)
          c.in_ok-end.ensures.1,
    )

pub returns-in_err-end-2 : goal.returns-in_err-end-2
returns-in_err-end-2 g c =
    let p = err_from_is_err_and c.from_residual-in_err-end-2.result c.from_residual-in_err-end-2.ensures.1 in
    let plain = c.part_plain.result.0.now in
    let escaped = c.escape_of.result.now in
    let others = c.in-Some.others.now in
    let next = escape_next c.loop-end.rest.now plain c.part_plain.result.1.now others escaped c.in-Some.byte.now c.part_plain.ensures.parts c.part_plain.ensures.plain c.in-Some.ensures.cases.0 c.escape_of.ensures in
    let old = c.loop-end.invariant.buffered in
    rw p.1
    (fails _ _ _ _ _ escaped (escape others) (goes_on _ _ _ _ _ plain (escaped ++ escape others) _ (rw next at old) c.in_ok-end.ensures.1) c.in_err-end-2.ensures)

pub loop-end-preserved : goal.loop-end-preserved
loop-end-preserved g c =
    let plain = c.part_plain.result.0.now in
    let escaped = c.escape_of.result.now in
    let others = c.in-Some.others.now in
    let next = escape_next c.loop-end.rest.now plain c.part_plain.result.1.now others escaped c.in-Some.byte.now c.part_plain.ensures.parts c.part_plain.ensures.plain c.in-Some.ensures.cases.0 c.escape_of.ensures in
    let old = c.loop-end.invariant.buffered in
    record {
      within = c.in_ok-end-2.ensures.0;
      buffered =
          goes_on _ _ _ _ _ escaped (escape others) _
          (goes_on _ _ _ _ _ plain (escaped ++ escape others) _ (rw next at old) c.in_ok-end.ensures.1)
          c.in_ok-end-2.ensures.1;
    }
