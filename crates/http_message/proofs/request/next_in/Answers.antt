use Rattle.std.proofs.Common.{rules, refl, arith}
use Rattle.std.proofs.lemmas.List.{with_items_is}
use Rattle.std.proofs.lemmas.Result.{err_from_is_err_and}
use Rattle.http_message.proofs.TakenLemmas.{takes_request, takes_broken, stops_early, stops_late, waits_body}
use Rattle.http_message.proofs.request.next_in.Goals as goal

pub returns-in_err-refused-clause-next : goal.returns-in_err-refused-clause-next
returns-in_err-refused-clause-next g c message =
    let heads = c.in_err-refused.ensures in
    let p = err_from_is_err_and c.from_residual.result c.from_residual.ensures.1 in
    rw (p.1, p.2, ← c.buffers.view_is)
    (stops_early _ _ c.buffers.inside.input heads.got c.args.offset message heads.took _ _ c.in_err-refused.field-0.0 heads.is)

pub returns-in_err-size-clause-next : goal.returns-in_err-size-clause-next
returns-in_err-size-clause-next g c message =
    let heads = rw c.in-Framed.is at c.in_ok-refused.ensures in
    let body = c.in_err-size.ensures in
    let p = err_from_is_err_and c.from_residual-in_err-size.result c.from_residual-in_err-size.ensures.1 in
    rw (p.1, p.2, ← c.buffers.view_is)
    (stops_late _ _ c.buffers.inside.input heads.got c.args.offset message heads.took _ _ c.next_head.new.input c.next_head.new.text
    c.next_head.new.spans c.in-Framed.head heads.is _ body.got body.took c.in_ok-give_continue.ensures.gave _
    c.in_err-size.field-0.0 body.came)

pub returns-in_err-size-clause-waits : goal.returns-in_err-size-clause-waits
returns-in_err-size-clause-waits g c =
    let heads = rw c.in-Framed.is at c.in_ok-refused.ensures in
    rw (← c.buffers.view_is)
    (waits_body c.buffers.inside.input heads.got c.next_head.new.input c.next_head.new.text c.next_head.new.spans c.in-Framed.head heads.is
    _ _ _ c.take_body.ensures.got heads.waits c.take_body.ensures.waits)

pub returns-clause-next : goal.returns-clause-next
returns-clause-next g c message =
    let inside = c.buffers.inside in
    let heads = rw c.in-Framed.is at c.in_ok-refused.ensures in
    let body = rw c.in-Whole.is at c.in_ok-size.ensures in
    rw (
      with_items_is inside.text c.next_head.new.text (omega (arith, c.next_head.auto.text, inside.text.ok.0)),
      with_items_is inside.spans c.next_head.new.spans (omega (arith, c.next_head.auto.spans, inside.spans.ok.0)),
      with_items_is inside.body c.take_body.new.body (omega (arith, c.take_body.auto.body, inside.body.ok.0)),
      ← c.buffers.view_is,
    ) (
      (
        takes_request _ _ inside.input heads.got c.args.offset message heads.took _ _ c.next_head.new.input c.next_head.new.text
            c.next_head.new.spans c.in-Framed.head heads.is _ body.got body.took c.in_ok-give_continue.ensures.gave
            c.take_body.new.input c.take_body.new.body body.came.used c.in-Whole.size c.in-Whole.used _
            body.came.splits body.came.says refl,
        refl,
      ),
      record { text_within = heads.is.text_within; parts = heads.is.at.within; body_within = body.came.says.0 },
    )

pub returns-clause-waits : goal.returns-clause-waits
returns-clause-waits g c =
    let heads = rw c.in-Framed.is at c.in_ok-refused.ensures in
    rw (← c.buffers.view_is)
    (waits_body c.buffers.inside.input heads.got c.next_head.new.input c.next_head.new.text c.next_head.new.spans c.in-Framed.head heads.is
    _ _ _ c.take_body.ensures.got heads.waits c.take_body.ensures.waits)

pub returns-in-Broken-clause-next : goal.returns-in-Broken-clause-next
returns-in-Broken-clause-next g c message =
    let inside = c.buffers.inside in
    let heads = rw c.in-Framed.is at c.in_ok-refused.ensures in
    let body = rw c.in-Broken.is at c.in_ok-size.ensures in
    rw (c.unframed-in-Broken.ensures.taken, c.unframed-in-Broken.ensures.last_request, ← c.buffers.view_is) (
      (
        c.in-Framed.head.expects_continue,
        takes_broken _ _ inside.input heads.got c.args.offset message heads.took _ _ c.next_head.new.input c.next_head.new.text
            c.next_head.new.spans c.in-Framed.head heads.is _ body.got body.took c.in_ok-give_continue.ensures.gave
            c.take_body.new.input c.take_body.new.body body.came.used c.in-Broken.refused c.in-Broken.used
            c.unframed-in-Broken.result.offset _ body.came.splits body.came.says c.unframed-in-Broken.ensures.offset,
        refl,
      ),
      search rules,
    )

pub returns-in-Broken-clause-waits : goal.returns-in-Broken-clause-waits
returns-in-Broken-clause-waits g c =
    let heads = rw c.in-Framed.is at c.in_ok-refused.ensures in
    rw (← c.buffers.view_is)
    (waits_body c.buffers.inside.input heads.got c.next_head.new.input c.next_head.new.text c.next_head.new.spans c.in-Framed.head heads.is
    _ _ _ c.take_body.ensures.got heads.waits c.take_body.ensures.waits)
