use Rattle.std.proofs.Common.{◌∙◌, ap}
use Rattle.http_front.specs.Bodies.{body_text}
use Rattle.http_front.specs.ReplyText.{given_body}
use Rattle.http_front.proofs.GiveLemmas.{head_is_of, reply_given}
use Rattle.http_front.proofs.give.give_reply.Goals as goal

pub returns : goal.returns
returns g c =
    let shape = c.args.shape.now in
    let told = c.args.told.now in
    let body = c.body_of-body in
    let head = head_is_of shape told c.args.page.now c.args.close body.result c.len.result c.of-head.result body.ensures.text body.ensures.counted c.len.ensures.len c.len.ensures.fits c.of-head.ensures in
    record {
      reply =
          reply_given _ _ shape told c.args.page.now c.args.close c.clock.result c.of-head.result c.write_head.new.self (body_text c.given.result) c.give_with.result
          head c.clock.ensures c.write_head.ensures.head (c.given.ensures ∙ ap (given_body shape told) body.ensures.text) c.give_with.ensures;
    }
