-- below the guard, and from it on
use Rattle.std.proofs.Common.{Option, arith, ap, ◌∙◌}
use Rattle.query_normal.specs.Pages.{Page}
use Rattle.hub_core.specs.PageRoom.{PageRoomView}
use Rattle.durable_book.proofs.KeptLemmas.{covers-above, covers-below}
use Rattle.durable_book.proofs.kept_hub.cover.Goals as goal

pub returns-then-guard-seconds : goal.returns-then-guard-seconds
returns-then-guard-seconds c =
    let seconds = c.seconds-seconds.ensures.same ∙ c.moment.ensures in
    let room : PageRoomView = c.args.room.now in
    ap (λ (o : Option Page). record room { page = o }) (covers-above c.args.guard room (omega (arith, seconds)))

pub returns : goal.returns
returns c =
    let seconds = c.seconds-seconds.ensures.same ∙ c.moment.ensures in
    let room : PageRoomView = c.args.room.now in
    c.set_all.ensures ∙ ap (λ (o : Option Page). record room { page = o }) (covers-below c.args.guard room (omega (arith, seconds)))
