-- a page of before is told with every bit set
use Rattle.std.proofs.Common.{◌∙◌}
use Rattle.hub_core.proofs.PageRoomLemmas.{all_below, none_behind}
use Rattle.hub_core.proofs.page_room.PageRoom.set_below.Goals as goal

pub returns-then-moment-guard : goal.returns-then-moment-guard
returns-then-moment-guard c = c.set_all.ensures ∙ all_below c.args.self.now c.seconds-moment.result c.args.guard (c.seconds-moment.ensures.same ∙ c.moment.ensures) c.if-moment-guard.true

pub returns-else-moment-guard : goal.returns-else-moment-guard
returns-else-moment-guard c = none_behind c.args.self.now c.seconds-moment.result c.args.guard (c.seconds-moment.ensures.same ∙ c.moment.ensures) c.if-moment-guard.false
