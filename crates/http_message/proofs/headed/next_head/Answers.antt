use Rattle.std.proofs.Common.{◌+◌, arith, lit≤}
use Rattle.http_message.specs.Limits.{head_limit}
use Rattle.http_message.proofs.ItemLemmas.{headed_bad, heads_grow, bad_first, item_bare_cr, item_large}
use Rattle.http_message.proofs.headed.next_head.Goals as goal

pub returns-in-Ok-BareCr : goal.returns-in-Ok-BareCr
returns-in-Ok-BareCr g c =
    let found = rw c.in-Ok-BareCr.field-0-is at c.in-Ok-BareCr.ensures.found in
    heads_grow _ _ _ c.find_head.new.input _ _ _ c.find_head.ensures.grows c.refuse.result
    (headed_bad _ _ _ _ c.refuse.result _ _ c.refuse.ensures.is
    (bad_first c.find_head.new.input c.refuse.new.input _ (c.in-Ok-BareCr.empty_lines + 2)
    (item_bare_cr c.find_head.new.input c.in-Ok-BareCr.empty_lines found) c.refuse.ensures.skips (omega arith) found.limit found.within))

pub returns-in-Ok-TooLarge : goal.returns-in-Ok-TooLarge
returns-in-Ok-TooLarge g c =
    let found = rw c.in-Ok-TooLarge.field-0-is at c.in-Ok-TooLarge.ensures.found in
    heads_grow _ _ _ c.find_head.new.input _ _ _ c.find_head.ensures.grows c.refuse-in-Ok-TooLarge.result
    (headed_bad _ _ _ _ c.refuse-in-Ok-TooLarge.result _ _ c.refuse-in-Ok-TooLarge.ensures.is
    (bad_first c.find_head.new.input c.refuse-in-Ok-TooLarge.new.input _ head_limit
    (item_large c.find_head.new.input found) c.refuse-in-Ok-TooLarge.ensures.skips (omega arith) (lit≤ tt) found.full))
