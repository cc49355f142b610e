-- what was read ahead begins as what is there does
use Rattle.store_base.proofs.HeadReading.{count_found_at}
use Rattle.store_base.proofs.head.read_count.Goals as goal

pub returns-clause-found : goal.returns-clause-found
returns-clause-found g c = λ rest s.
    count_found_at c.args.window.now c.fill.new.self c.skip.new.self rest c.ahead.result.now c.in-Some.field-0-1.now c.in-Some.count
    c.fill.ensures.history c.fill.ensures.place c.ahead.ensures.same c.ahead.ensures.ahead c.in-Some.ensures.number c.skip.ensures.history c.skip.ensures.place s
