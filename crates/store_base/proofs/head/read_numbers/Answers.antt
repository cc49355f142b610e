-- what was read ahead begins as what is there does
use Rattle.store_base.proofs.HeadReading.{numbers_refused_at, numbers_found_at}
use Rattle.store_base.proofs.head.read_numbers.Goals as goal

pub returns-in-Err-clause-found : goal.returns-in-Err-clause-found
returns-in-Err-clause-found g c = λ rest s.
    numbers_refused_at c.place-place.result c.args.window.now c.fill.new.self rest c.ahead-2.result.now c.in-Some.ensures.numbers.0 c.in-Some.start c.in-Err.refusal
    c.fill.ensures.history c.fill.ensures.place c.place-place.ensures c.ahead-2.ensures.same c.ahead-2.ensures.ahead c.in-Some.ensures.numbers.1 c.in-Err.ensures s

pub returns-clause-found : goal.returns-clause-found
returns-clause-found g c = λ rest s.
    numbers_found_at c.args.window.now c.fill.new.self c.skip.new.self rest c.ahead-2.result.now c.in-Some.ensures.numbers.0 c.in-Some.start
    c.fill.ensures.history c.fill.ensures.place c.ahead-2.ensures.same c.ahead-2.ensures.ahead c.in-Some.ensures.numbers.1 c.in-Ok.ensures c.skip.ensures.history c.skip.ensures.place s
