-- what was read ahead begins as what is there does
use Rattle.std.proofs.Common.{rules}
use Rattle.store_base.proofs.RowReading.{start_refused_at, start_found_at}
use Rattle.store_base.proofs.rows.read_start.Goals as goal

pub returns-in-Err-clause-found : goal.returns-in-Err-clause-found
returns-in-Err-clause-found g c = λ rest s.
    start_refused_at c.args.last c.args.horizon c.place-place.result c.args.window.now c.fill.new.self rest c.ahead.result.now c.in-Some.field-0-1.now c.in-Some.start c.in-Err.refusal
    c.fill.ensures.history c.fill.ensures.place c.place-place.ensures c.ahead.ensures.same c.ahead.ensures.ahead c.in-Some.ensures.start c.in-Err.ensures s

pub returns-clause-found : goal.returns-clause-found
returns-clause-found g c = λ rest s.
    start_found_at c.args.last c.args.horizon c.args.window.now c.fill.new.self c.skip.new.self rest c.ahead.result.now c.in-Some.field-0-1.now c.in-Some.start
    c.fill.ensures.history c.fill.ensures.place c.ahead.ensures.same c.ahead.ensures.ahead c.in-Some.ensures.start (search rules) c.skip.ensures.history c.skip.ensures.place s
