-- the body is what was read ahead
use Rattle.std.proofs.Common.{◌≤◌, List, ℕ, length, ap, arith}
use Rattle.store_base.proofs.RowReading.{change_refused_at, change_found_at}
use Rattle.store_base.proofs.rows.read_change.Goals as goal

pub returns-in-Err-clause-found : goal.returns-in-Err-clause-found
returns-in-Err-clause-found g c = λ rest s.
    let low : c.args.size ≤ length c.ahead-2.result.now = omega (arith, c.if-ahead-size.false, ap (λ (l : List ℕ). length l) c.ahead.ensures.same, ap (λ (l : List ℕ). length l) c.ahead-2.ensures.same) in
    change_refused_at c.args.size c.place-place.result c.args.window.now c.fill.new.self rest c.ahead-2.result.now c.in-Err.refusal
    c.fill.ensures.history c.fill.ensures.place c.place-place.ensures c.ahead-2.ensures.same c.ahead-2.ensures.ahead low c.in-Err.ensures s

pub returns-clause-found : goal.returns-clause-found
returns-clause-found g c = λ rest s.
    let low : c.args.size ≤ length c.ahead-2.result.now = omega (arith, c.if-ahead-size.false, ap (λ (l : List ℕ). length l) c.ahead.ensures.same, ap (λ (l : List ℕ). length l) c.ahead-2.ensures.same) in
    change_found_at c.args.size c.place-place.result c.args.window.now c.fill.new.self c.skip.new.self rest c.ahead-2.result.now c.in-Ok.change
    c.fill.ensures.history c.fill.ensures.place c.ahead-2.ensures.same c.ahead-2.ensures.ahead low c.in-Ok.ensures c.skip.ensures.history c.skip.ensures.place s
