-- what was read ahead begins with a tail where what is there does
use Rattle.std.proofs.Common.{◌≡◌, ◌∙◌, sym, List, ℕ, None, length, ap, arith, rules}
use Rattle.store_base.specs.Tails.{tail_in}
use Rattle.store_base.proofs.HeadReading.{behind_less, tail_refused_at, tail_found_at}
use Rattle.store_base.proofs.head.read_tail.Goals as goal

pub overflow_sub-tail : goal.overflow_sub-tail
overflow_sub-tail g c =
    let less = behind_less c.ahead.result.now c.in-Ok.tail c.in-Ok.rest.now c.in-Ok.ensures in
    omega (arith, less, ap (λ (l : List ℕ). length l) c.ahead.ensures.same, ap (λ (l : List ℕ). length l) c.ahead-in-Ok.ensures.same)

pub returns-in-Err-Bad-clause-found : goal.returns-in-Err-Bad-clause-found
returns-in-Err-Bad-clause-found g c = λ rest s.
    let none : tail_in c.ahead.result.now ≡ None = rw c.in-Err-Bad.field-0-is at c.in-Err-Bad.ensures in
    let refused = tail_refused_at c.place-place.result c.args.window.now c.fill.new.self rest c.ahead.result.now c.fill.ensures.history c.fill.ensures.place c.place-place.ensures
    c.ahead.ensures.same c.ahead.ensures.ahead (search rules) none s in
    refused

pub returns-clause-found : goal.returns-clause-found
returns-clause-found g c = λ rest s.
    let same = ap (λ (l : List ℕ). length l) (c.ahead-in-Ok.ensures.same ∙ sym c.ahead.ensures.same) in
    tail_found_at _ c.args.window.now c.fill.new.self c.skip.new.self rest c.ahead.result.now c.in-Ok.rest.now c.in-Ok.tail c.fill.ensures.history c.fill.ensures.place
    c.ahead.ensures.same c.ahead.ensures.ahead c.in-Ok.ensures (omega (arith, same)) c.skip.ensures.history c.skip.ensures.place s
