-- one byte more
use Rattle.std.proofs.Common.{◌≡◌, ℕ, ◌+◌, ◌-◌, suc, List, ◌++◌, ap, sym, ◌∙◌, append-nil, arith}
use Rattle.crash_core.specs.Steps.{bytes_from}
use Rattle.world_core.specs.Draws.{after}
use Rattle.crash_core.proofs.LineLemmas.{bytes_on, after_on}
use Rattle.crash_core.proofs.machine.drawn_bytes.Goals as goal

pub loop-place-preserved : goal.loop-place-preserved
loop-place-preserved c =
    let one : c.args.count - c.loop-place._place ≡ suc (c.args.count - (c.loop-place._place + 1)) = omega arith in
    record {
      bytes =
          ap (λ (xs : List ℕ). xs ++ bytes_from (c.args.count - (c.loop-place._place + 1)) c.draw.new.self.number) c.in_ok-push.ensures.items
          ∙ bytes_on c.loop-place.draws.items _ c.loop-place.generator.number c.draw.new.self.number (c.args.count - c.loop-place._place) (c.args.count - (c.loop-place._place + 1)) one c.draw.ensures.number (omega arith)
          ∙ c.loop-place.invariant.bytes;
      number =
          after_on c.loop-place.generator.number c.draw.new.self.number (c.args.count - c.loop-place._place) (c.args.count - (c.loop-place._place + 1)) one c.draw.ensures.number
          ∙ c.loop-place.invariant.number;
    }

pub returns-clause-bytes : goal.returns-clause-bytes
returns-clause-bytes c =
    let none : c.args.count - c.loop-place._place ≡ 0 = omega arith in
    sym (append-nil c.loop-place.draws.items)
    ∙ ap (λ (n : ℕ). c.loop-place.draws.items ++ bytes_from n c.loop-place.generator.number) (sym none)
    ∙ c.loop-place.invariant.bytes

pub returns-clause-number : goal.returns-clause-number
returns-clause-number c =
    let none : c.args.count - c.loop-place._place ≡ 0 = omega arith in
    ap (λ (n : ℕ). after n c.loop-place.generator.number) (sym none) ∙ c.loop-place.invariant.number
