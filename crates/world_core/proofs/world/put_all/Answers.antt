-- product by product
use Rattle.std.proofs.Common.{◌≡◌, ℕ, subst, arith}
use Rattle.world_core.specs.Products.{products}
use Rattle.world_core.specs.World.{IsFilled}
use Rattle.world_core.proofs.WorldLemmas.{filled_more}
use Rattle.world_core.proofs.world.put_all.Goals as goal

pub loop-index-init : goal.loop-index-init
loop-index-init c = λ filled. filled

pub loop-index-preserved : goal.loop-index-preserved
loop-index-preserved c = λ filled. filled_more c.loop-index.index c.loop-index.store c.put_first.new.store (c.loop-index.invariant filled) c.in_ok-put_first.ensures

pub returns : goal.returns
returns c = λ filled.
    let all : c.loop-index.index ≡ products = omega arith in
    subst (λ (n : ℕ). IsFilled n c.loop-index.store) all (c.loop-index.invariant filled)
