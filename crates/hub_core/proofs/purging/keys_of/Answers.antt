-- one key more is copied
use Rattle.std.proofs.Common.{◌++◌, ◌∷◌, [], sym, ◌∙◌, arith}
use Rattle.hub_core.proofs.NoteLemmas.{item-at, next-of}
use Rattle.hub_core.proofs.purging.keys_of.Goals as goal

pub loop-index-preserved : goal.loop-index-preserved
loop-index-preserved c =
    let were = c.loop-index.invariant.keys in
    let copy = sym c.in_ok-clone.ensures.cases in
    record {
      keys =
          c.in_ok-push.ensures.items
          ∙ (λ i. were i ++ copy i ∷ [])
          ∙ sym (next-of c.args.found.now.keys c.loop-index.index c.index.result.now (item-at c.args.found.now.keys c.loop-index.index c.index.result.now c.index.ensures) (omega (arith, c.loop-index-test.true, c.len-index-end.ensures.len)));
      within = omega (arith, c.loop-index-test.true, c.len-index-end.ensures.len);
    }
