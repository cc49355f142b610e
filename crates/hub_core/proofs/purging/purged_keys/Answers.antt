-- the keys are found one after another, and put in order
use Rattle.std.proofs.Common.{◌||◌, Bool, List, ap, sym, ◌∙◌, subst}
use Rattle.std.specs.List.{list_any, IsDistinct}
use Rattle.std.proofs.lemmas.List.Sorted.{list_any-IsPermutation}
use Rattle.std.proofs.lemmas.Map.Keys.{IsDistinct-IsPermutation}
use Rattle.query_normal.specs.Keys.{same_key}
use Rattle.query_normal.specs.declared.key.KeyShape.{KeyShape}
use Rattle.hub_model.proofs.KeySets.{same_key-flips}
use Rattle.hub_core.specs.Invalidations.{purges_at}
use Rattle.hub_core.proofs.NoteLemmas.{any-next, take-all}
use Rattle.hub_core.proofs.purging.purged_keys.Goals as goal

pub loop-invalidation-init : goal.loop-invalidation-init
loop-invalidation-init c = λ key. ap (list_any (same_key key)) c.new-found.ensures.empty

pub loop-invalidation-preserved : goal.loop-invalidation-preserved
loop-invalidation-preserved c = λ key.
    c.in_ok-add_where_purged.ensures key
    ∙ ap (λ (b : Bool). b || purges_at c.args.copies.now.copies c.args.changes.now c.args.second key c.invalidation-item.result) (c.loop-invalidation.invariant key)
    ∙ sym (any-next (purges_at c.args.copies.now.copies c.args.changes.now c.args.second key) c.args.invalidations.now c.loop-invalidation.invalidation-index c.invalidation-item.result c.invalidation-item.is c.loop-invalidation-test.true)

pub returns-clause-each : goal.returns-clause-each
returns-clause-each c = λ key.
    sym (list_any-IsPermutation (same_key key) c.in_ok-keys.keys.items c.sort_by_text.new.keys.items c.sort_by_text.ensures.same)
    ∙ ap (list_any (same_key key)) c.in_ok-keys.ensures.keys
    ∙ c.loop-invalidation.invariant key
    ∙ ap (list_any (purges_at c.args.copies.now.copies c.args.changes.now c.args.second key)) (take-all c.loop-invalidation.invalidation-index c.args.invalidations.now c.loop-invalidation-test.false)

pub returns-clause-once : goal.returns-clause-once
returns-clause-once c =
    IsDistinct-IsPermutation same_key same_key-flips c.in_ok-keys.keys.items c.sort_by_text.new.keys.items c.sort_by_text.ensures.same
    (subst (λ (ks : List KeyShape). IsDistinct same_key ks) (sym c.in_ok-keys.ensures.keys) c.keys_of.ensures.once)
