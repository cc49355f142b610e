-- each invalidation raises its key
use Rattle.std.proofs.Common.{List, ◌≡◌, ◌∙◌, ap, max, if◌then◌else◌, rules}
use Rattle.query_normal.specs.Keys.{same_key}
use Rattle.issued_expiries.specs.Copies.{Copy}
use Rattle.hub_core.specs.CopiesView.{CopiesView, until_below, until_in}
use Rattle.hub_core.proofs.MatchLemmas.{invalidated-take}
use Rattle.hub_core.proofs.invalidations.invalidate_all.Goals as goal

pub loop-invalidation-preserved : goal.loop-invalidation-preserved
loop-invalidation-preserved c = record {
  outdated = λ key.
      let m = c.invalidation-item.result in
      let copies : c.loop-invalidation.copies.copies ≡ c.args.copies.now.copies = ap (λ (h : CopiesView). h.copies) c.loop-invalidation.invariant.rest in
      invalidated-take c.args.copies.now.copies c.args.invalidations.now c.loop-invalidation.invalidation-index m key (until_in c.args.copies.now.outdated key) (until_in c.loop-invalidation.copies.outdated key) (until_in c.invalidate.new.self.outdated key)
      c.invalidation-item.is c.loop-invalidation-test.true (c.loop-invalidation.invariant.outdated key)
      (c.invalidate.ensures.outdated key ∙ ap (λ (copies : List Copy). max (until_in c.loop-invalidation.copies.outdated key) (if same_key key m.key then until_below copies m.key m.commit else 0)) copies);
  reserved = λ key can. c.invalidate.ensures.still key (c.loop-invalidation.invariant.reserved key can);
  rest = search rules;
}
