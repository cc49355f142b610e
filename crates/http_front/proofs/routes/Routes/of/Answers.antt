use Rattle.std.proofs.Common.{◌∙◌, ap, codes}
use Rattle.http_front.specs.Routes.{added, table}
use Rattle.http_front.specs.declared.routes.Route.TheVariants.{Record, Query, Filter, Purges, Match, Horizon, Stats}
use Rattle.http_front.proofs.routes.Routes.of.Goals as goal

pub invariant_of-result : goal.invariant_of-result
unfolding table
invariant_of-result c = record {
  is =
      c.in_ok-add-7.ensures ∙ ap (added (codes "/v1/stats") Stats)
      (c.in_ok-add-6.ensures ∙ ap (added (codes "/v1/horizon") Horizon)
      (c.in_ok-add-5.ensures ∙ ap (added (codes "/v1/match") Match)
      (c.in_ok-add-4.ensures ∙ ap (added (codes "/v1/purges") Purges)
      (c.in_ok-add-3.ensures ∙ ap (added (codes "/v1/filter") Filter)
      (c.in_ok-add-2.ensures ∙ ap (added (codes "/v1/q/{collection}") Query)
      (c.in_ok-add.ensures ∙ ap (added (codes "/v1/d/{collection}/{id}") Record) c.new-router.ensures))))));
}
