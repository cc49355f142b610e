use Rattle.std.proofs.Common.{◌++◌, ◌∷◌, [], ◌<◌, List, Bool, length, take, sym, subst, arith}
use Rattle.std.specs.List.{filter}
use Rattle.query_core.specs.Meaning.{satisfies}
use Rattle.query_core.specs.Window.{Row}
use Rattle.query_core.specs.Candidates.{HasFirsts}
use Rattle.query_core.proofs.CandidateLemmas.{filter-take_yes, filter-take_no}
use Rattle.query_core.proofs.windows.candidates.Goals as goal
use Rattle.query_core.proofs.windows.candidates.Goals.{then-satisfies+in_ok-offer, else-satisfies}

-- one more document, which becomes a candidate where it satisfies
pub loop-row-preserved : goal.loop-row-preserved
loop-row-preserved c =
    let query = c.args.query.now in let docs = c.args.docs.now in let i = c.loop-row.row-index in let row = c.row-item.result in
    let p : Row → Bool = λ (r : Row). satisfies query.filter r.2 in
    let seen : List Row = filter p (take i docs) in
    let within : i < length docs = omega arith in
    elim c.if-satisfies.branch [
      | then-satisfies+in_ok-offer w ↦
          rw w.firsts-is (subst (λ (rows : List Row). HasFirsts query.order c.args.count rows w.offer.new.firsts) (sym (filter-take_yes p docs i row within c.row-item.is (sym w.if-satisfies.ensures)))
          (subst (λ (r : Row). HasFirsts query.order c.args.count (seen ++ r ∷ []) w.offer.new.firsts) w.ranked.ensures.row
          (w.in_ok-offer.ensures seen w.ranked.ensures.ranked c.loop-row.invariant)))
      | else-satisfies w ↦
          rw w.firsts-is (subst (λ (rows : List Row). HasFirsts query.order c.args.count rows c.loop-row.firsts) (sym (filter-take_no p docs i row within c.row-item.is (sym w.if-satisfies.ensures))) c.loop-row.invariant)
    ]
