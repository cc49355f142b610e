use Rattle.std.proofs.Common.{◌≡◌, ◌++◌, ◌∷◌, [], List, true, sym, ap, subst, ◌∙◌}
use Rattle.query_core.specs.Window.{Order}
use Rattle.query_core.specs.Candidates.{row_of, is_past, AreFirsts, HasFirsts}
use Rattle.query_core.specs.declared.windows.Candidate.{Candidate}
use Rattle.query_core.proofs.CandidateLemmas.{firsts_leave, firsts_push}
use Rattle.query_core.proofs.windows.offer.Goals as goal

-- what comes after the first ones changes none of them
pub returns-then-is_past : goal.returns-then-is_past
returns-then-is_past c =
    λ seen ranked h. let order = c.args.order.now in let firsts = c.args.firsts.now in let new = c.args.new.now in
    let past : is_past order firsts.last new ≡ true =
    sym (c.is_past.ensures ∙ ap (λ (o : Order). is_past o firsts.last new) c.as_slice-paths.ensures) ∙ c.if-is_past.true in
    firsts_leave order c.args.count seen firsts.found.items firsts.last new ranked h past

-- the candidate comes after those that are left
pub returns : goal.returns
returns c =
    λ seen ranked h. let order = c.args.order.now in let firsts = c.cut_if_many.new.firsts in let new = c.args.new.now in
    let before : HasFirsts c.as_slice-paths.result.now c.args.count seen c.args.firsts.now =
    subst (λ (o : Order). HasFirsts o c.args.count seen c.args.firsts.now) (sym c.as_slice-paths.ensures) h in
    let roomy : HasFirsts order c.args.count seen firsts =
    subst (λ (o : Order). HasFirsts o c.args.count seen firsts) c.as_slice-paths.ensures (c.in_ok-cut_if_many.ensures seen before) in
    subst (λ (items : List Candidate). AreFirsts order c.args.count (seen ++ row_of new ∷ []) items firsts.last) (sym c.in_ok-push.ensures.items)
    (firsts_push order c.args.count seen firsts.found.items firsts.last new ranked roomy)
