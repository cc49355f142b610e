-- all commits are matched where as many come after the front as may
use Rattle.std.proofs.Common.{List, refl, sym, ◌∙◌, ap, subst, arith}
use Rattle.ttl_estimator.specs.Estimates.{kept_of}
use Rattle.ttl_estimator.specs.Estimator.{Estimated}
use Rattle.hub_model.specs.declared.entry.Entry.{Entry}
use Rattle.hub_model.specs.Step.{after_all}
use Rattle.hub_core.specs.HubState.{IsAt, hub_of}
use Rattle.hub_core.specs.Lifetimes.{KeepsLifetimes}
use Rattle.hub_core.proofs.HubLemmas.{at-estimator, help-full, help-none}
use Rattle.hub_core.proofs.LifeLemmas.{lifetimes-records}
use Rattle.hub_core.proofs.WrittenLemmas.{entry-made}
use Rattle.hub_core.proofs.matching.make_way.Goals as goal

pub returns-then-commits-front-lt-MOST_UNMATCHED-clause-matches : goal.returns-then-commits-front-lt-MOST_UNMATCHED-clause-matches
returns-then-commits-front-lt-MOST_UNMATCHED-clause-matches c = λ s at.
    subst (λ (es : List Entry). IsAt (hub_of c.args.book.now c.args.front.now c.args.copies.now (record c.args.life.now { estimator = c.reserve_record.new.self })) (after_all c.args.copies.now.setting s es))
    (sym (help-none s c.args.moment c.args.front.now c.count-commits.result at.time.front (c.count-commits.ensures.count ∙ at.book.commits) (omega (arith, c.if-commits-front-lt-MOST_UNMATCHED.true))
    (omega (arith, c.requires.within, c.count-commits.ensures.count))))
    (at-estimator c.args.book.now c.args.front.now c.args.copies.now c.args.life.now s at (record c.args.life.now { estimator = c.reserve_record.new.self }) c.reserve_record.ensures.extends (λ key. ap (λ (e : Estimated). kept_of e.keys key) c.reserve_record.ensures.rest) refl refl)

pub returns-then-commits-front-lt-MOST_UNMATCHED-clause-lifetimes : goal.returns-then-commits-front-lt-MOST_UNMATCHED-clause-lifetimes
returns-then-commits-front-lt-MOST_UNMATCHED-clause-lifetimes c =
    subst (λ (e : Estimated). KeepsLifetimes c.args.book.now.journal c.args.front.now c.args.copies.now (record c.args.life.now { estimator = e })) (sym c.reserve_record.ensures.rest)
    (lifetimes-records c.args.book.now.journal c.args.front.now c.args.copies.now c.args.life.now c.reserve_record.new.self.records c.requires.lifetimes)

pub returns-then-commits-front-lt-MOST_UNMATCHED-clause-entered : goal.returns-then-commits-front-lt-MOST_UNMATCHED-clause-entered
returns-then-commits-front-lt-MOST_UNMATCHED-clause-entered c = entry-made c.args.change.now c.args.life.now.estimator c.reserve_record.new.self c.in_ok-reserve_record.ensures.known c.reserve_record.ensures.others

pub returns-clause-matches : goal.returns-clause-matches
returns-clause-matches c = λ s at.
    subst (λ (es : List Entry). IsAt (hub_of c.args.book.now c.count-commits.result c.match_commits.new.copies c.match_commits.new.life) (after_all c.args.copies.now.setting s es))
    (sym (help-full s c.args.moment c.args.front.now c.count-commits.result at.time.front (c.count-commits.ensures.count ∙ at.book.commits) (omega (arith, c.if-commits-front-lt-MOST_UNMATCHED.false))))
    (c.in_ok-match_commits.ensures.matches s at)
