-- the loop goes commit by commit
use Rattle.std.proofs.Common.{◌≡◌, ℕ, ◌+◌, List, sym, subst, rules, arith}
use Rattle.hub_core.specs.declared.invalidations.Invalidation.{Invalidation}
use Rattle.hub_core.specs.Invalidations.{AreRecordInvalidationsOf}
use Rattle.hub_core.proofs.MatchLemmas.{invalidations-none, invalidations-next}
use Rattle.hub_core.proofs.invalidations.record_invalidations.Goals as goal

pub loop-commit-init : goal.loop-commit-init
loop-commit-init c = record {
  invalidations = subst (λ (ms : List Invalidation). AreRecordInvalidationsOf c.args.book.now.journal c.args.front c.args.front ms) (sym c.new-invalidations.ensures.items) (invalidations-none c.args.book.now.journal c.args.front);
  reserved = search rules;
  within = search rules;
  rest = search rules;
}

-- no commit of the loop is below the horizon
pub push_invalidation-requires : goal.push_invalidation-requires
push_invalidation-requires c = omega (arith, c.requires.above, c.loop-commit.auto.commit)

pub loop-commit-preserved : goal.loop-commit-preserved
loop-commit-preserved c =
    record {
      invalidations = invalidations-next c.args.book.now.journal c.args.front c.loop-commit.commit _ _ c.loop-commit.invariant.invalidations c.in_ok-push_invalidation.ensures.invalidations c.loop-commit.auto.commit (omega arith);
      reserved = c.in_ok-push_invalidation.ensures.reserved c.loop-commit.invariant.reserved;
      within = c.in_ok-push_invalidation.ensures.within (c.loop-commit.commit + 1) (omega arith) (λ k d low. (let h = c.loop-commit.invariant.within k d low in omega (arith, h)));
      rest = search rules;
    }

pub returns-clause-invalidations : goal.returns-clause-invalidations
returns-clause-invalidations c =
    let last : c.loop-commit.commit ≡ c.args.to = (let up = c.loop-commit.auto.commit-end c.requires.forward in omega (arith, c.loop-commit-test.false, up)) in
    subst (λ (n : ℕ). AreRecordInvalidationsOf c.args.book.now.journal c.args.front n c.loop-commit.invalidations.items) last c.loop-commit.invariant.invalidations
