-- one key more
use Rattle.std.proofs.Common.{◌∙◌, inl, inr, refl}
use Rattle.std.proofs.lemmas.Bool.{or_cases, or_left, or_right}
use Rattle.issued_expiries.specs.Copies.{is_active}
use Rattle.purge_list.specs.LastChanges.{is_known}
use Rattle.hub_core.proofs.NoteLemmas.{entries-next, entries-none, entries-all}
use Rattle.hub_core.proofs.purging.reserve_changes.Goals as goal

pub loop-invalidation-init : goal.loop-invalidation-init
loop-invalidation-init c = record {
  known = entries-none c.args.copies.now.copies c.args.changes.now;
  changes = λ key. refl;
  active = λ key there. or_left (is_known c.args.changes.now key) (is_active c.args.copies.now.copies key) there;
}

pub loop-invalidation-preserved : goal.loop-invalidation-preserved
loop-invalidation-preserved c =
    let l = c.loop-invalidation in
    record {
      known = entries-next c.args.copies.now.copies l.changes c.reserve_change.new.changes c.args.invalidations.now l.invalidation-index c.invalidation-item.result c.invalidation-item.is c.loop-invalidation-test.true l.invariant.known c.reserve_change.ensures.stays c.in_ok-reserve_change.ensures.known;
      changes = λ key. c.reserve_change.ensures.changes key ∙ l.invariant.changes key;
      active = λ key there. elim (or_cases (is_known l.changes key) (is_active c.args.copies.now.copies key) (c.reserve_change.ensures.active key there)) [
        | inl was ↦ l.invariant.active key was
        | inr live ↦ or_right (is_known c.args.changes.now key) (is_active c.args.copies.now.copies key) live
      ];
    }

pub returns-in_err-reserve_change-clause-changes : goal.returns-in_err-reserve_change-clause-changes
returns-in_err-reserve_change-clause-changes c = λ key. c.reserve_change.ensures.changes key ∙ c.loop-invalidation.invariant.changes key

pub returns-in_err-reserve_change-clause-active : goal.returns-in_err-reserve_change-clause-active
returns-in_err-reserve_change-clause-active c = λ key there. elim (or_cases (is_known c.loop-invalidation.changes key) (is_active c.args.copies.now.copies key) (c.reserve_change.ensures.active key there)) [
  | inl was ↦ c.loop-invalidation.invariant.active key was
  | inr live ↦ or_right (is_known c.args.changes.now key) (is_active c.args.copies.now.copies key) live
]

pub returns-clause-known : goal.returns-clause-known
returns-clause-known c = entries-all c.args.copies.now.copies c.loop-invalidation.changes c.args.invalidations.now c.loop-invalidation.invalidation-index c.loop-invalidation-test.false c.loop-invalidation.invariant.known

pub returns-clause-changes : goal.returns-clause-changes
returns-clause-changes c = c.loop-invalidation.invariant.changes

pub returns-clause-active : goal.returns-clause-active
returns-clause-active c = c.loop-invalidation.invariant.active
