-- the key is reserved, and the others are as before
use Rattle.std.proofs.Common.{IsTrue, sym, ◌∙◌, subst, inl, inr}
use Rattle.std.specs.List.{list_any}
use Rattle.std.proofs.lemmas.Bool.{cases_Bool}
use Rattle.query_normal.specs.Keys.{same_key}
use Rattle.query_normal.specs.SameKey.{same_key-Decides}
use Rattle.query_normal.specs.declared.key.KeyShape.{KeyShape}
use Rattle.hub_core.specs.CopiesView.{CopiesView, IsInvalidationReserved}
use Rattle.hub_core.proofs.copies.Copies.reserve_invalidation.Goals as goal

pub returns-in_ok-reserve-clause-others : goal.returns-in_ok-reserve-clause-others
returns-in_ok-reserve-clause-others c = λ other was active.
    elim (cases_Bool (same_key c.args.key.now other)) [
      | inl own ↦ subst (λ (k : KeyShape). IsTrue (list_any (same_key k) c.reserve.new.self.reserved)) ((same_key-Decides c.args.key.now other).0 own) c.in_ok-reserve.ensures.ok
      | inr apart ↦ c.in_ok-reserve.ensures.others other apart ∙ subst (λ (h : CopiesView). IsInvalidationReserved h other) (sym c.self.view_is) was active
    ]
