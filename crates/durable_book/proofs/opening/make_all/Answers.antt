-- a record more
use Rattle.std.proofs.Common.{◌∙◌, subst, refl, arith}
use Rattle.hub_core.specs.HubState.{IsAt}
use Rattle.hub_model.specs.Setting.{Setting}
use Rattle.hub_model.specs.State.{State}
use Rattle.durable_book.specs.Replay.{replayed}
use Rattle.durable_book.proofs.LoopLemmas.{commits_below, making_begins, making_on, making_ends}
use Rattle.durable_book.proofs.opening.make_all.Goals as goal

pub loop-said-init : goal.loop-said-init
loop-said-init c = record { setting = refl; making = making_begins _ _ _ c.requires }

pub make-requires : goal.make-requires
make-requires c = (let few = commits_below _ _ _ _ c.loop-said.invariant.making in omega (arith, few))

pub loop-said-preserved : goal.loop-said-preserved
loop-said-preserved c = record {
  setting = c.make.ensures.setting ∙ c.loop-said.invariant.setting;
  making = making_on _ _ _ c.args.records.now c.loop-said.said-index c.said-item.result (omega arith) c.said-item.is
      (subst (λ (g : Setting). (s : State) → IsAt c.loop-said.hub s → IsAt c.make.new.hub (replayed g s c.said-item.result)) c.loop-said.invariant.setting c.in_ok-make.ensures.made)
      c.loop-said.invariant.making;
}

pub returns-clause-made : goal.returns-clause-made
returns-clause-made c = making_ends _ _ c.args.records.now c.loop-said.said-index (omega arith) c.loop-said.invariant.making
