-- each step by the call that makes it
use Rattle.std.proofs.Common.{[], ◌∷◌, refl, sym, subst}
use Rattle.world_core.specs.declared.step.Step.{Step}
use Rattle.world_core.specs.World.{IsStep}
use Rattle.world_core.proofs.world.World.step.Goals as goal

pub returns-in_ok-line-in-Read : goal.returns-in_ok-line-in-Read
returns-in_ok-line-in-Read c = subst (λ (s : Step). IsStep c.args.number s c.args.self.now c.read.new.self (c.in_ok-line-in-Read.line ∷ [])) (sym c.in-Read.is) c.in_ok-line-in-Read.ensures

pub returns-in_ok-put-in-Put : goal.returns-in_ok-put-in-Put
returns-in_ok-put-in-Put c = subst (λ (s : Step). IsStep c.args.number s c.args.self.now c.put.new.self []) (sym c.in-Put.is) (c.in_ok-put-in-Put.ensures, refl)

pub returns-in_ok-delete-in-Delete : goal.returns-in_ok-delete-in-Delete
returns-in_ok-delete-in-Delete c = subst (λ (s : Step). IsStep c.args.number s c.args.self.now c.delete.new.self []) (sym c.in-Delete.is) (c.in_ok-delete-in-Delete.ensures, refl)

pub returns-in_ok-refresh-in-Refresh : goal.returns-in_ok-refresh-in-Refresh
returns-in_ok-refresh-in-Refresh c = subst (λ (s : Step). IsStep c.args.number s c.args.self.now c.refresh.new.self []) (sym c.in-Refresh.is) (c.in_ok-refresh-in-Refresh.ensures, refl)

pub returns-in_ok-match_all-in-Match : goal.returns-in_ok-match_all-in-Match
returns-in_ok-match_all-in-Match c = subst (λ (s : Step). IsStep c.args.number s c.args.self.now c.match_all.new.self []) (sym c.in-Match.is) (c.in_ok-match_all-in-Match.ensures, refl)

pub returns-in-Advance : goal.returns-in-Advance
returns-in-Advance c = subst (λ (s : Step). IsStep c.args.number s c.args.self.now c.advance.new.self []) (sym c.in-Advance.is) (c.advance.ensures, refl)

pub returns-in_ok-pull-in-Pull : goal.returns-in_ok-pull-in-Pull
returns-in_ok-pull-in-Pull c = subst (λ (s : Step). IsStep c.args.number s c.args.self.now c.pull.new.self []) (sym c.in-Pull.is) (c.in_ok-pull-in-Pull.ensures, refl)

pub returns-in-Evict : goal.returns-in-Evict
returns-in-Evict c = subst (λ (s : Step). IsStep c.args.number s c.args.self.now c.evict.new.self []) (sym c.in-Evict.is) (c.evict.ensures, refl)
