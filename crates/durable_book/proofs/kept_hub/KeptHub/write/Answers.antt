-- the change is stored before the hub makes it
use Rattle.std.proofs.Common.{refl, sym, ap, subst, ◌∙◌, arith}
use Rattle.durable_book.specs.declared.refusal.KeptRefusal.TheVariants.{Memory}
use Rattle.durable_book.specs.Calls.{GoesByWrite, HasStoredChange, LeavesWrite, StoresWrite, TellsWrite}
use Rattle.durable_book.specs.KeptHub.{KeptView, RefusesCall}
use Rattle.durable_book.proofs.KeptLemmas.{at-exit, broken-write, goes-write, lasts-write, leaves-write, refuses-record, refuses-write, stores-write}
use Rattle.durable_book.proofs.kept_hub.KeptHub.write.Goals as goal

pub foresee-foreseen-requires : goal.foresee-foreseen-requires
foresee-foreseen-requires g c = (let count = ap (λ (k : KeptView). k.hub.commits) c.self.view_is in omega (arith, count, c.requires))

pub store_change-requires : goal.store_change-requires
store_change-requires g c = c.self.invariant c.if-self.false

pub write-requires : goal.write-requires
write-requires g c = (let count = ap (λ (k : KeptView). k.hub.commits) c.self.view_is in omega (arith, count, c.requires))

-- ---- of a broken store

pub returns-then-self-clause-leaves : goal.returns-then-self-clause-leaves
returns-then-self-clause-leaves g c = broken-write c.args.self.now c.args.self.now c.args.change.now (ap (λ (k : KeptView). k.broken) (sym c.self.view_is) ∙ c.if-self.true)

-- ---- where the record is not stored

pub returns-in_err-stored-clause-leaves : goal.returns-in_err-stored-clause-leaves
returns-in_err-stored-clause-leaves g c =
    let before : KeptView = record { hub = c.self.inside.hub; log = c.self.inside.log; kept = c.self.inside.kept; guard = c.self.inside.guard; broken = c.self.inside.broken } in
    let after : KeptView = record { hub = c.self.inside.hub; log = c.store_change.new.log; kept = c.self.inside.kept; guard = c.self.inside.guard; broken = c.store_change.new.broken } in
    subst (λ (k : KeptView). LeavesWrite k after c.args.change.now) c.self.view_is (leaves-write before after c.args.moment c.args.change.now c.args.condition.now c.foresee-foreseen.result c.foresee-foreseen.ensures.accepted c.store_change.ensures.leaves)

pub returns-in_err-stored-clause-refused : goal.returns-in_err-stored-clause-refused
returns-in_err-stored-clause-refused g c =
    let before : KeptView = record { hub = c.self.inside.hub; log = c.self.inside.log; kept = c.self.inside.kept; guard = c.self.inside.guard; broken = c.self.inside.broken } in
    at-exit _ _ _ c.from_residual.ensures.1 (refuses-record c.args.self.now before c.store_change.new.log c.self.inside.kept c.store_change.new.broken _ _ c.self.view_is c.if-self.false refl c.in_err-stored.ensures.refused)

-- ---- where the hub makes the write

pub returns-in-Ok-clause-told : goal.returns-in-Ok-clause-told
returns-in-Ok-clause-told g c = subst (λ (k : KeptView). TellsWrite k c.args.moment c.args.change.now c.args.condition.now c.in-Ok.written) c.self.view_is c.in-Ok.ensures.told

pub returns-in-Ok-clause-after : goal.returns-in-Ok-clause-after
returns-in-Ok-clause-after g c =
    let before : KeptView = record { hub = c.self.inside.hub; log = c.self.inside.log; kept = c.self.inside.kept; guard = c.self.inside.guard; broken = c.self.inside.broken } in
    let after : KeptView = record { hub = c.write.new.self; log = c.store_change.new.log; kept = c.self.inside.kept; guard = c.self.inside.guard; broken = c.store_change.new.broken } in
    subst (λ (k : KeptView). GoesByWrite k after c.args.moment c.args.change.now c.args.condition.now) c.self.view_is
    (goes-write before after c.args.moment c.args.change.now c.args.condition.now c.foresee-foreseen.result c.foresee-foreseen.ensures.accepted c.in-Ok.ensures.after c.in_ok-stored.ensures.adds c.store_change.ensures.leaves refl (c.in_ok-stored.ensures.whole ∙ c.if-self.false))

pub returns-in-Ok-clause-lasts : goal.returns-in-Ok-clause-lasts
returns-in-Ok-clause-lasts g c = lasts-write c.args.self.now _ c.args.moment c.args.change.now c.args.condition.now (returns-in-Ok-clause-after g c)

pub returns-in-Ok-clause-stores : goal.returns-in-Ok-clause-stores
returns-in-Ok-clause-stores g c =
    let before : KeptView = record { hub = c.self.inside.hub; log = c.self.inside.log; kept = c.self.inside.kept; guard = c.self.inside.guard; broken = c.self.inside.broken } in
    let after : KeptView = record { hub = c.write.new.self; log = c.store_change.new.log; kept = c.self.inside.kept; guard = c.self.inside.guard; broken = c.store_change.new.broken } in
    subst (λ (k : KeptView). StoresWrite k after c.args.change.now c.in-Ok.written) c.self.view_is
    (stores-write before after c.args.moment c.args.change.now c.args.condition.now c.foresee-foreseen.result c.in-Ok.written c.foresee-foreseen.ensures.told c.in-Ok.ensures.told c.in_ok-stored.ensures.adds)

pub returns-in-Ok-clause-leaves : goal.returns-in-Ok-clause-leaves
returns-in-Ok-clause-leaves g c =
    let before : KeptView = record { hub = c.self.inside.hub; log = c.self.inside.log; kept = c.self.inside.kept; guard = c.self.inside.guard; broken = c.self.inside.broken } in
    let after : KeptView = record { hub = c.write.new.self; log = c.store_change.new.log; kept = c.self.inside.kept; guard = c.self.inside.guard; broken = c.store_change.new.broken } in
    subst (λ (k : KeptView). LeavesWrite k after c.args.change.now) c.self.view_is (leaves-write before after c.args.moment c.args.change.now c.args.condition.now c.foresee-foreseen.result c.foresee-foreseen.ensures.accepted c.store_change.ensures.leaves)

-- ---- where memory ends behind the record

pub returns-in-Err-clause-leaves : goal.returns-in-Err-clause-leaves
returns-in-Err-clause-leaves g c =
    let before : KeptView = record { hub = c.self.inside.hub; log = c.self.inside.log; kept = c.self.inside.kept; guard = c.self.inside.guard; broken = c.self.inside.broken } in
    let after : KeptView = record { hub = c.write.new.self; log = c.store_change.new.log; kept = c.self.inside.kept; guard = c.self.inside.guard; broken = c.in_ok-stored.stored } in
    subst (λ (k : KeptView). LeavesWrite k after c.args.change.now) c.self.view_is (leaves-write before after c.args.moment c.args.change.now c.args.condition.now c.foresee-foreseen.result c.foresee-foreseen.ensures.accepted c.store_change.ensures.leaves)

pub returns-in-Err-clause-refused : goal.returns-in-Err-clause-refused
returns-in-Err-clause-refused g c =
    let before : KeptView = record { hub = c.self.inside.hub; log = c.self.inside.log; kept = c.self.inside.kept; guard = c.self.inside.guard; broken = c.self.inside.broken } in
    let after : KeptView = record { hub = c.write.new.self; log = c.store_change.new.log; kept = c.self.inside.kept; guard = c.self.inside.guard; broken = c.in_ok-stored.stored } in
    subst (λ (k : KeptView). RefusesCall k after (HasStoredChange k after c.args.change.now) Memory) c.self.view_is
    (refuses-write before after c.args.moment c.args.change.now c.args.condition.now c.foresee-foreseen.result c.in_ok-stored.stored c.in_ok-stored.ensures.stored c.if-self.false c.in-Err.ensures.memory c.in_ok-stored.ensures.adds refl refl)
