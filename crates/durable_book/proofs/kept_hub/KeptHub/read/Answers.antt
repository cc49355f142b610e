-- a later moment is stored before the hub makes the read
use Rattle.std.proofs.Common.{◌<◌, max, refl, sym, ap, subst, ◌∙◌, arith}
use Rattle.hub_model.specs.declared.entry.Entry.TheVariants.{Read}
use Rattle.hub_model.specs.Reply.{read}
use Rattle.durable_book.specs.declared.refusal.KeptRefusal.TheVariants.{Memory}
use Rattle.durable_book.specs.Calls.{GoesBy, HasStoredMoment, LeavesRead, StoresRead, Tells}
use Rattle.durable_book.specs.KeptHub.{KeptView, RefusesCall}
use Rattle.durable_book.proofs.KeptLemmas.{at-exit, broken-read, goes-read, lasts-read, later-read, least-read, leaves-read, refuses-read, refuses-record, stores-read}
use Rattle.durable_book.proofs.kept_hub.KeptHub.read.Goals as goal

pub keep-requires : goal.keep-requires
keep-requires g c = c.self.invariant c.if-self.false

-- ---- of a broken store

pub returns-then-self-clause-leaves : goal.returns-then-self-clause-leaves
returns-then-self-clause-leaves g c = broken-read c.args.self.now c.args.self.now (ap (λ (k : KeptView). k.broken) (sym c.self.view_is) ∙ c.if-self.true)

pub returns-then-self-clause-kept : goal.returns-then-self-clause-kept
returns-then-self-clause-kept g c = (let was = ap (λ (k : KeptView). k.kept) c.self.view_is in omega (arith, was))

-- ---- where the moment is not stored

pub returns-in_err-wrote-clause-leaves : goal.returns-in_err-wrote-clause-leaves
returns-in_err-wrote-clause-leaves g c =
    let before : KeptView = record { hub = c.self.inside.hub; log = c.self.inside.log; kept = c.self.inside.kept; guard = c.self.inside.guard; broken = c.self.inside.broken } in
    let after : KeptView = record { hub = c.self.inside.hub; log = c.keep.new.log; kept = c.keep.new.kept; guard = c.self.inside.guard; broken = c.keep.new.broken } in
    subst (λ (k : KeptView). LeavesRead k after) c.self.view_is (leaves-read before after c.args.moment c.clock_at-clock.result c.clock_at-clock.ensures c.keep.ensures.leaves)

pub returns-in_err-wrote-clause-kept : goal.returns-in_err-wrote-clause-kept
returns-in_err-wrote-clause-kept g c = (let was = ap (λ (k : KeptView). k.kept) c.self.view_is in let stays = c.in_err-wrote.ensures.unkept in omega (arith, was, stays))

pub returns-in_err-wrote-clause-refused : goal.returns-in_err-wrote-clause-refused
returns-in_err-wrote-clause-refused g c =
    let before : KeptView = record { hub = c.self.inside.hub; log = c.self.inside.log; kept = c.self.inside.kept; guard = c.self.inside.guard; broken = c.self.inside.broken } in
    at-exit _ _ _ c.from_residual.ensures.1 (refuses-record c.args.self.now before c.keep.new.log c.keep.new.kept c.keep.new.broken _ _ c.self.view_is c.if-self.false c.in_err-wrote.ensures.unkept c.in_err-wrote.ensures.refused)

-- ---- where the hub makes the read

pub returns-in-Ok-clause-last : goal.returns-in-Ok-clause-last
returns-in-Ok-clause-last g c = c.in-Ok.ensures.last ∙ ap (λ (k : KeptView). k.hub.commits) c.self.view_is

pub returns-in-Ok-clause-told : goal.returns-in-Ok-clause-told
returns-in-Ok-clause-told g c = subst (λ (k : KeptView). Tells k (Read c.args.moment c.args.key.now c.args.tags.now c.in-Ok.answer.commit) (read c.in-Ok.answer)) c.self.view_is c.in-Ok.ensures.told

pub returns-in-Ok-clause-after : goal.returns-in-Ok-clause-after
returns-in-Ok-clause-after g c =
    let before : KeptView = record { hub = c.self.inside.hub; log = c.self.inside.log; kept = c.self.inside.kept; guard = c.self.inside.guard; broken = c.self.inside.broken } in
    let after : KeptView = record { hub = c.read.new.self; log = c.keep.new.log; kept = c.keep.new.kept; guard = c.self.inside.guard; broken = c.keep.new.broken } in
    subst (λ (k : KeptView). GoesBy k after (Read c.args.moment c.args.key.now c.args.tags.now c.in-Ok.answer.commit)) c.self.view_is
    (goes-read before after c.args.moment c.clock_at-clock.result c.clock_at-clock.ensures c.args.key.now c.args.tags.now c.in-Ok.answer.commit c.in-Ok.ensures.after c.in_ok-wrote.ensures.adds c.keep.ensures.leaves c.in_ok-wrote.ensures.kept (c.in_ok-wrote.ensures.whole ∙ c.if-self.false))

pub returns-in-Ok-clause-lasts : goal.returns-in-Ok-clause-lasts
returns-in-Ok-clause-lasts g c = lasts-read c.args.self.now _ c.args.moment c.args.key.now c.args.tags.now c.in-Ok.answer.commit (returns-in-Ok-clause-after g c)

pub returns-in-Ok-clause-stores : goal.returns-in-Ok-clause-stores
returns-in-Ok-clause-stores g c =
    let before : KeptView = record { hub = c.self.inside.hub; log = c.self.inside.log; kept = c.self.inside.kept; guard = c.self.inside.guard; broken = c.self.inside.broken } in
    let after : KeptView = record { hub = c.read.new.self; log = c.keep.new.log; kept = c.keep.new.kept; guard = c.self.inside.guard; broken = c.keep.new.broken } in
    subst (λ (k : KeptView). StoresRead k after c.args.moment) c.self.view_is (stores-read before after c.args.moment c.clock_at-clock.result c.clock_at-clock.ensures c.in_ok-wrote.ensures.adds c.in_ok-wrote.ensures.kept)

pub returns-in-Ok-clause-later : goal.returns-in-Ok-clause-later
returns-in-Ok-clause-later g c =
    let before : KeptView = record { hub = c.self.inside.hub; log = c.self.inside.log; kept = c.self.inside.kept; guard = c.self.inside.guard; broken = c.self.inside.broken } in
    let after : KeptView = record { hub = c.read.new.self; log = c.keep.new.log; kept = c.keep.new.kept; guard = c.self.inside.guard; broken = c.keep.new.broken } in
    subst (λ (k : KeptView). max k.hub.clock c.args.moment < after.kept) c.self.view_is (later-read before after c.args.moment c.clock_at-clock.result c.clock_at-clock.ensures c.in_ok-wrote.ensures.kept)

pub returns-in-Ok-clause-leaves : goal.returns-in-Ok-clause-leaves
returns-in-Ok-clause-leaves g c =
    let before : KeptView = record { hub = c.self.inside.hub; log = c.self.inside.log; kept = c.self.inside.kept; guard = c.self.inside.guard; broken = c.self.inside.broken } in
    let after : KeptView = record { hub = c.read.new.self; log = c.keep.new.log; kept = c.keep.new.kept; guard = c.self.inside.guard; broken = c.keep.new.broken } in
    subst (λ (k : KeptView). LeavesRead k after) c.self.view_is (leaves-read before after c.args.moment c.clock_at-clock.result c.clock_at-clock.ensures c.keep.ensures.leaves)

pub returns-in-Ok-clause-kept : goal.returns-in-Ok-clause-kept
returns-in-Ok-clause-kept g c =
    let before : KeptView = record { hub = c.self.inside.hub; log = c.self.inside.log; kept = c.self.inside.kept; guard = c.self.inside.guard; broken = c.self.inside.broken } in
    let after : KeptView = record { hub = c.read.new.self; log = c.keep.new.log; kept = c.keep.new.kept; guard = c.self.inside.guard; broken = c.keep.new.broken } in
    let was = ap (λ (k : KeptView). k.kept) c.self.view_is in
    let least = least-read before after c.args.moment c.clock_at-clock.result c.clock_at-clock.ensures c.in_ok-wrote.ensures.kept in
    omega (arith, was, least)

-- ---- where memory ends behind the record

pub returns-in-Err-clause-leaves : goal.returns-in-Err-clause-leaves
returns-in-Err-clause-leaves g c =
    let before : KeptView = record { hub = c.self.inside.hub; log = c.self.inside.log; kept = c.self.inside.kept; guard = c.self.inside.guard; broken = c.self.inside.broken } in
    let after : KeptView = record { hub = c.read.new.self; log = c.keep.new.log; kept = c.keep.new.kept; guard = c.self.inside.guard; broken = c.in_ok-wrote.wrote } in
    subst (λ (k : KeptView). LeavesRead k after) c.self.view_is (leaves-read before after c.args.moment c.clock_at-clock.result c.clock_at-clock.ensures c.keep.ensures.leaves)

pub returns-in-Err-clause-kept : goal.returns-in-Err-clause-kept
returns-in-Err-clause-kept g c =
    let before : KeptView = record { hub = c.self.inside.hub; log = c.self.inside.log; kept = c.self.inside.kept; guard = c.self.inside.guard; broken = c.self.inside.broken } in
    let after : KeptView = record { hub = c.read.new.self; log = c.keep.new.log; kept = c.keep.new.kept; guard = c.self.inside.guard; broken = c.in_ok-wrote.wrote } in
    let was = ap (λ (k : KeptView). k.kept) c.self.view_is in
    let least = least-read before after c.args.moment c.clock_at-clock.result c.clock_at-clock.ensures c.in_ok-wrote.ensures.kept in
    omega (arith, was, least)

pub returns-in-Err-clause-refused : goal.returns-in-Err-clause-refused
returns-in-Err-clause-refused g c =
    let before : KeptView = record { hub = c.self.inside.hub; log = c.self.inside.log; kept = c.self.inside.kept; guard = c.self.inside.guard; broken = c.self.inside.broken } in
    let after : KeptView = record { hub = c.read.new.self; log = c.keep.new.log; kept = c.keep.new.kept; guard = c.self.inside.guard; broken = c.in_ok-wrote.wrote } in
    subst (λ (k : KeptView). RefusesCall k after (HasStoredMoment k after c.args.moment) Memory) c.self.view_is
    (refuses-read before after c.args.moment c.clock_at-clock.result c.clock_at-clock.ensures c.in_ok-wrote.wrote c.in_ok-wrote.ensures.stored c.if-self.false c.in-Err.ensures.memory c.in_ok-wrote.ensures.adds c.in_ok-wrote.ensures.kept refl)
