-- the hub goes on, and the disk stays
use Rattle.std.proofs.Common.{◌≡◌, refl, sym, subst, Some}
use Rattle.hub_core.specs.HubState.{IsAt}
use Rattle.hub_core.specs.PageRoom.{IsRoomFor, PageRoomView}
use Rattle.hub_model.specs.declared.entry.Entry.TheVariants.{Fetch}
use Rattle.hub_model.specs.Record.{page_of}
use Rattle.hub_model.specs.State.{State}
use Rattle.hub_model.specs.Step.{after}
use Rattle.durable_book.specs.Calls.{GoesBy}
use Rattle.durable_book.specs.KeptHub.{KeptView}
use Rattle.durable_book.specs.Moments.{guarded}
use Rattle.durable_book.proofs.KeptLemmas.{covers, goes-fetch}
use Rattle.durable_book.proofs.kept_hub.KeptHub.fetch.Goals as goal

pub fetch-requires : goal.fetch-requires
fetch-requires g c = subst (λ (k : KeptView). IsRoomFor k.hub.setting c.args.room.now) (sym c.self.view_is) c.requires

pub returns-clause-page : goal.returns-clause-page
returns-clause-page g c =
    subst (λ (k : KeptView). (s : State) → IsAt k.hub s → c.cover.new.room.page ≡ Some (guarded k.guard (page_of k.hub.setting (after k.hub.setting s (Fetch c.args.moment))))) c.self.view_is
    (λ s at. covers c.self.inside.guard c.fetch.new.room c.cover.new.room _ c.cover.ensures (c.fetch.ensures.page s at))

pub returns-clause-after : goal.returns-clause-after
returns-clause-after g c =
    let before : KeptView = record { hub = c.self.inside.hub; log = c.self.inside.log; kept = c.self.inside.kept; guard = c.self.inside.guard; broken = c.self.inside.broken } in
    let after : KeptView = record { hub = c.fetch.new.self; log = c.self.inside.log; kept = c.self.inside.kept; guard = c.self.inside.guard; broken = c.self.inside.broken } in
    subst (λ (k : KeptView). GoesBy k after (Fetch c.args.moment)) c.self.view_is (goes-fetch before after c.args.moment c.fetch.ensures.after refl refl refl)

pub returns-clause-sizes : goal.returns-clause-sizes
returns-clause-sizes g c =
    subst (λ (k : KeptView). IsRoomFor k.hub.setting c.cover.new.room) c.self.view_is
    (subst (λ (r : PageRoomView). IsRoomFor c.self.inside.hub.setting r) (sym c.cover.ensures) (record { log2_bits = c.fetch.ensures.sizes.log2_bits; hashes = c.fetch.ensures.sizes.hashes }))
