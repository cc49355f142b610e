-- the page is that of one moment
use Rattle.std.proofs.Common.{◌≡◌, ℕ, Some, option_map, refl, ap, ◌∙◌}
use Rattle.query_normal.specs.Pages.{Page}
use Rattle.flat_snapshot.specs.PageText.{page_with}
use Rattle.hub_model.specs.Reply.{fetched}
use Rattle.hub_model.specs.Setting.{Setting}
use Rattle.hub_model.specs.State.{at_moment}
use Rattle.hub_core.specs.PageRoom.{PageRoomView, set_below}
use Rattle.hub_core.specs.HubState.{HubView}
use Rattle.hub_core.proofs.HubLemmas.{at-with, hub-passed, parts-at, setting-passed, sound-passed, page-at}
use Rattle.hub_core.proofs.hub.Hub.fetch.Goals as goal

pub invariant_of-self : goal.invariant_of-self
invariant_of-self c =
    sound-passed c.self.inside.book c.self.inside.front c.self.inside.copies c.pass.new.copies c.self.inside.queries.entries c.pass.new.queries.entries c.self.inside.life c.pass.new.life c.args.moment c.self.invariant c.pass.ensures.passes c.pass.ensures.idle c.pass.ensures.kept c.pass.ensures.dropped

-- the hub when its clock has moved
pub returns-clause-after : goal.returns-clause-after
returns-clause-after c = λ s at.
    at-with c.self.inside.book c.self.inside.front c.pass.new.copies c.pass.new.queries.entries c.pass.new.life _
    (hub-passed c.self.inside.book c.self.inside.front c.self.inside.copies c.self.inside.life s (parts-at c.self.inside.book c.self.inside.front c.self.inside.copies c.self.inside.queries.entries c.self.inside.life c.args.self.now s c.self.view_is at) c.pass.new.copies c.pass.new.life c.args.moment c.self.invariant.lean.idle c.pass.ensures.passes c.pass.ensures.dropped)

pub returns-clause-page : goal.returns-clause-page
returns-clause-page c = λ s at.
    let is = parts-at c.self.inside.book c.self.inside.front c.pass.new.copies c.pass.new.queries.entries c.pass.new.life _ _ refl (returns-clause-after c s at) in
    let setting : c.pass.new.copies.setting ≡ c.args.self.now.setting = setting-passed c.self.inside.copies c.pass.new.copies c.args.moment c.pass.ensures.passes ∙ ap (λ (h : HubView). h.setting) c.self.view_is in
    let guard : c.guard.result ≡ c.args.self.now.setting.guard = c.guard.ensures ∙ ap (λ (g : Setting). g.guard) (c.config.ensures ∙ setting) in
    ap (λ (r : PageRoomView). r.page) c.set_below.ensures
    ∙ ap (λ (r : PageRoomView). option_map (set_below c.guard.result) r.page) c.write.ensures
    ∙ ap (λ (n : ℕ). Some (set_below n (page_with c.args.room.now.log2_bits c.args.room.now.hashes c.self.inside.front c.count-commits.result c.clock-moment.result c.bits.result.now))) guard
    ∙ ap Some (page-at c.self.inside.book c.self.inside.front c.pass.new.copies c.pass.new.life (at_moment s c.args.moment) is c.args.self.now.setting _ _ c.count-commits.result c.clock-moment.result c.bits.result.now c.bits.ensures.keys
    setting c.requires.log2_bits c.requires.hashes c.count-commits.ensures.count c.clock-moment.ensures c.bits.ensures.bits)

pub returns-clause-told : goal.returns-clause-told
returns-clause-told c = λ s at. ap (option_map (λ (p : Page). fetched p)) (returns-clause-page c s at)

-- nothing is kept but what the history needs
pub returns-clause-lean : goal.returns-clause-lean
returns-clause-lean c = (invariant_of-self c).lean

-- the buffer is of the same sizes
pub returns-clause-sizes : goal.returns-clause-sizes
returns-clause-sizes c = record {
  log2_bits = ap (λ (r : PageRoomView). r.log2_bits) c.set_below.ensures ∙ ap (λ (r : PageRoomView). r.log2_bits) c.write.ensures ∙ c.requires.log2_bits;
  hashes = ap (λ (r : PageRoomView). r.hashes) c.set_below.ensures ∙ ap (λ (r : PageRoomView). r.hashes) c.write.ensures ∙ c.requires.hashes;
}
