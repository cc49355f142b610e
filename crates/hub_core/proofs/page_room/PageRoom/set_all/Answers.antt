-- every bit behind the head is set
use Rattle.std.proofs.Common.{◌≡◌, ◌++◌, ◌+◌, ◌-◌, ◌^◌, ◌/◌, ◌≤◌, List, ℕ, Option, length, take, drop, replicate, ap, ◌∙◌, option_map, arith}
use borrow.Rule.Slice.PartMut.{put_mid}
use Rattle.query_normal.specs.Pages.{Page}
use Rattle.hub_core.specs.PageRoom.{PageRoomView, all_set, page_in}
use Rattle.hub_core.proofs.AllSetLemmas.{kept-all_set, page-all_set, set_behind}
use Rattle.hub_core.proofs.page_room.PageRoom.set_all.Goals as goal

-- a page has a head
long : (c : goal.After-self-1) → 30 ≤ length c.self.inside.bytes.items
long c = omega (arith, c.self.invariant.sized)

-- the bytes when they are given back
bytes_are : (c : goal.After-self-1) →
    take c.self.inside.bytes.len (put_mid 30 (length c.deref_mut.result.now - 30) c.deref_mut.result.now c.fill.new.self ++ drop (length (put_mid 30 (length c.deref_mut.result.now - 30) c.deref_mut.result.now c.fill.new.self)) c.self.inside.bytes.items)
    ≡ take 30 c.self.inside.bytes.items ++ replicate (length c.self.inside.bytes.items - 30) 255
bytes_are c =
    set_behind c.deref_mut.result.now c.self.inside.bytes.items c.fill.new.self c.self.inside.bytes.len c.deref_mut.ensures.value c.deref_mut.ensures.len (long c) (c.fill.ensures.after (λ y e. e))

pub invariant_of-self : goal.invariant_of-self
invariant_of-self c = kept-all_set c.self.inside.log2_bits c.self.inside.hashes c.self.inside.bytes.items _ (bytes_are c) (long c) c.self.inside.fetched c.self.invariant

pub returns : goal.returns
returns c =
    ap (λ (p : Option Page). record { log2_bits = c.self.inside.log2_bits; hashes = c.self.inside.hashes; page = p })
    (page-all_set c.self.inside.log2_bits c.self.inside.hashes c.self.inside.bytes.items _ (bytes_are c) (long c) c.self.inside.fetched)
    ∙ ap (λ (r : PageRoomView). record { log2_bits = r.log2_bits; hashes = r.hashes; page = option_map all_set r.page }) c.self.view_is
