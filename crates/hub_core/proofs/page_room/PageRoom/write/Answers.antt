-- the page fills the buffer
use Rattle.std.proofs.Common.{◌≡◌, ◌+◌, ◌*◌, ◌/◌, ◌^◌, Some, take, drop, ◌++◌, length, ap, ◌∙◌, sym, arith}
use Rattle.query_normal.specs.Pages.{Page}
use Rattle.flat_snapshot.proofs.ByteLemmas.{all_small}
use Rattle.flat_snapshot.specs.PageText.{page_with}
use Rattle.hub_core.specs.PageRoom.{PageRoomView, IsKept, page_in}
use Rattle.hub_core.proofs.PageRoomLemmas.{filled, kept-written}
use Rattle.hub_core.proofs.page_room.PageRoom.write.Goals as goal

-- what the buffer then keeps, and the page that its bytes are
kept : (c : goal.After-self-2-1) →
    IsKept c.self.inside.log2_bits c.self.inside.hashes (Some c.args.numbers) (take c.self.inside.bytes.len (c.write_page.new.buffer ++ drop (length c.write_page.new.buffer) c.self.inside.bytes.items))
    × (page_in c.self.inside.log2_bits c.self.inside.hashes (take c.self.inside.bytes.len (c.write_page.new.buffer ++ drop (length c.write_page.new.buffer) c.self.inside.bytes.items)) c.args.numbers
    ≡ page_with c.self.inside.log2_bits c.self.inside.hashes c.args.numbers.front c.args.numbers.commits c.args.numbers.moment c.args.bits.now)
kept c =
    let size : 8 * length c.args.bits.now ≡ 2 ^ c.self.inside.log2_bits = c.requires ∙ ap (λ (r : PageRoomView). 2 ^ r.log2_bits) (sym c.self.view_is) in
    let room : length c.self.inside.bytes.items ≡ 30 + 2 ^ c.self.inside.log2_bits / 8 = c.self.invariant.sized in
    let whole =
    filled c.deref_mut.result.now c.self.inside.bytes.items c.write_page.new.buffer _ c.self.inside.bytes.len c.write_page.result c.deref_mut.ensures.value c.deref_mut.ensures.len c.write_page.auto.buffer
    (omega (arith, size, room, c.write_page.ensures.length)) c.write_page.ensures.written in
    kept-written c.self.inside.log2_bits c.self.inside.hashes c.self.inside.fetched c.args.numbers c.self.inside.bytes.items c.args.bits.now _ c.self.invariant (all_small c.args.bits.now c.type_inv.bits) size whole

pub invariant_of-self : goal.invariant_of-self
invariant_of-self c = (kept c).0

pub returns : goal.returns
returns c =
    ap (λ (p : Page). record { log2_bits = c.self.inside.log2_bits; hashes = c.self.inside.hashes; page = Some p }) (kept c).1
    ∙ ap (λ (r : PageRoomView). record { log2_bits = r.log2_bits; hashes = r.hashes; page = Some (page_with r.log2_bits r.hashes c.args.numbers.front c.args.numbers.commits c.args.numbers.moment c.args.bits.now) }) c.self.view_is
