use Rattle.std.proofs.Common.{◌≡◌, ◌/◌, ◌<◌, List, ℕ, length, All, refl, sym, subst, ap, ap₂, ◌∙◌}
use Rattle.std.specs.List.{list_all}
use Rattle.q_base.specs.Positions.{positions_of}
use Rattle.query_normal.specs.Bits.{is_bit_set}
use Rattle.query_normal.specs.Pages.{Page, page_holds, is_set}
use Rattle.flat_snapshot.specs.PageText.{page_with}
use Rattle.flat_snapshot.proofs.ReadLemmas.{places_within, all_bits_set}
use Rattle.flat_snapshot.proofs.page.Page.holds.Goals as goal

-- each position is within the bits
pub all_set-requires : goal.all_set-requires
all_set-requires c =
    subst (λ (xs : List ℕ). All (λ p. p / 8 < length c.deref.result.now) xs) (sym c.as_slice.ensures.same)
    (subst (λ (bytes : List ℕ). All (λ p. p / 8 < length bytes) c.positions_of-positions.result) (sym c.deref.ensures.value)
    (places_within c.self.inside.bits.items _ _ c.self.invariant.bits c.positions_of-positions.ensures.within))

-- these are the key's positions
pub returns : goal.returns
returns c =
    let set_positions = c.positions_of-positions.ensures.same ∙ ap (λ text. positions_of text c.self.inside.log2_bits c.self.inside.hashes) c.text.ensures.text in
    subst (λ (page : Page). c.all_set.result ≡ page_holds page c.args.key.now) c.self.view_is
    (c.all_set.ensures
    ∙ ap₂ (λ (bytes positions : List ℕ). list_all (is_bit_set bytes) positions) c.deref.ensures.value c.as_slice.ensures.same
    ∙ all_bits_set (page_with c.self.inside.log2_bits c.self.inside.hashes c.self.inside.front c.self.inside.commits c.self.inside.moment c.self.inside.bits.items)
    c.self.inside.bits.items _ _ refl c.self.invariant.bits c.positions_of-positions.ensures.within
    ∙ ap (λ (positions : List ℕ). list_all (is_set (page_with c.self.inside.log2_bits c.self.inside.hashes c.self.inside.front c.self.inside.commits c.self.inside.moment c.self.inside.bits.items)) positions) set_positions)
