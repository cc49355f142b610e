use Rattle.std.proofs.Common.{◌≡◌, ◌/◌, ◌<◌, Bool, List, ℕ, length, All, refl, sym, subst, ap, ap₂, ◌∙◌}
use Rattle.std.specs.List.{list_all}
use Rattle.q_base.specs.Positions.{positions_of}
use Rattle.query_normal.specs.Bits.{is_bit_set}
use Rattle.query_normal.specs.Keys.{key_text}
use Rattle.query_normal.specs.Pages.{Page, is_set}
use Rattle.flat_snapshot.specs.declared.sight.Sight.{Sight}
use Rattle.flat_snapshot.specs.PageText.{page_with}
use Rattle.flat_snapshot.specs.Sight.{sight_of}
use Rattle.flat_snapshot.proofs.ReadLemmas.{places_within, all_bits_set}
use Rattle.flat_snapshot.proofs.page.Page.sight.Goals as goal

-- each position is within the bits
pub all_set-requires : goal.all_set-requires
all_set-requires c =
    subst (λ (xs : List ℕ). All (λ p. p / 8 < length c.deref.result.now) xs) (sym c.as_slice.ensures.same)
    (subst (λ (bytes : List ℕ). All (λ p. p / 8 < length bytes) c.positions_of-positions.result) (sym c.deref.ensures.value)
    (places_within c.self.inside.bits.items _ _ c.self.invariant.bits c.positions_of-positions.ensures.within))

-- these are the key's positions
pub returns : goal.returns
returns c =
    let page : Page = page_with c.self.inside.log2_bits c.self.inside.hashes c.self.inside.front c.self.inside.commits c.self.inside.moment c.self.inside.bits.items in
    let set_positions = c.positions_of-positions.ensures.same ∙ ap (λ text. positions_of text c.self.inside.log2_bits c.self.inside.hashes) c.text.ensures.text in
    let make : ℕ → Bool → Sight = λ m b. record { front = c.self.inside.front; moment = m; is_held = b } in
    subst (λ (p : Page). make c.seconds.result c.all_set.result ≡ sight_of p (key_text c.args.key.now)) c.self.view_is
    (ap₂ make c.seconds.ensures.same
    (c.all_set.ensures
    ∙ ap₂ (λ (bytes positions : List ℕ). list_all (is_bit_set bytes) positions) c.deref.ensures.value c.as_slice.ensures.same
    ∙ all_bits_set page c.self.inside.bits.items _ _ refl c.self.invariant.bits c.positions_of-positions.ensures.within
    ∙ ap (λ (positions : List ℕ). list_all (is_set page) positions) set_positions))
