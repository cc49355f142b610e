use Rattle.std.proofs.Common.{◌≡◌, ◌/◌, ◌-◌, ◌<◌, Bool, List, ℕ, length, take, drop, All, refl, sym, subst, ap, ap₂, ◌∙◌}
use Rattle.std.specs.List.{list_all}
use Rattle.query_normal.specs.Bits.{is_bit_set}
use Rattle.query_normal.specs.Pages.{Page, is_set}
use Rattle.flat_snapshot.specs.PageText.{page_with}
use Rattle.flat_snapshot.proofs.ReadLemmas.{places_within, all_bits_set, rest_is}
use Rattle.flat_snapshot.proofs.MarkLemmas.{looked}
use Rattle.flat_snapshot.proofs.sight.look_into.Goals as goal

-- each position is within the bits
pub all_set-requires : goal.all_set-requires
all_set-requires c =
    subst (λ (xs : List ℕ). All (λ p. p / 8 < length (take (length c.args.page.now - 30) (drop 30 c.args.page.now))) xs) (sym c.as_slice.ensures.same)
    (subst (λ (bytes : List ℕ). All (λ p. p / 8 < length bytes) c.positions_of-positions.result) (sym (rest_is 30 c.args.page.now))
    (places_within (drop 30 c.args.page.now) _ _ c.in_ok-head.ensures.page.bits c.positions_of-positions.ensures.within))

-- the head is the page's, and these are the text's positions
pub returns : goal.returns
returns c =
    let page : Page = page_with c.in_ok-head.head.log2_bits c.in_ok-head.head.hashes c.in_ok-head.head.front c.in_ok-head.head.commits c.in_ok-head.head.moment (drop 30 c.args.page.now) in
    looked c.args.page.now c.args.text.now page c.all_set.result c.in_ok-head.ensures.read
    (c.all_set.ensures
    ∙ ap₂ (λ (bytes positions : List ℕ). list_all (is_bit_set bytes) positions) (rest_is 30 c.args.page.now) c.as_slice.ensures.same
    ∙ all_bits_set page (drop 30 c.args.page.now) _ _ refl c.in_ok-head.ensures.page.bits c.positions_of-positions.ensures.within
    ∙ ap (λ (positions : List ℕ). list_all (is_set page) positions) c.positions_of-positions.ensures.same)
