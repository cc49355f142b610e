use Rattle.std.proofs.Common.{◌≡◌, ℕ, Bool, List, refl, subst, ap, ap₂, ◌∙◌}
use Rattle.std.specs.List.{list_all}
use Rattle.query_normal.specs.Bits.{is_bit_set}
use Rattle.query_normal.specs.Pages.{Page}
use Rattle.flat_snapshot.specs.declared.sight.Sight.{Sight}
use Rattle.flat_snapshot.specs.PageText.{page_with}
use Rattle.flat_snapshot.specs.Sight.{marked_sight, marked_positions}
use Rattle.flat_snapshot.proofs.MarkLemmas.{marked_held, marked_again}
use Rattle.flat_snapshot.proofs.page.Page.sight_at.Goals as goal

-- the bits of the bytes are the page's
pub returns-clause-marked : goal.returns-clause-marked
returns-clause-marked c =
    let page : Page = page_with c.self.inside.log2_bits c.self.inside.hashes c.self.inside.front c.self.inside.commits c.self.inside.moment c.self.inside.bits.items in
    let make : ℕ → Bool → Sight = λ m b. record { front = c.self.inside.front; moment = m; is_held = b } in
    subst (λ (p : Page). make c.seconds.result c.has_mark_set.result ≡ marked_sight p c.args.mark) c.self.view_is
    (ap₂ make c.seconds.ensures.same
    (c.has_mark_set.ensures
    ∙ ap (λ (bytes : List ℕ). list_all (is_bit_set bytes) (marked_positions c.args.mark c.self.inside.log2_bits c.self.inside.hashes)) c.deref.ensures.value
    ∙ marked_held page c.self.inside.bits.items c.args.mark refl c.self.invariant.bits))

-- and a text's mark is the text
pub returns-clause-same : goal.returns-clause-same
returns-clause-same c = λ text is. returns-clause-marked c ∙ marked_again c.args.self.now c.args.mark text is
