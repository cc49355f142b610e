-- the key has a copy of an earlier commit
use Rattle.std.proofs.Common.{◌≡◌, ◌⊎◌, ℕ, max, IsTrue, Option, unwrap_or, if◌then◌else◌, ap, sym, ◌∙◌, subst}
use Rattle.std.specs.List.{list_any}
use Rattle.query_normal.specs.Keys.{same_key}
use Rattle.expiring_filter.specs.Filter.{Filter}
use Rattle.hub_core.specs.CopiesView.{CopiesView, CanInvalidate, until_below, until_in}
use Rattle.hub_core.proofs.IssueLemmas.{below-last}
use Rattle.hub_core.proofs.InvalidationLemmas.{until-put}
use Rattle.hub_core.proofs.SoundLemmas.{invalidation-few, sound-invalidated, still-reserved, copy-active}
use Rattle.hub_core.proofs.copies.Copies.invalidate.Goals as goal

pub add-requires-clause-reserved : goal.add-requires-clause-reserved
add-requires-clause-reserved c = subst (λ (h : CopiesView). CanInvalidate h c.args.key.now) (sym c.self.view_is) c.requires (copy-active _ c.self.inside.issued c.self.inside.outdated c.self.invariant c.args.key.now c.args.below c.in-Some.until c.in-Some.ensures)

pub add-requires-clause-few : goal.add-requires-clause-few
add-requires-clause-few c = invalidation-few _ c.self.inside.issued c.self.inside.outdated c.self.invariant c.args.key.now (copy-active _ c.self.inside.issued c.self.inside.outdated c.self.invariant c.args.key.now c.args.below c.in-Some.until c.in-Some.ensures)

pub invariant_of-self : goal.invariant_of-self
invariant_of-self c =
    sound-invalidated _ c.self.inside.issued c.self.inside.outdated c.self.invariant c.add.new.self c.args.key.now c.in-Some.until
    (c.self.invariant.late c.args.key.now _ c.in-Some.until (sym c.in-Some.ensures))
    (below-last c.self.inside.issued.held c.args.key.now c.args.below c.in-Some.until (sym c.in-Some.ensures))
    (ap (λ (f : Filter). f.log2_bits) c.add.ensures.rest) (ap (λ (f : Filter). f.hashes) c.add.ensures.rest) c.add.ensures.held

pub returns-in-Some-clause-outdated : goal.returns-in-Some-clause-outdated
returns-in-Some-clause-outdated c = λ other.
    let below : until_below c.args.self.now.copies c.args.key.now c.args.below ≡ c.in-Some.until =
    ap (λ (h : CopiesView). until_below h.copies c.args.key.now c.args.below) (sym c.self.view_is) ∙ ap (λ (o : Option ℕ). unwrap_or o 0) (sym c.in-Some.ensures) in
    ap (λ xs. until_in xs other) c.add.ensures.held
    ∙ until-put c.self.inside.outdated.held c.args.key.now c.in-Some.until other
    ∙ ap (λ (h : CopiesView). max (until_in h.outdated other) (if same_key other c.args.key.now then c.in-Some.until else 0)) c.self.view_is
    ∙ ap (λ (n : ℕ). max (until_in c.args.self.now.outdated other) (if same_key other c.args.key.now then n else 0)) (sym below)

pub returns-in-Some-clause-still : goal.returns-in-Some-clause-still
returns-in-Some-clause-still c = λ other can active.
    let was : IsTrue (list_any (same_key other) c.self.inside.outdated.reserved) ⊎ IsTrue (list_any (λ e. same_key other e.0) c.self.inside.outdated.held) =
    subst (λ (h : CopiesView). CanInvalidate h other) (sym c.self.view_is) can active in
    still-reserved c.self.inside.outdated c.add.new.self c.args.key.now c.in-Some.until other c.add.ensures.held (c.add.ensures.reserved other) was
