use Rattle.std.proofs.Common.{◌≡◌, false, true, inl, inr, ◌<◌, ◌⊎◌, IsTrue, length, sym, ap, ◌∙◌, subst}
use Rattle.expiring_map.specs.Entries.{seconds_of, extended_at}
use Rattle.expiring_map.specs.Map.{Expiring}
use Rattle.expiring_filter.specs.Filter.{Filter, is_held, is_reserved}
use Rattle.expiring_filter.specs.Held.{put_until}
use Rattle.expiring_filter.proofs.FilterLemmas.{Entries, found_among, none_found, few_without, index_found, seconds_extended, counted_extended}
use Rattle.expiring_filter.proofs.filter.CountingFilter.add.Goals as goal

-- a key that is not held is reserved
pub put-requires-clause-reserved : goal.put-requires-clause-reserved
put-requires-clause-reserved c =
    elim (subst (λ (f : Filter). IsTrue (is_reserved f c.args.key.now) ⊎ IsTrue (is_held f c.args.key.now)) (sym c.self.view_is) c.requires.reserved) [
      | inl reserved ↦ reserved
      | inr held ↦ absurd (let wrong : false ≡ true = c.in-None.ensures.found ∙ found_among c.self.inside.keys.entries c.args.key.now ∙ held in cc)
    ]

pub put-requires-clause-few : goal.put-requires-clause-few
put-requires-clause-few c =
    few_without c.self.inside.keys.entries c.args.key.now
    (subst (λ (f : Filter). (is_held f c.args.key.now ≡ true) ⊎ (length f.held < 1000000)) (sym c.self.view_is) c.requires.few) (none_found _ c.in-None.ensures.found)

-- a held key keeps the later second
extended_is : (c : goal.After-release) → c.release.new.self.entries ≡ extended_at c.self.inside.keys.entries c.in-Some.index c.args.until
extended_is c = c.release.ensures.entries ∙ ap (λ (m : Expiring (Unit {0})). m.entries) c.extend.ensures

pub invariant_of-self : goal.invariant_of-self
invariant_of-self c = record { counted = counted_extended _ _ _ _ c.in-Some.index c.args.until _ _ (extended_is c) c.self.invariant.counted }

pub returns-in-Some-clause-held : goal.returns-in-Some-clause-held
returns-in-Some-clause-held c =
    ap (λ (es : Entries). seconds_of es) (extended_is c)
    ∙ seconds_extended c.self.inside.keys.entries c.args.key.now c.in-Some.index c.args.until (index_found c.args.key.now _ c.in-Some.index c.in-Some.ensures.index) c.in-Some.ensures.within
    ∙ ap (λ (f : Filter). put_until f.held c.args.key.now c.args.until) c.self.view_is
