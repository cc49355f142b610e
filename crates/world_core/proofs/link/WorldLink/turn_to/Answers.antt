-- what the caches hold stays issued
use Rattle.std.proofs.Common.{◌≡◌, ℕ, Bool, inl, inr, leb, ltb, not, nat_lt, sym, ap, ◌∙◌}
use Rattle.std.proofs.lemmas.Bool.{cases_lt, le-leb, le-ltb, lt-leb, lt-ltb}
use Rattle.world_core.specs.Link.{WorldLinkView}
use Rattle.world_core.proofs.link.WorldLink.turn_to.Goals as goal

not_below : (n : ℕ) → leb 2 n ≡ not (ltb n 2)
not_below n = elim (cases_lt n 2) [ inl low ↦ lt-leb 2 n low ∙ sym (ap not (lt-ltb n 2 low)) | inr high ↦ le-leb 2 n high ∙ sym (ap not (le-ltb n 2 high)) ]

pub invariant_of-self : goal.invariant_of-self
invariant_of-self c = record { first = c.self.invariant.first; second = c.self.invariant.second }

pub returns : goal.returns
returns c =
    let v : WorldLinkView = record { store = c.self.inside.store; first = c.self.inside.first; second = c.self.inside.second; is_second = c.self.inside.is_second; purges = c.self.inside.purges; last = c.self.inside.last } in
    ap (λ (b : Bool). record v { is_second = b }) (not_below c.args.client) ∙ ap (λ (x : WorldLinkView). record x { is_second = not (nat_lt c.args.client 2) }) c.self.view_is
