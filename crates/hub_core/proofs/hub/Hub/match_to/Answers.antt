-- the front and the clock are those of the state after the match
use Rattle.std.proofs.Common.{◌≡◌, ℕ, ◌≤◌, refl, ap, sym, ◌∙◌, subst, arith}
use Rattle.std.proofs.lemmas.Result.{on_err_weaker}
use Rattle.ttl_estimator.specs.Estimator.{Estimated}
use Rattle.hub_model.specs.Reply.{matched}
use Rattle.hub_model.specs.Setting.{Setting}
use Rattle.hub_model.specs.declared.entry.Entry.TheVariants.{Match}
use Rattle.hub_model.specs.Step.{after}
use Rattle.hub_core.specs.HubState.{HubView, IsAt, hub_of}
use Rattle.hub_core.specs.Lifetimes.{has_entry}
use Rattle.hub_core.proofs.HubLemmas.{alike-before, at-with, on_err_all, parts-at, sound-matched, still-at}
use Rattle.hub_core.proofs.hub.Hub.match_to.Goals as goal

pub returns-clause-after : goal.returns-clause-after
returns-clause-after c = λ s at.
    at-with c.self.inside.book c.args.to c.match_commits.new.copies c.match_commits.new.queries.entries c.match_commits.new.life _
    (subst (λ (g : Setting). IsAt (hub_of c.self.inside.book c.args.to c.match_commits.new.copies c.match_commits.new.life) (after g s (Match c.args.moment c.args.to))) (ap (λ (h : HubView). h.setting) c.self.view_is)
    (c.in_ok-match_commits.ensures.matches s (parts-at c.self.inside.book c.self.inside.front c.self.inside.copies c.self.inside.queries.entries c.self.inside.life c.args.self.now s c.self.view_is at)))

pub returns-clause-told : goal.returns-clause-told
returns-clause-told c = λ s at. ap (λ (n : ℕ). matched (record { front = c.args.to; clock = n })) (c.clock.ensures ∙ (returns-clause-after c s at).time.clock)

-- the parts of the hub belong together, where memory ran out and where the match was made
pub invariant_of-self : goal.invariant_of-self
invariant_of-self c =
    let m = c.in_err-match_commits.ensures in
    sound-matched c.self.inside.book c.self.inside.front c.self.inside.front c.self.inside.copies c.match_commits.new.copies c.self.inside.queries.entries c.match_commits.new.queries.entries c.self.inside.life c.match_commits.new.life
    c.self.invariant c.self.invariant.kept c.self.invariant.within m.still m.lifetimes_still m.setting m.lean
    (λ collection id. ap (λ (e : Estimated). has_entry e.records collection id) m.alike.estimator) m.absents

pub invariant_of-self-2 : goal.invariant_of-self-2
invariant_of-self-2 c =
    let m = c.in_ok-match_commits.ensures in
    sound-matched c.self.inside.book c.self.inside.front c.args.to c.self.inside.copies c.match_commits.new.copies c.self.inside.queries.entries c.match_commits.new.queries.entries c.self.inside.life c.match_commits.new.life
    c.self.invariant (let front : c.self.inside.front ≡ c.args.self.now.front = ap (λ (h : HubView). h.front) c.self.view_is in omega (arith, c.self.invariant.kept, front, c.requires.above)) (subst (λ (n : ℕ). c.args.to ≤ n) (sym (ap (λ (h : HubView). h.commits) c.self.view_is)) c.requires.within) m.kept m.lifetimes m.setting m.lean m.entered m.absents

-- where memory ran out the sets have gone on, and all else is as before
pub returns-in_err-match_commits-clause-memory : goal.returns-in_err-match_commits-clause-memory
returns-in_err-match_commits-clause-memory c =
    let m = c.in_err-match_commits.ensures in
    on_err_all c.from_residual.result _
    (alike-before c.self.inside.book c.self.inside.front c.self.inside.copies c.self.inside.queries.entries c.self.inside.life c.self.inside.book c.self.inside.front c.match_commits.new.copies c.match_commits.new.queries.entries c.match_commits.new.life c.args.self.now c.self.view_is refl refl m.err m.alike m.gone_on)

pub returns-in_err-match_commits-clause-still : goal.returns-in_err-match_commits-clause-still
returns-in_err-match_commits-clause-still c = on_err_weaker c.from_residual.result (λ before. λ s at. still-at c.args.self.now _ s before at) (returns-in_err-match_commits-clause-memory c)

-- nothing is kept but what the history needs
pub returns-in_err-match_commits-clause-lean : goal.returns-in_err-match_commits-clause-lean
returns-in_err-match_commits-clause-lean c = (invariant_of-self c).lean

pub returns-clause-lean : goal.returns-clause-lean
returns-clause-lean c = (invariant_of-self-2 c).lean
