-- the keys that the commits changed are invalidated, the queries have seen them, and the purges are numbered
use Rattle.std.proofs.Common.{◌≡◌, ℕ, List, [], All, is_some, max, option_map, if◌then◌else◌, ap, sym, ◌∙◌, subst}
use Rattle.std.specs.List.{list_any}
use Rattle.query_normal.specs.Keys.{same_key}
use Rattle.query_normal.specs.declared.key.KeyShape.{KeyShape}
use Rattle.issued_expiries.specs.Copies.{Copy}
use Rattle.ttl_estimator.specs.Estimates.{after_purge, kept_of}
use Rattle.ttl_estimator.specs.Estimator.{Estimated}
use Rattle.purge_list.specs.LastChanges.{change_of, is_known as has_change}
use Rattle.hub_model.specs.Lifetime.{limits_of}
use Rattle.hub_model.specs.Purge.{is_purged}
use Rattle.hub_model.specs.State.{at_moment}
use Rattle.hub_model.specs.Step.{has_matched}
use Rattle.active_queries.specs.Following.{Following, AreFollowing}
use Rattle.active_queries.specs.Queries.{HaveSeen, ListAbove}
use Rattle.hub_core.specs.declared.invalidations.Invalidation.{Invalidation}
use Rattle.hub_core.specs.declared.lifetimes.Lifetimes.{Lifetimes}
use Rattle.hub_core.specs.Invalidations.{AreInvalidationsOf, HaveEntries, invalidated_until, purges_at, raised_by}
use Rattle.hub_core.specs.ActiveQueries.{KeepsQueries}
use Rattle.hub_core.specs.CopiesView.{CopiesView, CanInvalidate, until_in}
use Rattle.hub_core.specs.HubState.{IsAt, hub_of}
use Rattle.hub_core.specs.Lifetimes.{HaveLastChanges, KeepsLifetimes, has_entry}
use Rattle.hub_core.proofs.HubLemmas.{at-invalidatable, at-estimator, hub-passed, hub-matched, reserved-later}
use Rattle.hub_core.proofs.KeepLemmas.{keeps-matched}
use Rattle.hub_core.proofs.MatchLemmas.{invalidations-later}
use Rattle.hub_core.proofs.MatchedLemmas.{lifetimes-matched, lifetimes-prepared, purged-at, some_kept}
use Rattle.hub_core.proofs.ReadLemmas.{kept-alike}
use Rattle.hub_core.proofs.matching.match_commits.Goals as goal

-- ---- where there is memory

-- what is kept belongs together with its entries
prepared : (c : goal.After-drop-prepared) → KeepsLifetimes c.args.book.now.journal c.args.front c.prepare.new.copies c.prepare.new.life
prepared c =
    lifetimes-prepared c.args.book.now.journal c.args.front c.args.copies.now c.prepare.new.copies c.args.life.now c.prepare.new.life c.prepare.new.copies.invalidatable c.in-Ok.ensures.rest c.in-Ok.ensures.estimator c.in-Ok.ensures.changes c.in-Ok.ensures.active c.requires.lifetimes

-- no key is idle, nor reserved
idle : (c : goal.After-drop-prepared) → c.prepare.new.copies.idle ≡ []
idle c = ap (λ (h : CopiesView). h.idle) c.in-Ok.ensures.rest ∙ c.requires.lean.idle

ready : (c : goal.After-drop-prepared) → c.prepare.new.copies.ready ≡ []
ready c = ap (λ (h : CopiesView). h.ready) c.in-Ok.ensures.rest ∙ c.requires.lean.ready

-- the invalidations, of the copies with their memory
are : (c : goal.After-drop-prepared) → AreInvalidationsOf c.args.book.now.journal c.args.front c.args.to c.prepare.new.copies.copies c.in-Ok.prepared.invalidations.items
are c = subst (λ (cs : List Copy). AreInvalidationsOf c.args.book.now.journal c.args.front c.args.to cs c.in-Ok.prepared.invalidations.items) (sym (ap (λ (h : CopiesView). h.copies) c.in-Ok.ensures.rest)) c.in-Ok.ensures.invalidations

pub invalidate_all-requires : goal.invalidate_all-requires
invalidate_all-requires c = subst (λ (ms : List Invalidation). All (λ m. CanInvalidate c.pass.new.copies m.key) ms) (sym c.deref.ensures.value)
    (reserved-later c.in-Ok.prepared.invalidations.items c.prepare.new.copies c.pass.new.copies c.args.moment c.in-Ok.ensures.reserved c.pass.ensures.passes)

pub returns-in-Ok-clause-lifetimes : goal.returns-in-Ok-clause-lifetimes
returns-in-Ok-clause-lifetimes c =
    lifetimes-matched c.args.book.now.journal c.args.front c.args.to c.args.moment c.prepare.new.copies c.pass.new.copies c.forget_invalidations.new.self c.prepare.new.life c.pass.new.life c.note_purges.new.life c.in-Ok.prepared.invalidations.items
    c.pass.ensures.passes (idle c) (ready c) c.pass.ensures.idle c.pass.ensures.dropped (prepared c) c.requires.forward (are c) c.in-Ok.ensures.within
    (subst (λ (cs : List Copy). HaveEntries cs c.prepare.new.life.changes c.in-Ok.prepared.invalidations.items) (sym (ap (λ (h : CopiesView). h.copies) c.in-Ok.ensures.rest)) c.in-Ok.ensures.entries)
    (λ key. ap (λ (l : Lifetimes). change_of l.changes key) c.note_purges.ensures.rest ∙ c.raise_all.ensures.changes key ∙ ap (λ (ms : List Invalidation). if has_change c.pass.new.life.changes key then max (change_of c.pass.new.life.changes key) (raised_by key ms) else change_of c.pass.new.life.changes key) c.deref-in-Ok.ensures.value)
    (λ key. ap (λ (l : Lifetimes). has_change l.changes key) c.note_purges.ensures.rest ∙ c.raise_all.ensures.known key)
    c.note_purges.ensures.known
    (λ key. ap is_some (c.note_purges.ensures.kept key) ∙ some_kept (list_any (same_key key) c.in-Ok.prepared.purged.items) (after_purge c.pass.new.life.estimator.limits c.clock.result) (kept_of c.pass.new.life.estimator.keys key))
    (ap (λ (l : Lifetimes). l.estimator.limits) c.note_purges.ensures.rest)
    (ap (λ (h : CopiesView). h.copies) c.forget_invalidations.ensures ∙ ap (λ (h : CopiesView). h.copies) c.invalidate_all.ensures.rest)
    (ap (λ (h : CopiesView). h.idle) c.forget_invalidations.ensures ∙ ap (λ (h : CopiesView). h.idle) c.invalidate_all.ensures.rest)
    (ap (λ (h : CopiesView). h.ready) c.forget_invalidations.ensures ∙ ap (λ (h : CopiesView). h.ready) c.invalidate_all.ensures.rest)
    (ap (λ (h : CopiesView). h.setting) c.forget_invalidations.ensures ∙ ap (λ (h : CopiesView). h.setting) c.invalidate_all.ensures.rest)

pub returns-in-Ok-clause-matches : goal.returns-in-Ok-clause-matches
returns-in-Ok-clause-matches c = λ s at.
    let book = c.args.book.now in
    let front = c.args.front in
    let g = c.args.copies.now.setting in
    let invalidations = c.in-Ok.prepared.invalidations.items in
    let keys = c.in-Ok.prepared.purged.items in
    let reserved = c.prepare.new.copies in
    let passed = c.pass.new.copies in
    let made : IsAt (hub_of book front reserved c.prepare.new.life) s =
    at-estimator book front reserved c.args.life.now s (at-invalidatable book front c.args.copies.now c.args.life.now s at reserved reserved.invalidatable c.in-Ok.ensures.rest) c.prepare.new.life c.in-Ok.ensures.records
    (λ key. ap (λ (e : Estimated). kept_of e.keys key) c.in-Ok.ensures.estimator) c.in-Ok.ensures.texts c.in-Ok.ensures.absents in
    let moved : IsAt (hub_of book front passed c.pass.new.life) (at_moment s c.args.moment) =
    hub-passed book front reserved c.prepare.new.life s made passed c.pass.new.life c.args.moment (idle c) c.pass.ensures.passes c.pass.ensures.dropped in
    let limits : c.pass.new.life.estimator.limits ≡ limits_of g =
    ap (λ (l : Lifetimes). l.estimator.limits) c.pass.ensures.dropped.rest ∙ ap (λ (e : Estimated). e.limits) c.in-Ok.ensures.estimator ∙ c.requires.lifetimes.limits in
    let each : (key : KeyShape) → list_any (same_key key) keys ≡ is_purged (at_moment s c.args.moment) c.args.to key =
    λ key.
    c.in-Ok.ensures.purged key
    ∙ (let copies = sym (ap (λ (h : CopiesView). h.copies) c.in-Ok.ensures.rest) in let clocks = sym (ap (λ (h : CopiesView). h.clock) c.in-Ok.ensures.rest) in (λ i. list_any (purges_at (copies i) c.args.life.now.changes (max (clocks i) c.args.moment) key) invalidations))
    ∙ purged-at book front c.args.to c.args.moment reserved passed c.prepare.new.life s invalidations made c.pass.ensures.passes moved.copies c.requires.forward c.args.life.now.changes
    (subst (λ (cs : List Copy). HaveLastChanges book.journal front cs c.args.life.now.changes) (sym (ap (λ (h : CopiesView). h.copies) c.in-Ok.ensures.rest)) c.requires.lifetimes.changes) (are c) key in
    let matched =
    hub-matched book front passed c.pass.new.life (at_moment s c.args.moment) moved c.args.to c.invalidate_all.new.copies c.note_purges.new.life g invalidations keys c.requires.forward
    (invalidations-later book.journal front c.args.to passed.clock reserved.copies passed.copies invalidations c.pass.ensures.passes.copies (are c))
    (λ key. c.invalidate_all.ensures.outdated key ∙ ap (λ (ms : List Invalidation). max (until_in passed.outdated key) (invalidated_until passed.copies ms key)) c.deref.ensures.value)
    (ap (λ (h : CopiesView). h.clock) c.invalidate_all.ensures.rest) (ap (λ (h : CopiesView). h.copies) c.invalidate_all.ensures.rest) (ap (λ (h : CopiesView). h.setting) c.invalidate_all.ensures.rest)
    (ap (λ (l : Lifetimes). l.absents) c.note_purges.ensures.rest)
    c.in-Ok.ensures.once c.in-Ok.ensures.sorted each limits
    (ap (λ (l : Lifetimes). l.estimator.records) c.note_purges.ensures.rest) c.note_purges.ensures.texts
    (λ key. c.note_purges.ensures.kept key ∙ ap (λ (n : ℕ). if list_any (same_key key) keys then option_map (after_purge c.pass.new.life.estimator.limits n) (kept_of c.pass.new.life.estimator.keys key) else kept_of c.pass.new.life.estimator.keys key)
    (c.clock.ensures ∙ ap (λ (h : CopiesView). h.clock) c.forget_invalidations.ensures ∙ ap (λ (h : CopiesView). h.clock) c.invalidate_all.ensures.rest)) in
    at-invalidatable book c.args.to c.invalidate_all.new.copies c.note_purges.new.life (has_matched g c.args.to (at_moment s c.args.moment)) matched c.forget_invalidations.new.self [] c.forget_invalidations.ensures

pub returns-in-Ok-clause-kept : goal.returns-in-Ok-clause-kept
returns-in-Ok-clause-kept c =
    let journal = c.args.book.now.journal in
    let copies = c.args.copies.now in
    let reserved = c.prepare.new.copies in
    let passed = c.pass.new.copies in
    let keeps = c.in-Ok.ensures.kept in
    let entries = c.prepare.new.queries.entries in
    let matched : KeepsQueries journal c.args.to copies.copies copies.idle c.forget.new.self.entries =
    subst (λ (es : List (KeyShape × Following)). KeepsQueries journal c.args.to copies.copies copies.idle es) (sym c.forget.ensures.entries)
    (keeps-matched journal c.args.front copies.copies copies.idle entries keeps c.args.to c.requires.forward
    (subst (AreFollowing journal) c.forget.ensures.entries (c.forget.ensures.following journal c.in-Ok.ensures.seen keeps.following))
    (subst (HaveSeen c.args.to) c.forget.ensures.entries (c.forget.ensures.seen c.args.to c.in-Ok.ensures.seen)) (subst (ListAbove c.args.to) c.forget.ensures.entries c.forget.ensures.above)) in
    let still = kept-alike journal c.args.to copies reserved c.forget.new.self.entries (ap (λ (h : CopiesView). h.copies) c.in-Ok.ensures.rest) (ap (λ (h : CopiesView). h.idle) c.in-Ok.ensures.rest) matched in
    kept-alike journal c.args.to passed c.forget_invalidations.new.self c.pass.new.queries.entries
    (ap (λ (h : CopiesView). h.copies) c.forget_invalidations.ensures ∙ ap (λ (h : CopiesView). h.copies) c.invalidate_all.ensures.rest)
    (ap (λ (h : CopiesView). h.idle) c.forget_invalidations.ensures ∙ ap (λ (h : CopiesView). h.idle) c.invalidate_all.ensures.rest)
    (c.pass.ensures.kept journal c.args.to still)

-- the entry for the writes of the change's record is there still
pub returns-in-Ok-clause-entered : goal.returns-in-Ok-clause-entered
returns-in-Ok-clause-entered c = λ collection id.
    ap (λ (l : Lifetimes). has_entry l.estimator.records collection id) c.note_purges.ensures.rest
    ∙ ap (λ (l : Lifetimes). has_entry l.estimator.records collection id) c.pass.ensures.dropped.rest
    ∙ c.in-Ok.ensures.entered collection id

-- ---- where there is none

pub returns-in-Err-clause-lifetimes_still : goal.returns-in-Err-clause-lifetimes_still
returns-in-Err-clause-lifetimes_still c =
    lifetimes-prepared c.args.book.now.journal c.args.front c.args.copies.now c.forget_invalidations-in-Err.new.self c.args.life.now c.prepare.new.life [] (c.forget_invalidations-in-Err.ensures ∙ ap (λ (h : CopiesView). record h { invalidatable = [] }) c.in-Err.ensures.rest) c.in-Err.ensures.estimator c.in-Err.ensures.changes c.in-Err.ensures.active c.requires.lifetimes

-- the copies of absent records stay

pub returns-in-Ok-clause-absents : goal.returns-in-Ok-clause-absents
returns-in-Ok-clause-absents c = ap (λ (l : Lifetimes). l.absents) c.note_purges.ensures.rest ∙ ap (λ (l : Lifetimes). l.absents) c.pass.ensures.dropped.rest ∙ c.in-Ok.ensures.absents
