-- the clock moves, and an accepted change is the next commit, behind what helps it
use Rattle.std.proofs.Common.{◌≡◌, ◌+◌, ◌∷◌, ◌++◌, [], List, length, true, false, ◌≤◌, arith, Option, Some, None, Err, ◌&&◌, bytes_eq, ℕ, nat_le, IsTrue, if◌then◌else◌, ap, sym, ◌∙◌, subst}
use Rattle.commit_book.specs.declared.change.Change.{Change}
use Rattle.commit_book.specs.Contents.{Contents}
use Rattle.commit_book.specs.Journal.{kept_with}
use Rattle.ttl_estimator.specs.Estimator.{Estimated, has_record}
use Rattle.ttl_estimator.specs.Rates.{last_eight}
use Rattle.ttl_estimator.specs.Records.{clocks_of, entry_of}
use Rattle.hub_model.specs.Reply.{wrote as wrote_reply}
use Rattle.hub_model.specs.Setting.{Setting}
use Rattle.hub_model.specs.State.{State, at_moment}
use Rattle.hub_model.specs.Step.{is_met, after_all}
use Rattle.hub_model.specs.Helps.{helps_of}
use Rattle.hub_model.specs.declared.entry.Entry.TheVariants.{Write}
use Rattle.hub_core.specs.declared.lifetimes.Lifetimes.{Lifetimes}
use Rattle.hub_core.specs.HubState.{HubView, IsAt, IsSoundHub, hub_of, hub_with, help_of}
use Rattle.hub_core.proofs.HubLemmas.{alike-before, at-reserved, at-with, hub-passed, hub-written, parts-at, same-before, sound-matched, sound-passed, sound-written, still-at}
use Rattle.hub_core.specs.ActiveQueries.{KeepsQueries}
use Rattle.hub_core.specs.Lifetimes.{KeepsLifetimes, has_entry}
use Rattle.hub_core.proofs.LifeLemmas.{writes-noted}
use Rattle.hub_core.proofs.WriteLemmas.{judged-ok, judged-full, judged-memory, accepted-now, leaves-unmet, leaves-full, leaves-done, written-unmet, written-done, refused-unmet, refused-after, refused-reply, helped-after, helped-reply}
use Rattle.hub_core.proofs.WrittenLemmas.{entry-noted}
use Rattle.hub_core.proofs.hub.Hub.write.Goals.{After-forget_reserved}
use Rattle.hub_core.proofs.hub.Hub.write.Goals as goal

pub invariant_of-self : goal.invariant_of-self
invariant_of-self c =
    sound-passed c.self.inside.book c.self.inside.front c.self.inside.copies c.pass.new.copies c.self.inside.queries.entries c.pass.new.queries.entries c.self.inside.life c.pass.new.life c.args.moment c.self.invariant c.pass.ensures.passes c.pass.ensures.idle c.pass.ensures.kept c.pass.ensures.dropped

pub invariant_of-self-in-Err-Full : goal.invariant_of-self-in-Err-Full
invariant_of-self-in-Err-Full c =
    subst (λ (b : Contents). IsSoundHub b c.self.inside.front c.pass-in-Err-Full.new.copies c.pass-in-Err-Full.new.queries.entries c.pass-in-Err-Full.new.life) (sym c.in-Err-Full.ensures.err)
    (sound-passed c.self.inside.book c.self.inside.front c.self.inside.copies c.pass-in-Err-Full.new.copies c.self.inside.queries.entries c.pass-in-Err-Full.new.queries.entries c.self.inside.life c.pass-in-Err-Full.new.life c.args.moment c.self.invariant
    c.pass-in-Err-Full.ensures.passes c.pass-in-Err-Full.ensures.idle c.pass-in-Err-Full.ensures.kept c.pass-in-Err-Full.ensures.dropped)

-- ---- a condition that is not met

-- the hub when its clock has moved
unmet : (c : goal.After-clock) (s : State) → IsAt c.args.self.now s → IsAt (hub_of c.self.inside.book c.self.inside.front c.pass.new.copies c.pass.new.life) (at_moment s c.args.moment)
unmet c s at = hub-passed c.self.inside.book c.self.inside.front c.self.inside.copies c.self.inside.life s (parts-at c.self.inside.book c.self.inside.front c.self.inside.copies c.self.inside.queries.entries c.self.inside.life c.args.self.now s c.self.view_is at) c.pass.new.copies c.pass.new.life c.args.moment c.self.invariant.lean.idle c.pass.ensures.passes c.pass.ensures.dropped

pub returns-then-not-is_met-clause-after : goal.returns-then-not-is_met-clause-after
returns-then-not-is_met-clause-after c = λ s at.
    let book = c.self.inside.book in
    let g = c.args.self.now.setting in
    let moved = unmet c s at in
    let same : book.journal ≡ s.journal = moved.book.rows in
    let dropped : book.horizon ≡ s.horizon = moved.book.horizon in
    let fails : is_met c.args.condition.now c.found-before.result c.count.result ≡ false = sym c.is_met.ensures ∙ c.if-not-is_met.true in
    at-with c.self.inside.book c.self.inside.front c.pass.new.copies c.pass.new.queries.entries c.pass.new.life _
    (subst (λ (t : State). IsAt (hub_of book c.self.inside.front c.pass.new.copies c.pass.new.life) t)
    (leaves-unmet g book (at_moment s c.args.moment) c.args.change.now c.args.condition.now c.found-before.result c.count.result same dropped c.found-before.ensures c.count.ensures.count fails
    ∙ refused-after g s c.args.moment c.args.change.now c.args.condition.now (refused-unmet g book s c.args.change.now c.args.condition.now c.found-before.result c.count.result same dropped c.found-before.ensures c.count.ensures.count fails))
    moved)

pub returns-then-not-is_met-clause-told : goal.returns-then-not-is_met-clause-told
returns-then-not-is_met-clause-told c = λ s at.
    let book = c.self.inside.book in
    let g = c.args.self.now.setting in
    let moved = unmet c s at in
    let same : book.journal ≡ s.journal = moved.book.rows in
    let dropped : book.horizon ≡ s.horizon = moved.book.horizon in
    let fails : is_met c.args.condition.now c.found-before.result c.count.result ≡ false = sym c.is_met.ensures ∙ c.if-not-is_met.true in
    ap wrote_reply
    (written-unmet g book (at_moment s c.args.moment) c.args.change.now c.args.condition.now c.found-before.result c.count.result same dropped c.found-before.ensures c.count.ensures.count c.clock.result (c.clock.ensures ∙ moved.time.clock) fails)
    ∙ refused-reply g s c.args.moment c.args.change.now c.args.condition.now (refused-unmet g book s c.args.change.now c.args.condition.now c.found-before.result c.count.result same dropped c.found-before.ensures c.count.ensures.count fails)

-- ---- a change that does not fit

-- the hub when its clock has moved
full : (c : goal.After-clock-in-Err-Full) (s : State) → IsAt c.args.self.now s → IsAt (hub_of c.self.inside.book c.self.inside.front c.pass-in-Err-Full.new.copies c.pass-in-Err-Full.new.life) (at_moment s c.args.moment)
full c s at =
    hub-passed c.self.inside.book c.self.inside.front c.self.inside.copies c.self.inside.life s (parts-at c.self.inside.book c.self.inside.front c.self.inside.copies c.self.inside.queries.entries c.self.inside.life c.args.self.now s c.self.view_is at) c.pass-in-Err-Full.new.copies c.pass-in-Err-Full.new.life c.args.moment c.self.invariant.lean.idle c.pass-in-Err-Full.ensures.passes c.pass-in-Err-Full.ensures.dropped

-- the sum is above the capacity
beyond : (c : goal.After-clock-in-Err-Full) → (nat_le (kept_with c.self.inside.book.journal c.self.inside.book.horizon c.args.change.now) c.self.inside.book.capacity ≡ false) × (c.in-Err-Full.bytes ≡ kept_with c.self.inside.book.journal c.self.inside.book.horizon c.args.change.now)
beyond c = judged-full c.self.inside.book c.args.change.now c.in-Err-Full.bytes (Err c.in-Err-Full.field-0) (ap Err c.in-Err-Full.field-0-is) c.in-Err-Full.ensures.told

pub returns-in-Err-Full-clause-after : goal.returns-in-Err-Full-clause-after
returns-in-Err-Full-clause-after c = λ s at.
    let book = c.self.inside.book in
    let g = c.args.self.now.setting in
    let moved = full c s at in
    let same : book.journal ≡ s.journal = moved.book.rows in
    let dropped : book.horizon ≡ s.horizon = moved.book.horizon in
    let met : is_met c.args.condition.now c.found-before.result c.count.result ≡ true = sym c.is_met.ensures ∙ c.if-not-is_met.false in
    let limit : book.capacity ≡ g.capacity = c.self.invariant.capacity ∙ ap (λ (h : HubView). h.setting.capacity) c.self.view_is in
    at-with c.reserve.new.self c.self.inside.front c.pass-in-Err-Full.new.copies c.pass-in-Err-Full.new.queries.entries c.pass-in-Err-Full.new.life _
    (subst (λ (b : Contents). IsAt (hub_of b c.self.inside.front c.pass-in-Err-Full.new.copies c.pass-in-Err-Full.new.life) (after_all g s (helps_of g s (Write c.args.moment c.args.change.now c.args.condition.now) ++ Write c.args.moment c.args.change.now c.args.condition.now ∷ []))) (sym c.in-Err-Full.ensures.err)
    (subst (λ (t : State). IsAt (hub_of book c.self.inside.front c.pass-in-Err-Full.new.copies c.pass-in-Err-Full.new.life) t)
    (leaves-full g book (at_moment s c.args.moment) c.args.change.now c.args.condition.now c.found-before.result c.count.result same dropped c.found-before.ensures c.count.ensures.count met limit (beyond c).0
    ∙ refused-after g s c.args.moment c.args.change.now c.args.condition.now
    (accepted-now g book s c.args.change.now c.args.condition.now c.found-before.result c.count.result same dropped c.found-before.ensures c.count.ensures.count met limit false (beyond c).0))
    moved))

-- ---- an accepted change

-- the parts of the hub belong together when the change is added
sound : (c : goal.After-add_reserved) → IsSoundHub c.add_reserved.new.self c.make_way.new.front c.pass-in-Ok-make_way.new.copies c.pass-in-Ok-make_way.new.queries.entries (record c.pass-in-Ok-make_way.new.life { estimator = c.note_write.new.self })
sound c =
    let reserved = c.in-Ok.ensures.after in
    let helped = c.in-Ok-make_way.ensures in
    let passed = c.pass-in-Ok-make_way.ensures in
    let forward : c.self.inside.front ≤ c.make_way.new.front = helped.forward in
    sound-written c.self.inside.book c.reserve.new.self c.add_reserved.new.self c.self.inside.front c.make_way.new.front c.self.inside.copies c.make_way.new.copies c.pass-in-Ok-make_way.new.copies
    c.self.inside.queries.entries c.make_way.new.queries.entries c.pass-in-Ok-make_way.new.queries.entries c.self.inside.life c.make_way.new.life c.pass-in-Ok-make_way.new.life c.note_write.new.self
    c.args.change.now c.args.moment c.self.invariant reserved (omega (arith, c.self.invariant.kept, forward)) helped.within helped.lean helped.setting helped.kept helped.lifetimes
    passed.passes passed.idle passed.kept passed.dropped c.note_write.ensures.rest (c.add_reserved.ensures.after c.args.change.now (ap (λ (b : Contents). b.reserved) reserved)) c.add_reserved.ensures.names c.queries_follow_longer_journals.ensures.all
    helped.entered (entry-noted c.args.change.now c.pass-in-Ok-make_way.new.life.estimator.records c.note_write.new.self.records _ c.note_write.ensures.written) helped.absents

pub invariant_of-self-in-Ok-make_way : goal.invariant_of-self-in-Ok-make_way
invariant_of-self-in-Ok-make_way c = sound c

pub returns-in-Ok-make_way-clause-lean : goal.returns-in-Ok-make_way-clause-lean
returns-in-Ok-make_way-clause-lean c = (sound c).lean

-- the hub behind what helps the write, when its clock has moved
behind : (c : goal.After-add_reserved) (s : State) → IsAt c.args.self.now s → IsAt (hub_of c.reserve.new.self c.make_way.new.front c.pass-in-Ok-make_way.new.copies c.pass-in-Ok-make_way.new.life) (at_moment (after_all c.args.self.now.setting s (help_of s c.args.moment)) c.args.moment)
behind c s at =
    let g = c.args.self.now.setting in
    let ready = at-reserved c.self.inside.book c.self.inside.front c.self.inside.copies c.self.inside.life s (parts-at c.self.inside.book c.self.inside.front c.self.inside.copies c.self.inside.queries.entries c.self.inside.life c.args.self.now s c.self.view_is at) c.reserve.new.self (Some c.args.change.now) c.in-Ok.ensures.after in
    let same : c.self.inside.copies.setting ≡ g = ap (λ (h : HubView). h.setting) c.self.view_is in
    hub-passed c.reserve.new.self c.make_way.new.front c.make_way.new.copies c.make_way.new.life (after_all g s (help_of s c.args.moment))
    (subst (λ (x : Setting). IsAt (hub_of c.reserve.new.self c.make_way.new.front c.make_way.new.copies c.make_way.new.life) (after_all x s (help_of s c.args.moment))) same (c.in-Ok-make_way.ensures.matches s ready))
    c.pass-in-Ok-make_way.new.copies c.pass-in-Ok-make_way.new.life c.args.moment c.in-Ok-make_way.ensures.lean.idle c.pass-in-Ok-make_way.ensures.passes c.pass-in-Ok-make_way.ensures.dropped

-- the change fits
fits : (c : goal.After-add_reserved) → nat_le (kept_with c.self.inside.book.journal c.self.inside.book.horizon c.args.change.now) c.self.inside.book.capacity ≡ true
fits c = judged-ok c.self.inside.book c.args.change.now c.in-Ok.field-0 c.reserve.result c.in-Ok.is c.reserve.ensures.told

pub returns-in-Ok-make_way-clause-after : goal.returns-in-Ok-make_way-clause-after
returns-in-Ok-make_way-clause-after c = λ s at.
    let book = c.self.inside.book in
    let g = c.args.self.now.setting in
    let later = after_all g s (help_of s c.args.moment) in
    let moved = behind c s at in
    let met : is_met c.args.condition.now c.found-before.result c.count.result ≡ true = sym c.is_met.ensures ∙ c.if-not-is_met.false in
    let limit : book.capacity ≡ g.capacity = c.self.invariant.capacity ∙ ap (λ (h : HubView). h.setting.capacity) c.self.view_is in
    let same : book.journal ≡ later.journal = sym (ap (λ (b : Contents). b.journal) c.in-Ok.ensures.after) ∙ moved.book.rows in
    let at_first : book.journal ≡ s.journal = ap (λ (h : HubView). h.rows) c.self.view_is ∙ at.book.rows in
    let dropped : book.horizon ≡ later.horizon = sym (ap (λ (b : Contents). b.horizon) c.in-Ok.ensures.after) ∙ moved.book.horizon in
    let dropped_first : book.horizon ≡ s.horizon = ap (λ (h : HubView). h.horizon) c.self.view_is ∙ at.book.horizon in
    at-with c.add_reserved.new.self c.make_way.new.front c.pass-in-Ok-make_way.new.copies c.pass-in-Ok-make_way.new.queries.entries (record c.pass-in-Ok-make_way.new.life { estimator = c.note_write.new.self }) _
    (subst (λ (t : State). IsAt (hub_of c.add_reserved.new.self c.make_way.new.front c.pass-in-Ok-make_way.new.copies (record c.pass-in-Ok-make_way.new.life { estimator = c.note_write.new.self })) t)
    (leaves-done g book (at_moment later c.args.moment) c.args.change.now c.args.condition.now c.found-before.result c.count.result same dropped c.found-before.ensures c.count.ensures.count met limit (fits c)
    ∙ helped-after g s c.args.moment c.args.change.now c.args.condition.now
    (accepted-now g book s c.args.change.now c.args.condition.now c.found-before.result c.count.result at_first dropped_first c.found-before.ensures c.count.ensures.count met limit true (fits c)))
    (hub-written c.reserve.new.self c.make_way.new.front c.pass-in-Ok-make_way.new.copies c.pass-in-Ok-make_way.new.life (at_moment later c.args.moment) moved c.add_reserved.new.self c.args.change.now c.note_write.new.self c.in-Ok-make_way.ensures.within
    (ap (λ (b : Contents). b.journal) (c.add_reserved.ensures.after c.args.change.now (ap (λ (b : Contents). b.reserved) c.in-Ok.ensures.after)))
    (ap (λ (b : Contents). b.horizon) (c.add_reserved.ensures.after c.args.change.now (ap (λ (b : Contents). b.reserved) c.in-Ok.ensures.after)))
    (writes-noted c.pass-in-Ok-make_way.new.life.estimator.records c.note_write.new.self.records (at_moment later c.args.moment) c.args.change.now moved.writes
    (λ collection id. c.note_write.ensures.written collection id ∙ ap (λ (n : ℕ). if bytes_eq c.args.change.now.collection collection && bytes_eq c.args.change.now.id id then Some (last_eight (clocks_of c.pass-in-Ok-make_way.new.life.estimator.records c.args.change.now.collection c.args.change.now.id ++ n ∷ [])) else entry_of c.pass-in-Ok-make_way.new.life.estimator.records collection id) (c.clock-clock.ensures ∙ moved.time.clock)))
    (ap (λ (e : Estimated). e.keys) c.note_write.ensures.rest)))

pub returns-in-Ok-make_way-clause-told : goal.returns-in-Ok-make_way-clause-told
returns-in-Ok-make_way-clause-told c = λ s at.
    let book = c.self.inside.book in
    let g = c.args.self.now.setting in
    let later = after_all g s (help_of s c.args.moment) in
    let moved = behind c s at in
    let met : is_met c.args.condition.now c.found-before.result c.count.result ≡ true = sym c.is_met.ensures ∙ c.if-not-is_met.false in
    let limit : book.capacity ≡ g.capacity = c.self.invariant.capacity ∙ ap (λ (h : HubView). h.setting.capacity) c.self.view_is in
    let reserved = ap (λ (b : Contents). b.journal) c.in-Ok.ensures.after in
    let same : book.journal ≡ later.journal = sym reserved ∙ moved.book.rows in
    let at_first : book.journal ≡ s.journal = ap (λ (h : HubView). h.rows) c.self.view_is ∙ at.book.rows in
    let dropped : book.horizon ≡ later.horizon = sym (ap (λ (b : Contents). b.horizon) c.in-Ok.ensures.after) ∙ moved.book.horizon in
    let dropped_first : book.horizon ≡ s.horizon = ap (λ (h : HubView). h.horizon) c.self.view_is ∙ at.book.horizon in
    ap wrote_reply
    (written-done g book (at_moment later c.args.moment) c.args.change.now c.args.condition.now c.found-before.result c.count.result same dropped c.found-before.ensures c.count.ensures.count met limit c.add_reserved.result c.clock-clock.result
    (c.add_reserved.ensures.commit ∙ ap (λ (xs : List Change). length xs + 1) reserved) (c.clock-clock.ensures ∙ moved.time.clock) (fits c))
    ∙ helped-reply g s c.args.moment c.args.change.now c.args.condition.now
    (accepted-now g book s c.args.change.now c.args.condition.now c.found-before.result c.count.result at_first dropped_first c.found-before.ensures c.count.ensures.count met limit true (fits c))

-- ---- only a write that is accepted answers Memory

pub returns-in-Err-Memory-clause-accepted : goal.returns-in-Err-Memory-clause-accepted
returns-in-Err-Memory-clause-accepted c = λ s at.
    let book = c.self.inside.book in
    let rows : book.journal ≡ s.journal = ap (λ (h : HubView). h.rows) c.self.view_is ∙ at.book.rows in
    let dropped : book.horizon ≡ s.horizon = ap (λ (h : HubView). h.horizon) c.self.view_is ∙ at.book.horizon in
    let limit : book.capacity ≡ c.args.self.now.setting.capacity = c.self.invariant.capacity ∙ ap (λ (h : HubView). h.setting.capacity) c.self.view_is in
    accepted-now c.args.self.now.setting book s c.args.change.now c.args.condition.now c.found-before.result c.count.result rows dropped c.found-before.ensures c.count.ensures.count
    (sym c.is_met.ensures ∙ c.if-not-is_met.false) limit true
    (judged-memory book c.args.change.now (Err c.in-Err-Memory.field-0) (ap Err c.in-Err-Memory.field-0-is) c.in-Err-Memory.ensures.full)

-- ---- what the calls ask

-- the last commit is not below the horizon
pub found-before-requires : goal.found-before-requires
found-before-requires c = omega (arith, c.self.invariant.kept, c.self.invariant.within)

pub make_way-requires-clause-above : goal.make_way-requires-clause-above
make_way-requires-clause-above c = (let same : c.reserve.new.self.horizon ≡ c.self.inside.book.horizon = ap (λ (b : Contents). b.horizon) c.in-Ok.ensures.after in omega (arith, same, c.self.invariant.kept))

-- there is a number for the commit
pub add_reserved-requires-clause-count : goal.add_reserved-requires-clause-count
add_reserved-requires-clause-count c =
    let commits : length c.self.inside.book.journal ≡ c.args.self.now.commits = ap (λ (h : HubView). h.commits) c.self.view_is in
    let same : length c.reserve.new.self.journal ≡ length c.self.inside.book.journal = ap (λ (b : Contents). length b.journal) c.in-Ok.ensures.after in
    omega (arith, commits, same, c.requires)

-- ---- the entry for the writes of the record is there still

pub note_write-requires : goal.note_write-requires
note_write-requires c =
    subst (λ (l : Lifetimes). IsTrue (has_record l.estimator c.args.change.now.collection c.args.change.now.id)) (sym c.pass-in-Ok-make_way.ensures.dropped.rest) c.in-Ok-make_way.ensures.known

-- ---- nothing is kept but what the history needs

pub returns-then-not-is_met-clause-lean : goal.returns-then-not-is_met-clause-lean
returns-then-not-is_met-clause-lean c = (invariant_of-self c).lean

pub returns-in-Err-Full-clause-lean : goal.returns-in-Err-Full-clause-lean
returns-in-Err-Full-clause-lean c = (invariant_of-self-in-Err-Full c).lean

-- ---- a match that has to come first, where memory ran out

-- the book is as it was
given-back : (c : After-forget_reserved) → c.forget_reserved.new.self ≡ c.self.inside.book
given-back c =
    c.forget_reserved.ensures
    ∙ ap (λ (b : Contents). record b { reserved = None }) c.in-Ok.ensures.after
    ∙ ap (λ (o : Option Change). record c.self.inside.book { reserved = o }) (sym c.self.invariant.lean.change)

pub returns-in-Err-clause-memory : goal.returns-in-Err-clause-memory
returns-in-Err-clause-memory c =
    let m = c.in-Err.ensures in
    alike-before c.self.inside.book c.self.inside.front c.self.inside.copies c.self.inside.queries.entries c.self.inside.life c.forget_reserved.new.self c.make_way.new.front c.make_way.new.copies c.make_way.new.queries.entries c.make_way.new.life c.args.self.now c.self.view_is (given-back c) m.front m.err m.alike m.gone_on

pub returns-in-Err-clause-still : goal.returns-in-Err-clause-still
returns-in-Err-clause-still c = λ s at. still-at c.args.self.now _ s (returns-in-Err-clause-memory c) at

pub invariant_of-self-in-Err : goal.invariant_of-self-in-Err
invariant_of-self-in-Err c =
    let m = c.in-Err.ensures in
    subst (λ (b : Contents). IsSoundHub b c.make_way.new.front c.make_way.new.copies c.make_way.new.queries.entries c.make_way.new.life) (sym (given-back c))
    (sound-matched c.self.inside.book c.self.inside.front c.make_way.new.front c.self.inside.copies c.make_way.new.copies c.self.inside.queries.entries c.make_way.new.queries.entries c.self.inside.life c.make_way.new.life c.self.invariant
    (let forward : c.self.inside.front ≤ c.make_way.new.front = m.forward in omega (arith, c.self.invariant.kept, forward))
    (subst (λ (b : Contents). c.make_way.new.front ≤ length b.journal) c.in-Ok.ensures.after m.within)
    (subst (λ (b : Contents). KeepsQueries b.journal c.make_way.new.front c.make_way.new.copies.copies c.make_way.new.copies.idle c.make_way.new.queries.entries) c.in-Ok.ensures.after m.kept)
    (subst (λ (b : Contents). KeepsLifetimes b.journal c.make_way.new.front c.make_way.new.copies c.make_way.new.life) c.in-Ok.ensures.after m.lifetimes)
    m.setting m.lean (λ collection id. ap (λ (e : Estimated). has_entry e.records collection id) m.alike.estimator) m.absents)

pub returns-in-Err-clause-lean : goal.returns-in-Err-clause-lean
returns-in-Err-clause-lean c = (invariant_of-self-in-Err c).lean

-- ---- a book that has no memory

pub returns-in-Err-Memory-clause-memory : goal.returns-in-Err-Memory-clause-memory
returns-in-Err-Memory-clause-memory c =
    same-before c.args.self.now (hub_with c.reserve.new.self c.self.inside.front c.self.inside.copies c.self.inside.queries.entries c.self.inside.life)
    (ap (λ (b : Contents). hub_with b c.self.inside.front c.self.inside.copies c.self.inside.queries.entries c.self.inside.life) c.in-Err-Memory.ensures.err ∙ c.self.view_is)

pub returns-in-Err-Memory-clause-still : goal.returns-in-Err-Memory-clause-still
returns-in-Err-Memory-clause-still c = λ s at. still-at c.args.self.now (hub_with c.reserve.new.self c.self.inside.front c.self.inside.copies c.self.inside.queries.entries c.self.inside.life) s (returns-in-Err-Memory-clause-memory c) at
