use Rattle.std.proofs.Common.{◌≡◌, ◌≤◌, ◌-◌, List, if◌then◌else◌, ap, ap₂, sym, subst, ◌∙◌, arith}
use Rattle.std.specs.List.{list_any}
use Rattle.query_normal.specs.declared.key.KeyShape.{KeyShape}
use Rattle.query_normal.specs.Keys.{same_key}
use Rattle.active_queries.specs.Queries.{all_lifted, has_changed}
use Rattle.active_queries.proofs.EntryLemmas.{on-ok}
use Rattle.active_queries.proofs.LiftLemmas.{all_stay, goes-written, lookup-at, value-lifted, written-only}
use Rattle.active_queries.proofs.ListedLemmas.{listed-written}
use Rattle.active_queries.proofs.followers.see_at.Goals as goal

-- the query there has seen the commit before
pub go_on_by-followed-requires-clause-recent : goal.go_on_by-followed-requires-clause-recent
go_on_by-followed-requires-clause-recent c =
    let before = value-lifted (λ a. c.args.row.now.commit - 1 ≤ a.seen) c.args.seen c.args.from c.args.held.now.entries c.args.index c.index_mut-query.result.now c.index_mut-query.ensures.value c.requires.recent in
    omega (arith, before)

pub returns-in_err-reserve-clause-on : goal.returns-in_err-reserve-clause-on
returns-in_err-reserve-clause-on c = all_stay c.args.book.now.journal (all_lifted c.args.seen c.args.from c.args.held.now.entries)

pub returns-in_err-copy-clause-on : goal.returns-in_err-copy-clause-on
returns-in_err-copy-clause-on c = all_stay c.args.book.now.journal (all_lifted c.args.seen c.args.from c.args.held.now.entries)

-- its key was listed as it should
pub list-requires-clause-was : goal.list-requires-clause-was
list-requires-clause-was c =
    ap₂ (λ (keys : List KeyShape) (k : KeyShape). list_any (same_key k) keys) c.reserve.ensures.keys (sym c.in_ok-copy.ensures.cases)
    ∙ c.requires.listed c.args.key.now
    ∙ ap has_changed (lookup-at c.args.key.now c.args.held.now.entries c.args.index c.index_mut-query.result.now c.requires.place c.index_mut-query.ensures.value)
    ∙ sym c.has_changed-was.ensures

pub returns-clause-on : goal.returns-clause-on
returns-clause-on c = goes-written c.args.book.now.journal c.args.seen c.args.from c.args.held.now.entries c.args.index c.index_mut-query.result.now c.go_on_by-followed.new.self c.index_mut-query.ensures.value c.go_on_by-followed.ensures.on

-- no other query has the key
pub returns-clause-reached : goal.returns-clause-reached
returns-clause-reached c =
    on-ok c.go_on_by-followed.result
    (λ high. written-only (λ e. c.args.row.now.commit ≤ e.1.seen) c.args.seen c.args.from c.args.key.now c.args.held.now.entries c.args.index c.go_on_by-followed.new.self c.requires.place c.requires.once (λ k. omega (arith, high)))
    c.go_on_by-followed.ensures.reached

pub returns-clause-listed : goal.returns-clause-listed
returns-clause-listed c =
    listed-written c.args.held.now.entries c.args.key.now c.in_ok-copy.copy c.args.index c.go_on_by-followed.new.self c.args.listed.now.keys c.list.new.listed.keys c.requires.place c.requires.listed (sym c.in_ok-copy.ensures.cases) c.has_changed-is.result c.has_changed-is.ensures
    (subst (λ (keys : List KeyShape). (other : KeyShape) → list_any (same_key other) c.list.new.listed.keys ≡ (if same_key c.in_ok-copy.copy other then c.has_changed-is.result else list_any (same_key other) keys)) c.reserve.ensures.keys c.list.ensures)
