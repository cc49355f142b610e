use Rattle.std.proofs.Common.{◌≡◌, ◌≤◌, List, if◌then◌else◌, ap, ap₂, sym, subst, ◌∙◌, option_map}
use Rattle.std.specs.List.{list_any}
use Rattle.query_normal.specs.declared.key.KeyShape.{KeyShape}
use Rattle.query_normal.specs.Keys.{same_key}
use Rattle.active_queries.specs.Following.{lifted}
use Rattle.active_queries.specs.Queries.{all_lifted, has_changed}
use Rattle.active_queries.proofs.EntryLemmas.{on-ok, lookup-others}
use Rattle.active_queries.proofs.LiftLemmas.{all_stay, goes-written, lookup-lifted, lookup-at, reached-lifted, value-lifted}
use Rattle.active_queries.proofs.ListedLemmas.{listed-written}
use Rattle.active_queries.proofs.followers.go_on_at.Goals as goal

-- the query there has seen the horizon
pub go_on-followed-requires-clause-kept : goal.go_on-followed-requires-clause-kept
go_on-followed-requires-clause-kept c = value-lifted (λ a. c.args.book.now.horizon ≤ a.seen) c.args.seen c.args.from c.args.held.now.entries c.args.index c.index_mut-query.result.now c.index_mut-query.ensures.value c.requires.kept

pub returns-in_err-reserve-clause-on : goal.returns-in_err-reserve-clause-on
returns-in_err-reserve-clause-on c = all_stay c.args.book.now.journal (all_lifted c.args.seen c.args.from c.args.held.now.entries)

pub returns-in_err-copy-clause-on : goal.returns-in_err-copy-clause-on
returns-in_err-copy-clause-on c = all_stay c.args.book.now.journal (all_lifted c.args.seen c.args.from c.args.held.now.entries)

-- its key was listed as it should
pub list-requires-clause-was : goal.list-requires-clause-was
list-requires-clause-was c =
    ap₂ (λ (keys : List KeyShape) (k : KeyShape). list_any (same_key k) keys) c.reserve.ensures.keys (sym c.in_ok-copy.ensures.cases)
    ∙ c.requires.listed c.args.key.now
    ∙ ap has_changed (lookup-at c.args.key.now c.args.held.now.entries c.args.index c.index_mut-query.result.now c.requires.place c.index_mut-query.ensures.value)
    ∙ sym c.has_changed-was.ensures

pub returns-clause-on : goal.returns-clause-on
returns-clause-on c = goes-written c.args.book.now.journal c.args.seen c.args.from c.args.held.now.entries c.args.index c.index_mut-query.result.now c.go_on-followed.new.self c.index_mut-query.ensures.value c.go_on-followed.ensures.on

pub returns-clause-reached : goal.returns-clause-reached
returns-clause-reached c =
    on-ok c.go_on-followed.result (λ high. reached-lifted c.args.key.now c.args.to c.args.seen c.args.from c.args.held.now.entries c.args.index c.go_on-followed.new.self c.requires.place high) c.go_on-followed.ensures.reached

pub returns-clause-others : goal.returns-clause-others
returns-clause-others c = λ other apart.
    lookup-lifted c.args.seen c.args.from (same_key other) _
    ∙ ap (option_map (lifted c.args.seen c.args.from)) (lookup-others c.args.key.now c.args.held.now.entries c.args.index c.go_on-followed.new.self c.requires.place other apart)
    ∙ sym (lookup-lifted c.args.seen c.args.from (same_key other) c.args.held.now.entries)

pub returns-clause-listed : goal.returns-clause-listed
returns-clause-listed c =
    listed-written c.args.held.now.entries c.args.key.now c.in_ok-copy.copy c.args.index c.go_on-followed.new.self c.args.listed.now.keys c.list.new.listed.keys c.requires.place c.requires.listed (sym c.in_ok-copy.ensures.cases) c.has_changed-is.result c.has_changed-is.ensures
    (subst (λ (keys : List KeyShape). (other : KeyShape) → list_any (same_key other) c.list.new.listed.keys ≡ (if same_key c.in_ok-copy.copy other then c.has_changed-is.result else list_any (same_key other) keys)) c.reserve.ensures.keys c.list.ensures)
