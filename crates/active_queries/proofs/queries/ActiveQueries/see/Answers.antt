use Rattle.std.proofs.Common.{◌≡◌, true, false, List, subst, sym}
use Rattle.std.specs.List.{list_any}
use Rattle.match_index.specs.Candidates.{passes_key}
use Rattle.query_normal.specs.declared.key.KeyShape.{KeyShape}
use Rattle.query_normal.specs.Keys.{same_key}
use Rattle.active_queries.specs.Queries.{AllGoOn, HaveSeen}
use Rattle.active_queries.proofs.LiftLemmas.{all_stay, all-go-on, on-seen}
use Rattle.active_queries.proofs.ListedLemmas.{indexed-on, passed-others, raised-all, raised-seen}
use Rattle.active_queries.proofs.queries.ActiveQueries.see.Goals as goal

pub returns-in_err-keys-clause-on : goal.returns-in_err-keys-clause-on
returns-in_err-keys-clause-on c = all_stay c.args.book.now.journal c.args.self.now.entries

pub invariant_of-self : goal.invariant_of-self
invariant_of-self c = record { indexed = indexed-on c.args.book.now.journal c.self.inside.followers.entries c.see_each.new.self.entries c.self.inside.ready c.self.inside.index c.see_each.ensures.on c.self.invariant.indexed }

-- those that were found have seen the commit, and it passes the others by
pub returns-clause-on : goal.returns-clause-on
returns-clause-on c =
    let journal = c.args.book.now.journal in
    let old = c.self.inside.followers.entries in
    let mid = c.see_each.new.self.entries in
    rw (← c.self.view_is)
    (subst (AllGoOn journal old) (sym c.raise.ensures.entries)
    (all-go-on journal old mid _ c.see_each.ensures.on
    (raised-all c.equal_results_are_tested.ensures c.windows_stay_where_a_commit_passes_by.ensures journal c.args.row.now c.deref.result.now mid c.requires.row (on-seen journal old mid c.see_each.ensures.on _ (rw (← c.self.view_is) at c.requires.recent)) c.in_ok-see_each.ensures.reached
    (passed-others mid old c.self.inside.ready c.self.inside.index c.deref.result.now c.args.row.now journal c.self.invariant.indexed c.see_each.ensures.on
    (subst (λ (keys : List KeyShape). (key : KeyShape) → list_any (same_key key) c.self.inside.index ≡ true → passes_key key c.args.row.now ≡ false → list_any (same_key key) keys ≡ true) (sym c.deref.ensures.value) c.in_ok-keys.ensures.all)))))

pub returns-clause-reached : goal.returns-clause-reached
returns-clause-reached c = subst (HaveSeen c.args.row.now.commit) (sym c.raise.ensures.entries) (raised-seen c.args.row.now.commit c.see_each.new.self.entries)

pub invariant_of-self-2 : goal.invariant_of-self-2
invariant_of-self-2 c =
    let journal = c.args.book.now.journal in
    let old = c.self.inside.followers.entries in
    let mid = c.see_each.new.self.entries in
    record {
      indexed = indexed-on journal old c.raise.new.self.entries c.self.inside.ready c.self.inside.index
          (subst (AllGoOn journal old) (sym c.raise.ensures.entries)
          (all-go-on journal old mid _ c.see_each.ensures.on
          (raised-all c.equal_results_are_tested.ensures c.windows_stay_where_a_commit_passes_by.ensures journal c.args.row.now c.deref.result.now mid c.requires.row (on-seen journal old mid c.see_each.ensures.on _ (rw (← c.self.view_is) at c.requires.recent)) c.in_ok-see_each.ensures.reached
          (passed-others mid old c.self.inside.ready c.self.inside.index c.deref.result.now c.args.row.now journal c.self.invariant.indexed c.see_each.ensures.on
          (subst (λ (keys : List KeyShape). (key : KeyShape) → list_any (same_key key) c.self.inside.index ≡ true → passes_key key c.args.row.now ≡ false → list_any (same_key key) keys ≡ true) (sym c.deref.ensures.value) c.in_ok-keys.ensures.all))))) c.self.invariant.indexed;
    }
