-- nothing is issued yet
use Rattle.std.proofs.Common.{◌≡◌, ◌&&◌, Bool, true, false, List, [], refl, ap, sym, ◌∙◌, subst, arith, rules}
use Rattle.std.specs.List.{list_any}
use Rattle.query_normal.specs.declared.key.KeyShape.{KeyShape}
use Rattle.issued_expiries.specs.Copies.{is_active}
use Rattle.issued_expiries.specs.Expiries.{Issued}
use Rattle.ttl_estimator.specs.Estimates.{is_known}
use Rattle.ttl_estimator.specs.Estimator.{Estimated}
use Rattle.commit_book.specs.Contents.{Contents}
use Rattle.commit_book.specs.Journal.{is_of}
use Rattle.active_queries.specs.Following.{Following}
use Rattle.hub_core.specs.CopiesView.{CopiesView, no_copies}
use Rattle.hub_core.specs.ActiveQueries.{is_query, KeepsQueries}
use Rattle.hub_core.specs.Lifetimes.{KeepsLifetimes, has_entry}
use Rattle.hub_core.proofs.KeepLemmas.{keeps-none}
use Rattle.hub_core.proofs.HubLemmas.{at-with, hub-begins}
use Rattle.hub_core.proofs.LifeLemmas.{lifetimes-none}
use Rattle.hub_core.proofs.hub.Hub.new.Goals as goal

never : (b : Bool) → (b && false) ≡ false
never true = refl
never false = refl

pub invariant_of-result : goal.invariant_of-result
invariant_of-result c =
    let queried : KeepsQueries c.in_ok-new.field-0.journal 0 c.in_ok-new-2.field-0.copies c.in_ok-new-2.field-0.idle c.new-3.result.entries =
    subst (λ (h : CopiesView). KeepsQueries c.in_ok-new.field-0.journal 0 h.copies h.idle c.new-3.result.entries) (sym c.in_ok-new-2.ensures)
    (subst (λ (entries : List (KeyShape × Following)). KeepsQueries c.in_ok-new.field-0.journal 0 [] [] entries) (sym c.new-3.ensures) (keeps-none c.in_ok-new.field-0.journal 0)) in
    record {
      within = omega arith;
      kept = (let dropped : c.in_ok-new.field-0.horizon ≡ 0 = ap (λ (b : Contents). b.horizon) c.in_ok-new.ensures.empty in omega (arith, dropped));
      capacity = ap (λ (b : Contents). b.capacity) c.in_ok-new.ensures.empty ∙ c.capacity.ensures.same ∙ sym (ap (λ (h : CopiesView). h.setting.capacity) c.in_ok-new-2.ensures);
      lean = record {
        change = search rules;
        names = search rules;
        idle = search rules;
        ready = search rules;
        invalidatable = search rules;
        absents_idle = ap (λ (a : Issued). a.idle) c.new-life.ensures.absents;
        absents_ready = ap (λ (a : Issued). a.reserved) c.new-life.ensures.absents;
        writes = λ collection id. ap (λ (e : Estimated). has_entry e.records collection id) c.new-life.ensures.estimator ∙ sym (ap (λ (b : Contents). list_any (is_of collection id) b.journal) c.in_ok-new.ensures.empty);
        estimates = λ key. ap (λ (e : Estimated). is_known e.keys key) c.new-life.ensures.estimator ∙ sym (ap (λ (h : CopiesView). is_query key && is_active h.copies key) c.in_ok-new-2.ensures ∙ never (is_query key));
        sets = queried;
      };
      queries = queried;
      lifetimes =
          subst (λ (h : CopiesView). KeepsLifetimes c.in_ok-new.field-0.journal 0 h c.new-life.result) (sym c.in_ok-new-2.ensures)
          (lifetimes-none c.in_ok-new.field-0.journal (no_copies c.args.config) c.new-life.result refl refl refl c.new-life.ensures.estimator c.new-life.ensures.changes);
    }

pub returns-clause-begins : goal.returns-clause-begins
returns-clause-begins c =
    at-with c.in_ok-new.field-0 0 c.in_ok-new-2.field-0 c.new-3.result.entries c.new-life.result _
    (hub-begins c.in_ok-new.field-0 c.in_ok-new-2.field-0 c.new-life.result (ap (λ (b : Contents). b.journal) c.in_ok-new.ensures.empty) (ap (λ (b : Contents). b.horizon) c.in_ok-new.ensures.empty) (ap (λ (h : CopiesView). h.clock) c.in_ok-new-2.ensures) (ap (λ (h : CopiesView). h.copies) c.in_ok-new-2.ensures) (ap (λ (h : CopiesView). h.outdated) c.in_ok-new-2.ensures)
    (ap (λ (e : Estimated). e.records) c.new-life.ensures.estimator) (ap (λ (e : Estimated). e.keys) c.new-life.ensures.estimator) c.new-life.ensures.purges c.new-life.ensures.absents)

pub returns-clause-lean : goal.returns-clause-lean
returns-clause-lean c = (invariant_of-result c).lean
