use Rattle.std.proofs.Common.{true, rules, arith}
use Rattle.active_queries.proofs.LiftLemmas.{all_stay, all-go-on, on-seen}
use Rattle.active_queries.proofs.ListedLemmas.{reached-more}
use Rattle.active_queries.proofs.followers.Followers.see_each.Goals as goal

pub loop-index-init : goal.loop-index-init
loop-index-init c = record {
  on = all_stay c.args.book.now.journal c.args.self.now.entries;
  recent = c.requires.recent;
  reached = λ k d within there. absurd (let h = there in cc);
  end = search rules;
  spare = omega arith;
}

-- the queries of one key more have seen the commit
pub loop-index-preserved : goal.loop-index-preserved
loop-index-preserved c =
    let journal = c.args.book.now.journal in
    let now = c.loop-index.self.entries in
    let new = c.see.new.self.entries in
    record {
      on = all-go-on journal c.args.self.now.entries now new c.loop-index.invariant.on c.see.ensures.on;
      recent = on-seen journal now new c.see.ensures.on _ c.loop-index.invariant.recent;
      reached = reached-more c.args.row.now.commit journal c.args.keys.now c.loop-index.index c.index-keys-index.result now new (omega (arith, c.loop-index-test.true, c.loop-index.invariant.end)) c.index-keys-index.is c.see.ensures.on c.loop-index.invariant.reached c.in_ok-see.ensures.reached;
      end = c.loop-index.invariant.end;
      spare = omega (arith, c.see.ensures.spare, c.loop-index.invariant.spare);
    }

pub returns-in_err-see-clause-on : goal.returns-in_err-see-clause-on
returns-in_err-see-clause-on c = all-go-on c.args.book.now.journal c.args.self.now.entries c.loop-index.self.entries c.see.new.self.entries c.loop-index.invariant.on c.see.ensures.on
