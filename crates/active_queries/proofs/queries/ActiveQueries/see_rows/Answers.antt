use Rattle.std.proofs.Common.{◌+◌, ◌-◌, length, ap, ◌∙◌, rules, arith}
use Rattle.active_queries.proofs.LiftLemmas.{all_stay, all-go-on}
use Rattle.active_queries.proofs.ListedLemmas.{row-of}
use Rattle.active_queries.proofs.IndexedLemmas.{seen-less}
use Rattle.active_queries.proofs.RowLemmas.{length-commit_rows, row-next, row-number}
use Rattle.active_queries.proofs.queries.ActiveQueries.see_rows.Goals as goal

pub loop-index-init : goal.loop-index-init
loop-index-init c = record {
  on = all_stay c.args.book.now.journal c.args.self.now.entries;
  seen = seen-less (c.args.from + 0) c.args.from c.args.self.now.entries (omega arith) c.requires.recent;
  end = search rules;
  spare = omega arith;
  ready = search rules;
}

-- the row is that of the next commit
pub see-requires-clause-row : goal.see-requires-clause-row
see-requires-clause-row c =
    row-of c.args.book.now.journal (c.args.from + c.loop-index.index) c.index-rows-index.result
    (row-next c.args.book.now.journal c.args.from c.loop-index.index c.args.to c.index-rows-index.result c.args.rows.now c.requires.forward c.requires.within c.requires.rows (omega (arith, c.loop-index-test.true, c.loop-index.invariant.end)) c.index-rows-index.is)

pub see-requires-clause-kept : goal.see-requires-clause-kept
see-requires-clause-kept c =
    let after =
    row-next c.args.book.now.journal c.args.from c.loop-index.index c.args.to c.index-rows-index.result c.args.rows.now c.requires.forward c.requires.within c.requires.rows (omega (arith, c.loop-index-test.true, c.loop-index.invariant.end)) c.index-rows-index.is in
    let number = row-number c.args.book.now.journal (c.args.from + c.loop-index.index) c.index-rows-index.result after in
    omega (arith, number, c.requires.kept)

pub see-requires-clause-recent : goal.see-requires-clause-recent
see-requires-clause-recent c =
    let after =
    row-next c.args.book.now.journal c.args.from c.loop-index.index c.args.to c.index-rows-index.result c.args.rows.now c.requires.forward c.requires.within c.requires.rows (omega (arith, c.loop-index-test.true, c.loop-index.invariant.end)) c.index-rows-index.is in
    let number = row-number c.args.book.now.journal (c.args.from + c.loop-index.index) c.index-rows-index.result after in
    seen-less (c.index-rows-index.result.commit - 1) (c.args.from + c.loop-index.index) c.loop-index.self.entries (omega (arith, number)) c.loop-index.invariant.seen

pub loop-index-preserved : goal.loop-index-preserved
loop-index-preserved c =
    let after =
    row-next c.args.book.now.journal c.args.from c.loop-index.index c.args.to c.index-rows-index.result c.args.rows.now c.requires.forward c.requires.within c.requires.rows (omega (arith, c.loop-index-test.true, c.loop-index.invariant.end)) c.index-rows-index.is in
    let number = row-number c.args.book.now.journal (c.args.from + c.loop-index.index) c.index-rows-index.result after in
    record {
      on = all-go-on c.args.book.now.journal c.args.self.now.entries c.loop-index.self.entries c.see.new.self.entries c.loop-index.invariant.on c.see.ensures.on;
      seen = seen-less (c.args.from + (c.loop-index.index + 1)) c.index-rows-index.result.commit c.see.new.self.entries (omega (arith, number)) c.in_ok-see.ensures.reached;
      end = c.loop-index.invariant.end;
      spare = omega (arith, c.see.ensures.spare, c.loop-index.invariant.spare);
      ready = c.see.ensures.ready ∙ c.loop-index.invariant.ready;
    }

pub returns-in_err-see-clause-on : goal.returns-in_err-see-clause-on
returns-in_err-see-clause-on c = all-go-on c.args.book.now.journal c.args.self.now.entries c.loop-index.self.entries c.see.new.self.entries c.loop-index.invariant.on c.see.ensures.on

pub returns-clause-reached : goal.returns-clause-reached
returns-clause-reached c =
    let count = ap length c.requires.rows ∙ length-commit_rows c.args.book.now.journal c.args.from c.args.to c.requires.forward c.requires.within in
    seen-less c.args.to (c.args.from + c.loop-index.index) c.loop-index.self.entries (omega (arith, count, c.loop-index-test.false, c.loop-index.invariant.end, c.requires.forward)) c.loop-index.invariant.seen
