use Rattle.std.proofs.Common.{◌-◌, ◌<◌, ◌≤◌, ℕ, List, length, get_or, ap, ap₂, ◌∙◌, arith}
use Rattle.commit_book.specs.declared.change.CommitRow.{CommitRow}
use Rattle.active_queries.specs.Following.{Following}
use Rattle.active_queries.proofs.RowLemmas.{length-commit_rows, row_there}
use Rattle.active_queries.proofs.query.ActiveQuery.follow.Goals as goal

-- there is a row for each commit up to the last
pub bounds-rows-self-inside : goal.bounds-rows-self-inside
bounds-rows-self-inside c =
    let same = ap (λ (s : Following). s.seen) c.self.view_is in
    let count = ap length c.requires.rows ∙ length-commit_rows c.args.book.now.journal c.args.from c.args.to c.requires.forward c.requires.within in
    omega (arith, same, count, c.requires.behind, c.loop-self.invariant.seen, c.loop-self-test.true)

pub offset_bounds-rows-self-inside : goal.offset_bounds-rows-self-inside
offset_bounds-rows-self-inside c =
    let same = ap (λ (s : Following). s.seen) c.self.view_is in
    let count = ap length c.requires.rows ∙ length-commit_rows c.args.book.now.journal c.args.from c.args.to c.requires.forward c.requires.within in
    omega (arith, same, count, c.requires.behind, c.loop-self.invariant.seen, c.loop-self-test.true)

-- it is the row of the next commit
pub see-requires : goal.see-requires
see-requires c =
    let same = ap (λ (s : Following). s.seen) c.self.view_is in
    let behind : c.args.from ≤ c.loop-self.self.seen = omega (arith, c.requires.behind, c.loop-self.invariant.seen) in
    let below : c.loop-self.self.seen < c.args.to = omega (arith, same, c.loop-self-test.true) in
    let at = c.index-rows-self.is ∙ ap₂ (λ (rows : List CommitRow) (n : ℕ). get_or rows (n - c.args.from) c.index-rows-self.result) c.requires.rows same in
    record {
      next = row_there c.args.book.now.journal c.args.from c.loop-self.self.seen c.args.to c.index-rows-self.result behind below c.requires.within at;
      kept = omega (arith, c.requires.kept, behind);
    }

pub loop-self-preserved : goal.loop-self-preserved
loop-self-preserved c = record {
  follows = λ kind query follows. c.see.ensures.follows kind query (c.loop-self.invariant.follows kind query follows);
  from = c.see.ensures.from ∙ c.loop-self.invariant.from;
  seen = omega (arith, c.see.ensures.seen, c.loop-self.invariant.seen);
  above = λ n low above. c.see.ensures.above n (omega (arith, low, c.loop-self.invariant.seen)) (c.loop-self.invariant.above n low above);
}

pub returns-in_err-see-clause-above : goal.returns-in_err-see-clause-above
returns-in_err-see-clause-above c = λ n low above. c.see.ensures.above n (omega (arith, low, c.loop-self.invariant.seen)) (c.loop-self.invariant.above n low above)

pub returns-in_err-see-clause-follows : goal.returns-in_err-see-clause-follows
returns-in_err-see-clause-follows c = λ kind query follows. c.see.ensures.follows kind query (c.loop-self.invariant.follows kind query follows)
