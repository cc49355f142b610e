use Rattle.std.specs.Vec.{vec_capacity}
use Rattle.std.proofs.Common.{Vec, Global, ◌≡◌, ◌<◌, ◌≤◌, ◌+◌, ℕ, length, ap, ◌∙◌, arith, rules}
use Rattle.issued_expiries.proofs.KeepLemmas.{kept_space, kept_one, kept_none, kept_first, kept_last, kept_count}
use Rattle.issued_expiries.proofs.sorted_copies.keep_later.Goals as goal
use Rattle.issued_expiries.proofs.sorted_copies.keep_later.Goals.{then-clock-until, else-clock-until}

pub loop-i-init : goal.loop-i-init
loop-i-init c = record { upto = kept_first _ _ _ _ _ _ c.requires.empty; capacity = search rules }

pub bounds-tree-start : goal.bounds-tree-start
bounds-tree-start c =
    let space = kept_space c.loop-i.invariant.upto c.loop-i-test.true c.if-clock-until.true in
    omega (arith, space, c.requires.row, c.loop-i.auto.tree)

pub push_reserved-requires : goal.push_reserved-requires
push_reserved-requires c =
    let space = kept_space c.loop-i.invariant.upto c.loop-i-test.true c.if-clock-until.true in
    omega (arith, space, c.requires.space, c.loop-i.invariant.capacity)

pub loop-i-preserved : goal.loop-i-preserved
loop-i-preserved c =
    elim c.if-clock-until.branch [
      | then-clock-until w ↦ (
          let space = kept_space c.loop-i.invariant.upto c.loop-i-test.true w.if-clock-until.true in
          let within : c.args.start + length c.loop-i.kept.items < length c.loop-i.tree = omega (arith, space, c.requires.row, c.loop-i.auto.tree) in
          let len : w.len.result ≡ length c.loop-i.kept.items = omega (arith, w.len.ensures) in
          record {
            upto = kept_one c.loop-i.invariant.upto _ c.requires.rising c.loop-i-test.true w.if-clock-until.true within len
                (ap (λ (v : Vec ℕ Global). v.items) w.kept-is ∙ w.push_reserved.ensures.items) w.tree-is;
            capacity = ap (λ (v : Vec ℕ Global). vec_capacity v) w.kept-is ∙ w.push_reserved.ensures.capacity ∙ c.loop-i.invariant.capacity;
          })
      | else-clock-until w ↦ record {
        upto = kept_none c.loop-i.invariant.upto c.loop-i-test.true w.if-clock-until.false (ap (λ (v : Vec ℕ Global). v.items) w.kept-is) w.tree-is;
        capacity = ap (λ (v : Vec ℕ Global). vec_capacity v) w.kept-is ∙ c.loop-i.invariant.capacity;
      }
    ]

pub returns-clause-copies : goal.returns-clause-copies
returns-clause-copies c = kept_last c.loop-i.invariant.upto (omega arith)

pub returns-clause-count : goal.returns-clause-count
returns-clause-count c =
    let count = c.loop-i.invariant.upto.count in
    let all = kept_count c.loop-i.invariant.upto (let past : length c.args.commits.now ≤ c.loop-i.i = omega arith in past) in
    omega (arith, count, all)
