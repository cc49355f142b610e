use Rattle.std.proofs.Common.{◌≤◌, ◌+◌, length, take, drop, ap, arith}
use Rattle.std.proofs.lemmas.List.{take_all}
use Rattle.std.proofs.lemmas.Result.{err_from_is_err_and}
use Rattle.std.specs.Prelude.{Ok}
use Rattle.http_message.specs.Fields.{values}
use Rattle.http_front.proofs.FieldLemmas.{values_parts}
use Rattle.http_front.proofs.TagLemmas.{adds_few, adds_none, adds_same, adds_value, fails_values, adds_all}
use Rattle.http_front.proofs.tags.commits_in.Goals.{in-Some+in_ok-add_list, in_default}
use Rattle.http_front.proofs.tags.commits_in.Goals as goal

pub loop-index-init : goal.loop-index-init
loop-index-init c = record {
  few = omega (arith, ap length c.new-commits.ensures);
  added = adds_none c.args.comparison c.args.name.now c.new-commits.result c.new-commits.ensures;
}

pub returns-in_err-add_list : goal.returns-in_err-add_list
returns-in_err-add_list c =
    let p = err_from_is_err_and c.from_residual.result c.from_residual.ensures.1 in
    let fields = c.args.request.now.fields in
    let name = c.args.name.now in
    let i = c.loop-index.index in
    rw (p.1, p.2)
    (fails_values c.args.comparison (values name (take i fields)) (values name (take (i + 1) fields)) (values name fields)
    (values name (drop (i + 1) fields)) c.in-Some.value.now c.loop-index.commits c.add_list.new.commits
    c.in_err-add_list.field-0.0 c.in-Some.ensures (values_parts name fields (i + 1)) c.loop-index.invariant.added
    c.in_err-add_list.ensures)

pub loop-index-preserved : goal.loop-index-preserved
loop-index-preserved c =
    let fields = c.args.request.now.fields in
    let name = c.args.name.now in
    let i = c.loop-index.index in
    elim c.match-value_at.branch [
      | in-Some+in_ok-add_list w ↦ rw w.commits-is (record {
        few = adds_few c.args.comparison _ c.loop-index.commits w.add_list.new.commits w.in_ok-add_list.ensures;
        added =
            adds_value c.args.comparison (values name (take i fields)) (values name (take (i + 1) fields)) w.in-Some.value.now
            c.loop-index.commits w.add_list.new.commits (Ok tt) w.in-Some.ensures c.loop-index.invariant.added
            w.in_ok-add_list.ensures;
      })
      | in_default w ↦ rw w.commits-is (record {
        few = c.loop-index.invariant.few;
        added =
            adds_same c.args.comparison (values name (take i fields)) (values name (take (i + 1) fields)) c.loop-index.commits
            w.in_default.ensures c.loop-index.invariant.added;
      })
    ]

pub returns : goal.returns
returns c =
    let fields = c.args.request.now.fields in
    let past : length fields ≤ c.loop-index.index = omega arith in
    adds_all c.args.comparison (values c.args.name.now (take c.loop-index.index fields)) (values c.args.name.now fields)
    c.loop-index.commits (ap (values c.args.name.now) (take_all c.loop-index.index fields past)) c.loop-index.invariant.added
