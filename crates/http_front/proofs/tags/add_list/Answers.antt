use Rattle.std.proofs.Common.{ap}
use Rattle.std.proofs.lemmas.Result.{err_from_is_err_and}
use Rattle.std.specs.Option.{option_copied}
use Rattle.std.specs.Prelude.{Ok, Err}
use Rattle.http_front.proofs.TagLemmas.{adds_few, adds_last, adds_next, fails_list}
use Rattle.http_front.proofs.tags.add_list.Goals as goal

pub returns-in_err-add_member : goal.returns-in_err-add_member
returns-in_err-add_member c =
    let p = err_from_is_err_and c.from_residual.result c.from_residual.ensures.1 in
    rw (p.1, p.2)
    (c.loop-others.invariant.rest c.add_member.new.commits (Err c.in_err-add_member.field-0.0)
    (fails_list c.args.comparison c.loop-others.rest.now c.cut_member.result.0.now c.trim.result.now
    (option_copied c.cut_member.result.1) c.loop-others.commits c.add_member.new.commits c.in_err-add_member.field-0.0
    c.cut_member.ensures.pieces c.trim.ensures c.in_err-add_member.ensures))

pub returns-in_default : goal.returns-in_default
returns-in_default c =
    c.loop-others.invariant.rest c.add_member.new.commits (Ok tt)
    (adds_last c.args.comparison c.loop-others.rest.now c.cut_member.result.0.now c.trim.result.now
    (option_copied c.cut_member.result.1) c.loop-others.commits c.add_member.new.commits
    c.cut_member.ensures.pieces (ap option_copied c.in_default.is) c.trim.ensures c.in_ok-add_member.ensures)

pub loop-others-preserved : goal.loop-others-preserved
loop-others-preserved c = record {
  few = adds_few c.args.comparison _ c.loop-others.commits c.add_member.new.commits c.in_ok-add_member.ensures;
  rest = λ new result more. c.loop-others.invariant.rest new result
      (adds_next c.args.comparison c.loop-others.rest.now c.cut_member.result.0.now c.trim.result.now c.in-Some.others.now
      (option_copied c.cut_member.result.1) c.loop-others.commits c.add_member.new.commits new result
      c.cut_member.ensures.pieces (ap option_copied c.in-Some.is) c.trim.ensures c.in_ok-add_member.ensures more);
}
