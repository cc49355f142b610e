-- what is kept stays so, turn by turn
use Rattle.std.proofs.Common.{List, ◌&&◌, not, ap, rules}
use Rattle.std.specs.List.{list_any}
use Rattle.query_normal.specs.declared.key.KeyShape.{KeyShape}
use Rattle.query_normal.specs.Keys.{same_key}
use Rattle.hub_core.specs.CopiesView.{is_idle}
use Rattle.hub_core.proofs.LifeLemmas.{all-dropped, drops-none, more-dropped, no-change}
use Rattle.hub_core.proofs.passing.drop_idle.Goals as goal

pub loop-init : goal.loop-init
loop-init c = record {
  kept = λ journal front keeps. keeps;
  dropped = drops-none (λ key. is_idle c.args.copies.now key && not (is_idle c.args.copies.now key)) c.args.life.now (λ key. no-change (is_idle c.args.copies.now key));
  idle = λ key there. there;
  rest = search rules;
}

pub loop-preserved : goal.loop-preserved
loop-preserved c = record {
  kept = λ journal front keeps. c.drop_one_idle.ensures.kept journal front (c.loop.invariant.kept journal front keeps);
  dropped = more-dropped (is_idle c.args.copies.now) (is_idle c.loop.copies) (is_idle c.drop_one_idle.new.copies) c.args.life.now c.loop.life c.drop_one_idle.new.life c.loop.invariant.idle c.drop_one_idle.ensures.idle c.loop.invariant.dropped c.drop_one_idle.ensures.dropped;
  idle = λ key there. c.loop.invariant.idle key (c.drop_one_idle.ensures.idle key there);
  rest = search rules;
}

pub returns-clause-kept : goal.returns-clause-kept
returns-clause-kept c = λ journal front keeps. c.drop_one_idle.ensures.kept journal front (c.loop.invariant.kept journal front keeps)

pub returns-clause-dropped : goal.returns-clause-dropped
returns-clause-dropped c =
    all-dropped (is_idle c.args.copies.now) (is_idle c.drop_one_idle.new.copies) c.args.life.now c.drop_one_idle.new.life
    (λ key. ap (λ (xs : List KeyShape). list_any (same_key key) xs) (c.drop_one_idle.ensures.none c.loop-test.false))
    (more-dropped (is_idle c.args.copies.now) (is_idle c.loop.copies) (is_idle c.drop_one_idle.new.copies) c.args.life.now c.loop.life c.drop_one_idle.new.life c.loop.invariant.idle c.drop_one_idle.ensures.idle c.loop.invariant.dropped c.drop_one_idle.ensures.dropped)
