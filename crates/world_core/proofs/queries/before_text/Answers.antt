-- by the query's ten
use Rattle.std.proofs.Common.{◌/◌, ◌%◌, refl, arith, rules}
use Rattle.world_core.proofs.QueryLemmas.{before_rest}
use Rattle.world_core.proofs.queries.before_text.Goals as goal

pub returns-in-0 : goal.returns-in-0
returns-in-0 c = rw c.in-0.is refl

pub returns-in-1 : goal.returns-in-1
returns-in-1 c = rw c.in-1.is refl

pub returns-in-2 : goal.returns-in-2
returns-in-2 c = rw c.in-2.is refl

pub returns-in_default : goal.returns-in_default
returns-in_default c = before_rest (c.args.query / 10) (λ e. omega arith) (λ e. omega arith) (λ e. omega arith)
