-- the numbers and the tail were read
use Rattle.std.proofs.Common.{Option, Ok, subst}
use Rattle.store_base.specs.declared.head.HeadStart.{HeadStart}
use Rattle.store_base.specs.Heads.{FindsNumbers}
use Rattle.store_base.proofs.HeadReading.{head_no_count}
use Rattle.store_base.proofs.head.read_head.Goals as goal

pub returns-in-Err-read_count-clause-found : goal.returns-in-Err-read_count-clause-found
returns-in-Err-read_count-clause-found g c = λ rest s.
    let P : Option HeadStart → Type 0 = λ o. FindsNumbers c.args.window.now.place rest c.read_numbers.new.window (Ok o) in
    head_no_count c.args.window.now.place rest c.read_numbers.new.window c.read_tail.new.window c.read_count.new.window c.in-Ok-Some.start c.in-Ok.tail c.in-Err-read_count.refusal
    (subst P c.in-Ok-Some.field-0-is (c.in-Ok-Some.ensures.found rest s)) c.in-Ok.ensures.found c.in-Err-read_count.ensures.found
