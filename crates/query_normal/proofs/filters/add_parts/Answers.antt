use Rattle.std.proofs.Common.{◌≡◌, ◌++◌, sym, subst, rules}
use Rattle.query_normal.specs.Normal.{parts_of}
use Rattle.query_normal.proofs.NormalMeaning.{operand_list-of}
use Rattle.query_normal.proofs.filters.add_parts.Goals as goal

-- the operands of an `and` are those of its list
pub returns-then-is_and : goal.returns-then-is_and
returns-then-is_and c =
    let same : parts_of c.args.is_and c.args.filter ≡ c.in-And.operands.items = rw (c.if-is_and.true, ← c.filter.view_is, c.in-And.is) (operand_list-of c.in-And.operands.items) in
    subst (λ l. c.add_all.new.parts.items ≡ c.args.parts.now.items ++ l) (sym same) (search rules)

-- the operands of an `or` are those of its list
pub returns-then-not-is_and : goal.returns-then-not-is_and
returns-then-not-is_and c =
    let same : parts_of c.args.is_and c.args.filter ≡ c.in-Or.operands.items = rw (c.if-not-is_and.true, ← c.filter.view_is, c.in-Or.is) (operand_list-of c.in-Or.operands.items) in
    subst (λ l. c.add_all-then-not-is_and.new.parts.items ≡ c.args.parts.now.items ++ l) (sym same) (search rules)
