-- A field's letter is the character of its byte.
use Rattle.query_lang.proofs.refusal.QueryRefusalDisplay.fmt.Goals as goal

pub returns-in-Syntax-clause-writes : goal.returns-in-Syntax-clause-writes
returns-in-Syntax-clause-writes g c plain ok = rw (c.in-Syntax.is, ← c.from-field.ensures) (c.write.ensures.writes plain ok)

pub returns-in-BadNumber-clause-writes : goal.returns-in-BadNumber-clause-writes
returns-in-BadNumber-clause-writes g c plain ok = rw (c.in-BadNumber.is, ← c.from-field-in-BadNumber.ensures) (c.write-in-BadNumber.ensures.writes plain ok)
