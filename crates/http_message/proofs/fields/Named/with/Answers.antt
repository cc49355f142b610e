use Rattle.http_message.proofs.FieldLemmas.{named_second, named_more}
use Rattle.http_message.proofs.fields.Named.with.Goals as goal

pub returns-in-Once : goal.returns-in-Once
returns-in-Once c = λ found is.
    named_second found c.in-Once.field-0.now c.args.value.now (rw c.in-Once.is at is)

pub returns-in-Repeated : goal.returns-in-Repeated
returns-in-Repeated c = λ found is. named_more found c.args.value.now (rw c.in-Repeated.is at is)
