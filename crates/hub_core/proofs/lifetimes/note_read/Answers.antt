-- what is kept of the key is that of a read
use Rattle.std.proofs.Common.{◌≡◌, ◌&&◌, Bool, true, Some, is_some, nat_lt, if◌then◌else◌, sym, ap, ◌∙◌}
use Rattle.query_normal.specs.Keys.{same_key}
use Rattle.ttl_estimator.specs.Estimates.{after_issue, is_known, kept_of}
use Rattle.hub_core.specs.ActiveQueries.{is_query}
use Rattle.hub_core.specs.Lifetimes.{kept_while}
use Rattle.hub_core.proofs.NoteLemmas.{and-true-right, noted-read}
use Rattle.hub_core.proofs.lifetimes.note_read.Goals as goal

-- the key is that of a query
query : (c : goal.After-note_copy) → is_query c.args.key.now ≡ true
query c = ap is_query (sym c.shape.ensures ∙ c.in-Query.is)

pub returns-in-Query-clause-kept : goal.returns-in-Query-clause-kept
returns-in-Query-clause-kept c = λ other.
    noted-read (kept_of c.args.estimator.now.keys) (kept_of c.keep_while.new.estimator.keys) (kept_of c.note_copy.new.estimator.keys) c.args.key.now c.args.ttl c.args.clock (kept_while c.args.active) c.keep_while.ensures.kept c.note_copy.ensures.kept other
    ∙ ap (λ (b : Bool). if b then (if nat_lt 0 c.args.ttl then Some (after_issue c.args.ttl c.args.clock (kept_while c.args.active (kept_of c.args.estimator.now.keys c.args.key.now))) else kept_while c.args.active (kept_of c.args.estimator.now.keys c.args.key.now)) else kept_of c.args.estimator.now.keys other) (sym (ap (λ (b : Bool). same_key c.args.key.now other && b) (query c) ∙ and-true-right (same_key c.args.key.now other)))

pub returns-in-Query-clause-known : goal.returns-in-Query-clause-known
returns-in-Query-clause-known c = λ other.
    c.note_copy.ensures.known other
    ∙ ap (λ (b : Bool). if same_key c.args.key.now other then is_some (kept_of c.note_copy.new.estimator.keys c.args.key.now) else b) (c.keep_while.ensures.known other)
    ∙ ap (λ (b : Bool). if b then is_some (kept_of c.note_copy.new.estimator.keys c.args.key.now) else is_known c.args.estimator.now.keys other) (sym (ap (λ (b : Bool). same_key c.args.key.now other && b) (query c) ∙ and-true-right (same_key c.args.key.now other)))
