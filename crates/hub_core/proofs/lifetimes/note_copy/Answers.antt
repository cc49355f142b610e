-- the copy is noted, or the entry dropped
use Rattle.std.proofs.Common.{◌≡◌, ◌&&◌, Bool, true, false, Some, is_some, nat_lt, if◌then◌else◌, refl, sym, ap, ◌∙◌, inl, inr, arith}
use Rattle.std.proofs.lemmas.Bool.{cases_Bool, lt-ltb, le-ltb}
use Rattle.query_normal.specs.Keys.{same_key}
use Rattle.query_normal.specs.SameKey.{same_key-Decides}
use Rattle.ttl_estimator.specs.Estimates.{after_issue, is_known, kept_of}
use Rattle.hub_core.proofs.NoteLemmas.{and-false-right, and-true-right}
use Rattle.hub_core.proofs.lifetimes.note_copy.Goals as goal

pub returns-then-ttl-eq0-clause-kept : goal.returns-then-ttl-eq0-clause-kept
returns-then-ttl-eq0-clause-kept c = λ other.
    let none : nat_lt 0 c.args.ttl ≡ false = le-ltb 0 c.args.ttl (omega (arith, c.if-ttl-eq0.true)) in
    c.forget.ensures.kept other ∙ sym (ap (λ (b : Bool). if b then Some (after_issue c.args.ttl c.args.clock (kept_of c.args.estimator.now.keys c.args.key.now)) else kept_of c.args.estimator.now.keys other) (ap (λ (b : Bool). same_key c.args.key.now other && b) none ∙ and-false-right (same_key c.args.key.now other)))

pub returns-then-ttl-eq0-clause-known : goal.returns-then-ttl-eq0-clause-known
returns-then-ttl-eq0-clause-known c = λ other.
    c.forget.ensures.known other ∙ ap (λ (b : Bool). if same_key c.args.key.now other then b else is_known c.args.estimator.now.keys other) (sym (ap is_some (c.forget.ensures.kept c.args.key.now)))

pub returns-clause-kept : goal.returns-clause-kept
returns-clause-kept c = λ other.
    let some : nat_lt 0 c.args.ttl ≡ true = lt-ltb 0 c.args.ttl (omega (arith, c.if-ttl-eq0.false)) in
    c.note_issue.ensures.kept other ∙ sym (ap (λ (b : Bool). if b then Some (after_issue c.args.ttl c.args.clock (kept_of c.args.estimator.now.keys c.args.key.now)) else kept_of c.args.estimator.now.keys other) (ap (λ (b : Bool). same_key c.args.key.now other && b) some ∙ and-true-right (same_key c.args.key.now other)))

pub returns-clause-known : goal.returns-clause-known
returns-clause-known c = λ other.
    c.note_issue.ensures.known other
    ∙ elim (cases_Bool (same_key c.args.key.now other)) [
      | inl own ↦ (
          let e : c.args.key.now ≡ other = (same_key-Decides c.args.key.now other).0 own in
          let there : is_known c.args.estimator.now.keys other ≡ true = ap (is_known c.args.estimator.now.keys) (sym e) ∙ c.requires in
          let kept : is_some (kept_of c.note_issue.new.self.keys c.args.key.now) ≡ true =
          ap is_some (c.note_issue.ensures.kept c.args.key.now ∙ ap (λ (b : Bool). if b then Some (after_issue c.args.ttl c.args.clock (kept_of c.args.estimator.now.keys c.args.key.now)) else kept_of c.args.estimator.now.keys c.args.key.now) ((same_key-Decides c.args.key.now c.args.key.now).1 refl)) in
          there ∙ sym (rw (own) kept))
      | inr apart ↦ rw (apart) refl
    ]
