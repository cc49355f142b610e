use Rattle.std.proofs.Common.{◌≡◌, ◌≤◌, ◌+◌, List, length, map, drop, get_or, sym, ◌∙◌, ap, arith}
use Rattle.std.proofs.lemmas.List.{drop_more, drop_all}
use Rattle.httparse.specs.Spans.{header_bytes}
use Rattle.httparse.specs.declared.spans.HeaderSpan.{HeaderSpan}
use Rattle.client_wire.specs.ReplyFields.{directives}
use Rattle.client_wire.specs.Values.{no_directives, with_all, with_field}
use Rattle.client_wire.specs.declared.lifetime.Directives.{Directives}
use Rattle.client_wire.proofs.PieceLemmas.{field_read, no_field, lifetime_none, lifetime_some}
use Rattle.client_wire.proofs.lifetime.lifetime_in.Goals as goal

-- the directives of the next field, and those behind it
pub loop-field-preserved : goal.loop-field-preserved
loop-field-preserved c =
    let text = c.args.text.now in
    let fields = c.args.fields.now in
    let i = c.loop-field.field-index in
    let none : HeaderSpan = record { name = record { start = 0; end = 0 }; value = record { start = 0; end = 0 } } in
    let field = get_or fields i none in
    let step : with_all c.loop-field.found (directives (map (header_bytes text) (drop i fields)))
    ≡ with_all (with_field c.loop-field.found (header_bytes text field)) (directives (map (header_bytes text) (drop (i + 1) fields))) =
    ap (λ (xs : List HeaderSpan). with_all c.loop-field.found (directives (map (header_bytes text) xs)))
    (drop_more fields i none c.loop-field-test.true)
    ∙ field_read c.loop-field.found (header_bytes text field) (map (header_bytes text) (drop (i + 1) fields)) in
    ap (λ (f : Directives). with_all f (directives (map (header_bytes text) (drop (i + 1) fields)))) c.with_field-found.ensures
    ∙ sym step ∙ c.loop-field.invariant

pub returns-then-found : goal.returns-then-found
returns-then-found c =
    let text = c.args.text.now in
    let fields = c.args.fields.now in
    let past : length fields ≤ c.loop-field.field-index = omega arith in
    let read : with_all no_directives (directives (map (header_bytes text) fields)) ≡ c.loop-field.found =
    sym c.loop-field.invariant
    ∙ ap (λ (xs : List HeaderSpan). with_all c.loop-field.found (directives (map (header_bytes text) xs))) (drop_all c.loop-field.field-index fields past)
    ∙ no_field c.loop-field.found in
    sym (lifetime_none c.loop-field.found (directives (map (header_bytes text) fields)) read c.if-found.true)

pub returns : goal.returns
returns c =
    let text = c.args.text.now in
    let fields = c.args.fields.now in
    let past : length fields ≤ c.loop-field.field-index = omega arith in
    let read : with_all no_directives (directives (map (header_bytes text) fields)) ≡ c.loop-field.found =
    sym c.loop-field.invariant
    ∙ ap (λ (xs : List HeaderSpan). with_all c.loop-field.found (directives (map (header_bytes text) xs))) (drop_all c.loop-field.field-index fields past)
    ∙ no_field c.loop-field.found in
    sym (lifetime_some c.loop-field.found (directives (map (header_bytes text) fields)) read c.if-found.false)
