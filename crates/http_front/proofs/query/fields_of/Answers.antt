use Rattle.std.proofs.Common.{sym, ◌∙◌, ap, ap₂}
use Rattle.std.specs.Option.{option_copied}
use Rattle.std.specs.Prelude.{Some}
use Rattle.http_front.specs.Query.{decoded, field_named, fields_of, is_among, pieces_of, valued}
use Rattle.http_front.specs.Target.{after, ahead_of}
use Rattle.http_front.proofs.CutLemmas.{parted}
use Rattle.http_front.proofs.QueryLemmas.{behind_fields, fields_bad, fields_last, fields_repeated, fields_next}
use Rattle.http_front.proofs.query.fields_of.Goals as goal

pub returns-in_default : goal.returns-in_default
returns-in_default c =
    let route = c.args.route in
    let prefix = c.loop-values.values.items in
    let rest = c.loop-values.rest.now in
    let name = c.cut_in_two.ensures.ahead ∙ ap (λ p. ahead_of 61 p) c.cut_at.ensures.ahead in
    let value = c.cut_in_two.ensures.after ∙ ap (λ p. after 61 p) c.cut_at.ensures.ahead in
    let field = c.in_ok-value.ensures ∙ ap₂ (λ n v. valued (field_named route n) (decoded v)) name value in
    sym (fields_bad route prefix rest (sym field ∙ c.in_default.is)) ∙ c.loop-values.invariant

pub returns-in_default-behind : goal.returns-in_default-behind
returns-in_default-behind c =
    let route = c.args.route in
    let prefix = c.loop-values.values.items in
    let rest = c.loop-values.rest.now in
    let name = c.cut_in_two.ensures.ahead ∙ ap (λ p. ahead_of 61 p) c.cut_at.ensures.ahead in
    let value = c.cut_in_two.ensures.after ∙ ap (λ p. after 61 p) c.cut_at.ensures.ahead in
    let field = c.in_ok-value.ensures ∙ ap₂ (λ n v. valued (field_named route n) (decoded v)) name value in
    let last = sym c.cut_at.ensures.behind ∙ ap option_copied c.in_default-behind.is in
    ap (λ l. Some l) c.in_ok-push.ensures.items
    ∙ sym (fields_last route prefix rest c.in-Some.value last (sym field ∙ c.in-Some.is)) ∙ c.loop-values.invariant

pub returns-then-is_among : goal.returns-then-is_among
returns-then-is_among c =
    let route = c.args.route in
    let prefix = c.loop-values.values.items in
    let rest = c.loop-values.rest.now in
    let name = c.cut_in_two.ensures.ahead ∙ ap (λ p. ahead_of 61 p) c.cut_at.ensures.ahead in
    let others = c.in-Some-behind.others.now in
    let next = sym c.cut_at.ensures.behind ∙ ap option_copied c.in-Some-behind.is in
    let again = sym (c.is_among.ensures ∙ ap (λ n. is_among n (pieces_of others)) name) ∙ c.if-is_among.true in
    sym (fields_repeated route prefix rest others next again) ∙ c.loop-values.invariant

pub loop-values-preserved : goal.loop-values-preserved
loop-values-preserved c =
    let route = c.args.route in
    let prefix = c.loop-values.values.items in
    let rest = c.loop-values.rest.now in
    let name = c.cut_in_two.ensures.ahead ∙ ap (λ p. ahead_of 61 p) c.cut_at.ensures.ahead in
    let value = c.cut_in_two.ensures.after ∙ ap (λ p. after 61 p) c.cut_at.ensures.ahead in
    let field = c.in_ok-value.ensures ∙ ap₂ (λ n v. valued (field_named route n) (decoded v)) name value in
    let others = c.in-Some-behind.others.now in
    let next = sym c.cut_at.ensures.behind ∙ ap option_copied c.in-Some-behind.is in
    let once = sym (c.is_among.ensures ∙ ap (λ n. is_among n (pieces_of others)) name) ∙ c.if-is_among.false in
    ap (λ l. behind_fields l (fields_of route (pieces_of others))) c.in_ok-push.ensures.items
    ∙ sym (fields_next route prefix rest others c.in-Some.value next (sym field ∙ c.in-Some.is) once)
    ∙ c.loop-values.invariant

pub loop-values-smaller : goal.loop-values-smaller
loop-values-smaller c =
    let next = sym c.cut_at.ensures.behind ∙ ap option_copied c.in-Some-behind.is in
    (parted 38 c.loop-values.rest.now c.in-Some-behind.others.now next).less
