use Rattle.std.proofs.Common.{sym, ◌∙◌, ◌||◌, ap}
use Rattle.http_message.specs.Fields.{has_option}
use Rattle.http_message.proofs.OptionLemmas.{option_first, option_only}
use Rattle.http_message.proofs.options.has_option.Goals as goal

pub returns-then-is_option : goal.returns-then-is_option
returns-then-is_option c =
    let option = c.args.option.now in
    sym (sym c.loop-member.invariant
    ∙ option_first option c.loop-member.rest.now c.in-Some.member.now c.in-Some.others.now c.in-Some.ensures.parts
    ∙ ap (λ b. b || has_option option c.in-Some.others.now) (sym c.is_option.ensures ∙ c.if-is_option.true))

pub loop-member-preserved : goal.loop-member-preserved
loop-member-preserved c =
    let option = c.args.option.now in
    sym (option_first option c.loop-member.rest.now c.in-Some.member.now c.in-Some.others.now c.in-Some.ensures.parts
    ∙ ap (λ b. b || has_option option c.in-Some.others.now) (sym c.is_option.ensures ∙ c.if-is_option.false))
    ∙ c.loop-member.invariant

pub loop-member-smaller : goal.loop-member-smaller
loop-member-smaller c = c.in-Some.ensures.less

pub returns : goal.returns
returns c =
    c.is_option-2.ensures ∙ sym (option_only c.args.option.now c.loop-member.rest.now c.in_default.ensures.none)
    ∙ c.loop-member.invariant
