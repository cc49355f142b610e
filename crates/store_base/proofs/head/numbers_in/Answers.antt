-- the numbers in turn
use Rattle.std.proofs.Common.{◌≤◌, ◌-◌, length, drop, sym, ◌∙◌, arith, length-drop}
use Rattle.std.proofs.lemmas.List.{take_all}
use Rattle.store_base.specs.Texts.{mark}
use Rattle.store_base.proofs.FieldLemmas.{four_numbers}
use Rattle.store_base.proofs.head.numbers_in.Goals as goal

pub returns-clause-numbers : goal.returns-clause-numbers
returns-clause-numbers c =
    let all : length (drop 4 c.args.bytes.now) ≤ length c.args.bytes.now - 4 = omega (arith, length-drop 4 c.args.bytes.now) in (
      c.in_ok-moment.field-0-1.now,
      four_numbers c.args.bytes.now c.in_ok-size.rest.now c.in_ok-horizon.rest.now c.in_ok-clock.rest.now c.in_ok-moment.field-0-1.now mark c.in_ok-size.size c.in_ok-horizon.horizon c.in_ok-clock.clock c.in_ok-moment.moment
          c.requires (sym (take_all (length c.args.bytes.now - 4) (drop 4 c.args.bytes.now) all) ∙ c.in_ok-size.ensures.number) c.in_ok-horizon.ensures.number c.in_ok-clock.ensures.number c.in_ok-moment.ensures.number,
    )
