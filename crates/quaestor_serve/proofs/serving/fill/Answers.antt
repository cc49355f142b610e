-- the seat at which the store was filled was joined to the main one
use Rattle.std.proofs.Common.{refl, ap, ◌∙◌}
use Rattle.kept_desk.proofs.FillLemmas.{all_filling}
use Rattle.quaestor_serve.proofs.FilledLemmas.{met_whole, all_written, none_numbered}
use Rattle.turnstile.specs.Seats.{HasOut, seen, mine}
use Rattle.quaestor_serve.proofs.serving.fill.Goals as goal

pub returns-clause-filled : goal.returns-clause-filled
returns-clause-filled g c =
    let parted = c.split-seat.new.seat in
    let other = c.fill_at-seat.result.0 in
    let main = c.join.new.into in
    let at = c.fill_at-seat.ensures.filled in
    let out : HasOut 0 main = c.join.ensures.out 0 (c.split-seat.ensures.out 0 c.requires.alone).0 at.part in
    let whole = met_whole c.args.hall.now.seat parted other main c.args.hall.now.seated.2 c.requires.empty (ap (λ m. m.0.mine) c.split-seat.ensures.view) (ap (λ m. m.0.met) c.split-seat.ensures.view) at.met at.rises c.join.ensures.view
    out c.join.ensures.alone c.join.ensures.whole c.join.ensures.sound in
    record {
      turnstile = refl;
      places = refl;
      running = refl;
      met = whole.0 ∙ whole.1;
      filling = all_filling (seen main) (mine other) whole.1 at.filling;
      out = out;
    }

pub returns-clause-written : goal.returns-clause-written
returns-clause-written g c =
    let parted = c.split-seat.new.seat in
    let other = c.fill_at-seat.result.0 in
    let main = c.join.new.into in
    let at = c.fill_at-seat.ensures.filled in
    let out : HasOut 0 main = c.join.ensures.out 0 (c.split-seat.ensures.out 0 c.requires.alone).0 at.part in
    let whole = met_whole c.args.hall.now.seat parted other main c.args.hall.now.seated.2 c.requires.empty (ap (λ m. m.0.mine) c.split-seat.ensures.view) (ap (λ m. m.0.met) c.split-seat.ensures.view) at.met at.rises c.join.ensures.view
    out c.join.ensures.alone c.join.ensures.whole c.join.ensures.sound in
    all_written c.fill_at-seat.result.1 (g.Q.Keeper.kept c.args.keeper.now) (seen main) (mine other) whole.1 c.fill_at-seat.ensures.written

pub returns-clause-none : goal.returns-clause-none
returns-clause-none g c = λ never.
    let parted = c.split-seat.new.seat in
    let other = c.fill_at-seat.result.0 in
    let main = c.join.new.into in
    let at = c.fill_at-seat.ensures.filled in
    let out : HasOut 0 main = c.join.ensures.out 0 (c.split-seat.ensures.out 0 c.requires.alone).0 at.part in
    let whole = met_whole c.args.hall.now.seat parted other main c.args.hall.now.seated.2 c.requires.empty (ap (λ m. m.0.mine) c.split-seat.ensures.view) (ap (λ m. m.0.met) c.split-seat.ensures.view) at.met at.rises c.join.ensures.view
    out c.join.ensures.alone c.join.ensures.whole c.join.ensures.sound in
    none_numbered (seen main) (mine other) whole.1 (c.fill_at-seat.ensures.none never)
