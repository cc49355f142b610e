-- the file has a keeper, or it is refused
use Rattle.std.proofs.Common.{refl, sym, ◌∙◌, inl, inr}
use Rattle.command_line.proofs.WordLemmas.{is_data}
use Rattle.quaestor_prog.proofs.serving.serve_at.Goals as goal

pub returns-in-Ok : goal.returns-in-Ok
returns-in-Ok g c = inr (c.in-Ok.keeper, c.keeper.new.self, rw c.longest_of.ensures at c.in-Ok.ensures.opens, c.in-Ok.ensures.count, (λ fails. sym (is_data c.args.options.store) ∙ c.in-Ok.ensures.keeps fails), c.serve_kept.ensures)

pub returns-in-Err : goal.returns-in-Err
returns-in-Err g c = inl (refl, c.end.ensures.keeps, c.end.ensures.ends, c.in-Err.ensures.count.0, c.in-Err.ensures.count.1, c.in-Err.ensures.count.2)
