-- the desk was new, was filled with what was kept, and its configuration is the given one
use Rattle.std.proofs.Common.{refl, sym, ap, ◌∙◌, subst}
use Rattle.std.specs.List.{enumerate_from}
use Rattle.hub_model.specs.Setting.{Setting}
use Rattle.kept_desk.specs.Filling.{Fills}
use Rattle.quaestor_prog.specs.Run.{HasWritten}
use Rattle.quaestor_prog.proofs.RunLemmas.{kept_by_hand, piped, piped_kept, not_begun, not_begun_kept}
use Rattle.quaestor_serve.specs.Served.{KeptBy}
use Rattle.quaestor_prog.proofs.program.pipe.Goals as goal

pub returns-in-Ok-begin-clause-run : goal.returns-in-Ok-begin-clause-run
returns-in-Ok-begin-clause-run g c = λ never.
    piped _ _ _ _ c.serve_connection-served.new.desk.desk.entries _ _ _ _ _ _ _ _ (ap (λ d. d.setting) c.new-kept.ensures.desk ∙ c.begin.ensures.setting ∙ c.in-Ok-new.ensures.setting) (ap (λ d. d.entries) c.new-kept.ensures.desk ∙ c.begin.ensures.none never ∙ c.in-Ok-new.ensures.empty) c.end.ensures.keeps c.end.ensures.ends
    c.serve_connection-served.ensures.legal c.serve_connection-served.ensures.conversation c.of.ensures

pub returns-in-Ok-begin-clause-kept : goal.returns-in-Ok-begin-clause-kept
returns-in-Ok-begin-clause-kept g c =
    let none = c.in-Ok-new.desk.entries in
    let filled = c.begin.new.desk.entries in
    let same = sym c.new-kept.ensures.desk in
    let fills = subst (λ (s : Setting). Fills s none filled (enumerate_from 0 none) (enumerate_from 0 filled)) (sym c.begin.ensures.setting) c.begin.ensures.fills in
    piped_kept _ (g.Q.Keeper.opens c.args.keeper.now) g.Q.Hand.Keeping.log g.Q.Hand.Keeping.keeps c.in-Ok-begin.hand (g.Q.Keeper.kept c.args.keeper.now) _ _ none c.new-kept.result.desk.entries c.serve_connection-served.new.desk.desk.entries _ _ _ _ _ _ _ _ c.in-Ok-begin.ensures.opened
    (λ n stood. subst (λ h. KeptBy g.Q.Hand.Keeping.log g.Q.Hand.Keeping.keeps h n) c.new-kept.ensures.hand (kept_by_hand (λ d. d.hand) _ _ _ _ g.Q.Hand.Keeping.log g.Q.Hand.Keeping.keeps _ _ c.new-kept.result.hand (λ d. refl) (λ d all. all.0) n stood))
    (ap (λ d. d.setting) c.new-kept.ensures.desk ∙ c.begin.ensures.setting ∙ c.in-Ok-new.ensures.setting) c.in-Ok-new.ensures.empty
    (subst (λ d. Fills d.setting none d.entries (enumerate_from 0 none) (enumerate_from 0 d.entries)) same fills)
    (subst (λ d. HasWritten (g.Q.Keeper.kept c.args.keeper.now) (enumerate_from 0 none) (enumerate_from 0 d.entries)) same c.in-Ok-begin.ensures.written)
    c.end.ensures.keeps c.end.ensures.ends c.serve_connection-served.ensures.legal c.serve_connection-served.ensures.conversation c.of.ensures

pub returns-clause-run : goal.returns-clause-run
returns-clause-run g c = λ never. not_begun _ _ _ _ _ _ _ never c.in-Err-begin.ensures.unfilled c.end-in-Err-begin.ensures.keeps refl

pub returns-clause-kept : goal.returns-clause-kept
returns-clause-kept g c = not_begun_kept (g.Q.Keeper.opens c.args.keeper.now) g.Q.Hand.Keeping.log g.Q.Hand.Keeping.keeps (g.Q.Keeper.kept c.args.keeper.now) _ _ _ _ _ _ _ c.in-Err-begin.ensures.unfilled c.end-in-Err-begin.ensures.keeps c.end-in-Err-begin.ensures.ends refl
