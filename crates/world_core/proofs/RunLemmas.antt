-- Runs go on step by step, and what was fetched stays fetched.
use Rattle.std.proofs.Common.{◌≡◌, ℕ, ◌+◌, suc, ◌<◌, List, take, get_or, [], ◌∷◌, ◌++◌, length, Option, Some, None, refl, sym, ap, ◌∙◌, subst, append-nil, append_assoc, arith}
use Rattle.std.proofs.lemmas.List.{length-take, take_more}
use Rattle.query_normal.specs.Pages.{Page}
use Rattle.hub_model.specs.declared.entry.Entry.{Entry}
use Rattle.hub_model.specs.declared.entry.Entry.TheVariants.{Fetch}
use Rattle.hub_model.specs.Desk.{IsPrefix}
use Rattle.hub_model.specs.Setting.{Setting}
use Rattle.client_model.specs.Issued.{IsFetched}
use Rattle.client_session.specs.Link.{Exchange, LinkView, Went, Tells, IsTold, Calls, Passed}
use Rattle.client_session.specs.Read.{HoldsIn, HoldsFor, Holds}
use Rattle.world_core.specs.declared.line.ReadLine.{ReadLine}
use Rattle.world_core.specs.declared.step.Step.{Step}
use Rattle.world_core.specs.Store.{StoreView, HasGrown}
use Rattle.world_core.specs.World.{WorldView, IsRun, IsStep, IsStepInto}

-- a run and one step more
pub run_on : (n : ℕ) (xs : List Step) (s : Step) (w m x : WorldView) (lines line : List ReadLine) → IsRun n xs w m lines → IsStep (n + length xs) s m x line → IsRun n (xs ++ s ∷ []) w x (lines ++ line)
run_on n [] s w m x lines line run step =
    let number : n + length {A = Step} [] ≡ n = omega arith in
    let here : IsStep n s m x line = subst (λ (k : ℕ). IsStep k s m x line) number step in
    let first : IsStep n s w x line = subst (λ (v : WorldView). IsStep n s v x line) run.0 here in
    (x, line, [], first, (refl, refl), ap (λ (ls : List ReadLine). ls ++ line) run.1 ∙ sym (append-nil line))
run_on n (y ∷ ys) s w m x lines line run step =
    let number : n + length (y ∷ ys) ≡ suc n + length ys = omega arith in
    let later : IsStep (suc n + length ys) s m x line = subst (λ (k : ℕ). IsStep k s m x line) number step in
    let rest = run_on (suc n) ys s run.0 m x run.2 line run.4 later in
    (run.0, run.1, run.2 ++ line, run.3, rest, ap (λ (ls : List ReadLine). ls ++ line) run.5 ∙ append_assoc run.1 run.2 line)

-- the same of the step at an index
pub run_further : (steps : List Step) (index : ℕ) → index < length steps → (s : Step) → s ≡ get_or steps index s → (n : ℕ) → (w m x : WorldView) (lines more : List ReadLine) → n ≡ index + 1
    → IsRun 1 (take index steps) w m lines → IsStepInto n s m x lines more → IsRun 1 (take (index + 1) steps) w x more
run_further steps index within s is n w m x lines more e run into =
    let many = length-take index steps in
    let number : n ≡ 1 + length (take index steps) = omega (arith, e, many, within) in
    let next : IsStep (1 + length (take index steps)) s m x into.0 = subst (λ (k : ℕ). IsStep k s m x into.0) number into.1 in
    let longer : take (index + 1) steps ≡ take index steps ++ s ∷ [] = take_more steps index s within ∙ ap (λ (y : Step). take index steps ++ y ∷ []) (sym is) in
    subst (λ (ls : List ReadLine). IsRun 1 (take (index + 1) steps) w x ls) (sym into.2)
    (subst (λ (ss : List Step). IsRun 1 ss w x (lines ++ into.0)) (sym longer) (run_on 1 (take index steps) s w m x lines into.0 run next))

-- ---- the held pages

prefix_on : (xs ys zs : List Entry) → IsPrefix xs ys → IsPrefix ys zs → IsPrefix xs zs
prefix_on xs ys zs a b = (a.0 ++ b.0, sym (append_assoc xs a.0 b.0) ∙ ap (λ (l : List Entry). l ++ b.0) a.1 ∙ b.1)

fetched_on : (g : Setting) (old longer : List Entry) (p : Page) → IsPrefix old longer → IsFetched g old p → IsFetched g longer p
fetched_on g old longer p grew f = record {
  before = f.before;
  moment = f.moment;
  begins = prefix_on (f.before ++ Fetch f.moment ∷ []) old longer f.begins grew;
  is = f.is;
}

-- a page that was fetched stays so as the history of the store grows
pub grown_holds : (s t : StoreView) (held : Option Page) → HasGrown s t → HoldsIn s.setting held s.entries → HoldsIn t.setting held t.entries
grown_holds s t None grown holds = grown.legal holds
grown_holds s t (Some p) grown holds =
    (grown.legal holds.0, subst (λ (g : Setting). IsFetched g t.entries p) (sym grown.setting) (fetched_on s.setting s.entries t.entries p grown.grew holds.1))

holds_on : (g : Setting) (held : Option Page) (old longer : List Entry) (x : Exchange) → IsTold g old longer x → HoldsIn g held old → HoldsIn g held longer
holds_on g None old longer x told holds = told.legal holds
holds_on g (Some p) old longer x told holds = (told.legal holds.0, fetched_on g old longer p told.grew holds.1)

holds_told : (g : Setting) (held : Option Page) (old new : Option (List Entry)) (x : Exchange) → Tells g old new x → HoldsFor g held old → HoldsFor g held new
holds_told g held None new x told holds = subst (λ (h : Option (List Entry)). HoldsFor g held h) (sym told) tt
holds_told g held (Some old) new x told holds = subst (λ (h : Option (List Entry)). HoldsFor g held h) (sym told.1) (holds_on g held old told.0 x told.2 holds)

pub went_holds : (v w : LinkView) (x : Exchange) (held : Option Page) → Went v w x → Holds v held → Holds w held
went_holds v w x held went holds = subst (λ (g : Setting). HoldsFor g held w.history) (sym went.setting) (holds_told v.setting held v.history w.history x went.tells holds)

-- so as calls of the link are made
pub passed_holds : {L : Type 0} (at : L → LinkView) (answers : L → Exchange → L → Type 0) (first : L) (xs : List Exchange) (last : L) → Passed (Calls at answers) first xs last
    → (held : Option Page) → Holds (at first) held → Holds (at last) held
passed_holds at answers first [] last e held holds = subst (λ l. Holds (at l) held) e holds
passed_holds at answers first (x ∷ xs) last p held holds = passed_holds at answers p.0 xs last p.2 held (went_holds (at first) (at p.0) x held p.1.1 holds)
