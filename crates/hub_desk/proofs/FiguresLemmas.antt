-- The figures of a hub in a state, and of a desk at a seat.
use Rattle.std.proofs.Common.{◌≡◌, ap, sym, subst, ◌∙◌, List, ℕ}
use Rattle.commit_book.specs.declared.change.Change.{Change}
use Rattle.commit_book.specs.Journal.{kept}
use Rattle.hub_core.specs.HubState.{HubView, IsAt}
use Rattle.hub_model.specs.declared.entry.Entry.{Entry}
use Rattle.hub_model.specs.Setting.{Setting}
use Rattle.hub_model.specs.State.{State}
use Rattle.hub_model.specs.Step.{state_of}
use Rattle.hub_desk.specs.declared.figures.Figures.{Figures}
use Rattle.hub_desk.specs.Figures.{AreFiguresOf}

-- the kept bytes are those of the state
pub kept_at : (h : HubView) (s : State) → IsAt h s → kept h.rows h.horizon ≡ kept s.journal s.horizon
kept_at h s at = ap (λ (rows : List Change). kept rows h.horizon) at.book.rows ∙ ap (λ (n : ℕ). kept s.journal n) at.book.horizon

-- those of a value's history are those of what the desk has seen, which is the same
pub figured : (g own : Setting) (history seen : List Entry) (figures : Figures) → own ≡ g → seen ≡ history → AreFiguresOf own (state_of own history) figures → AreFiguresOf g (state_of g seen) figures
figured g own history seen figures setting same are = subst (λ (l : List Entry). AreFiguresOf g (state_of g l) figures) (sym same) (subst (λ (x : Setting). AreFiguresOf x (state_of x history) figures) setting are)
