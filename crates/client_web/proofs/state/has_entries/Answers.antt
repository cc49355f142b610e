use Rattle.std.proofs.Common.{◌≡◌, ℕ, IsTrue, sym, subst, ◌∙◌, inl, inr, arith}
use Rattle.std.proofs.lemmas.Bool.{cases_lt}
use Rattle.client_web.specs.State.{is_entry}
use Rattle.client_web.proofs.state.has_entries.Goals as goal

-- this entry is one, and those before it are
pub loop-i-preserved : goal.loop-i-preserved
loop-i-preserved c = λ j below. elim (cases_lt j c.loop-i.i) [
  | inl before ↦ c.loop-i.invariant j before
  | inr past ↦ (
      let here : j ≡ c.loop-i.i = omega (arith, below, past) in
      subst (λ (m : ℕ). IsTrue (is_entry c.args.text.now m)) (sym here) (sym c.is_entry.ensures ∙ c.if-not-is_entry.false))
]
