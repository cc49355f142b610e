-- Why a base is not begun.
use Rattle.std.proofs.Common.{◌≡◌, ℕ, List, [], Option, Err, subst, inl, inr}
use Rattle.disks.specs.Histories.{History}
use Rattle.store_base.specs.declared.refusal.BaseRefusal.{BaseRefusal}
use Rattle.store_base.specs.declared.refusal.BaseRefusal.TheVariants.{NoBase, Torn, BadNumber, BadTail, Falls, AboveHorizon, TooLong, BadChange, NoTail, BadSize, DiskFault, Memory}
use Rattle.store_base.specs.Heads.{HasNoHead, FindsHead}
use Rattle.store_base.specs.Readings.{RefusesBase}
use Rattle.store_base.specs.Windows.{WindowView, Shows}

never : (place : ℕ) (bytes : List ℕ) → HasNoHead place bytes NoBase → ⊥
never place bytes (inl n) = n
never place bytes (inr (inl t)) = t.3
never place bytes (inr (inr k)) = k.5

refuses : (bytes : List ℕ) (e : BaseRefusal) → HasNoHead 0 bytes e → RefusesBase bytes e
refuses bytes NoBase h = absurd (never 0 bytes h)
refuses bytes DiskFault h = h
refuses bytes Memory h = h
refuses bytes (Torn bad) h = h
refuses bytes (BadNumber bad) h = h
refuses bytes (BadTail bad) h = h
refuses bytes (Falls bad) h = h
refuses bytes (AboveHorizon bad) h = h
refuses bytes (TooLong bad) h = h
refuses bytes (BadChange bad) h = h
refuses bytes (NoTail bad) h = h
refuses bytes (BadSize bad) h = h

pub begin_refused : (v after : WindowView) (history : Option History) (faults : ℕ) (bytes : List ℕ) (e : BaseRefusal) → v ≡ record { history = history; faults = faults; place = 0; ahead = [] }
    → ((rest : List ℕ) → Shows v.history v.place rest → FindsHead v.place rest after (Err e)) → Shows history 0 bytes → RefusesBase bytes e
begin_refused v after history faults bytes e is found s =
    let P : WindowView → Type 0 = λ w. (rest : List ℕ) → Shows w.history w.place rest → HasNoHead w.place rest e in
    refuses bytes e (subst P is found bytes s)
