-- What a seat has once it acquired the turn and observed the history.
use Rattle.std.proofs.Common.{◌≡◌, ℕ, List, ◌∷◌, Bool, true, Option, Some, MatchBool, sym, ap, ◌∙◌, subst}
use Rattle.atomic_table.specs.Table.{Me, rest}
use Rattle.turnstile.specs.declared.view.View.{View}
use Rattle.turnstile.specs.declared.view.Phase.TheVariants.{Taken}
use Rattle.turnstile.specs.Views.{in_phase}
use Rattle.turnstile.specs.Plays.{HasAcquired, observed}

-- the value is in the slot, and stands for what was seen
pub acquired_value : {T K E : Type 0} (setting : T → K) (legal : K → List E → Type 0) (stands : T → List E → Type 0) (key : K) (m n o : Me (Option T) (View E K)) (r : ℕ) (won : Bool) → m.0.setting ≡ Some key
    → MatchBool won (HasAcquired setting legal stands m n) (n ≡ m) → won ≡ true → observed legal n r o → (x : T) × (o.1 ≡ (0, Some x) ∷ rest o.1) × stands x o.0.seen × (o.0.setting ≡ Some (setting x))
acquired_value {T} {K} {E} setting legal stands key m n o r won keyed tried is_won seen =
    let acquired : HasAcquired setting legal stands m n = subst (λ b. MatchBool b (HasAcquired setting legal stands m n) (n ≡ m)) is_won tried in
    let x : T = acquired.0 in
    let found : List E = acquired.1 in
    let is : n ≡ (in_phase (Taken found) m.0, (0, Some x) ∷ m.1) = acquired.2 in
    let slot : o.1 ≡ (0, Some x) ∷ m.1 = seen.0 ∙ ap (λ z. z.1) is in
    let all : o.0.seen ≡ found = seen.6 found (ap (λ z. z.0.phase) is) in
    let same : o.0.setting ≡ m.0.setting = ap (λ v. v.setting) seen.1 ∙ ap (λ z. z.0.setting) is in
    let stood = acquired.3 in
    let keyed_x : setting x ≡ key = (stood.1 key keyed).0 in (x, slot ∙ ap (λ cs. (0, Some x) ∷ cs) (sym (ap rest slot)), subst (λ l. stands x l) (sym all) stood.0, same ∙ (keyed ∙ ap Some (sym keyed_x)))
