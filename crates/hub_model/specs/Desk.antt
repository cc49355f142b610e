-- Believed. What a call does to the history that its caller knows.
use Rattle.std.specs.Prelude.{◌≡◌, ℕ, List, [], ◌∷◌, ◌++◌, length}
use Rattle.std.specs.List.{enumerate_from}
use Rattle.hub_model.specs.declared.entry.Entry.{Entry}
use Rattle.hub_model.specs.Helps.{helps_of}
use Rattle.hub_model.specs.Legal.{IsLegal}
use Rattle.hub_model.specs.Reply.{Replied, reply}
use Rattle.hub_model.specs.Setting.{Setting}
use Rattle.hub_model.specs.Step.{state_of}

-- the first list is a beginning of the second
abbrev pub IsPrefix : {X : Type 0} → List X → List X → Type 0
IsPrefix {X} xs ys = (rest : List X) × (xs ++ rest ≡ ys)

-- these entries come before this one in the same call, after a history
abbrev pub IsHelped : Setting → List Entry → List Entry → Entry → Type 0
IsHelped g before helps e = helps ≡ helps_of g (state_of g before) e

-- The caller has made an entry, after all that it knew, and its answer is the reply to that entry there.
pub record Makes (g : Setting) (old new : List Entry) (mine_old mine_new : List (ℕ × Entry)) (e : Entry) (told : Replied) : Type 0 where
  -- the entries before those of this call; others may have made some of them since
  pub before : List Entry
  pub helps : List Entry
  pub grew : IsPrefix old before
  pub helped : IsHelped g before helps e
  pub seen : new ≡ (before ++ helps) ++ e ∷ []
  pub legal : IsLegal g new
  pub mine : mine_new ≡ mine_old ++ enumerate_from (length before) (helps ++ e ∷ [])
  pub told_is : told ≡ reply g (before ++ helps) e

-- The caller has made no entry, though it may know more.
pub record Learns (g : Setting) (old new : List Entry) (mine_old mine_new : List (ℕ × Entry)) : Type 0 where
  pub grew : IsPrefix old new
  pub legal : IsLegal g old → IsLegal g new
  pub mine : mine_new ≡ mine_old
