-- Internal. A code of each value, as steps that build it on a stack.
use Rattle.std.specs.Prelude.{◌≡◌, ℕ, zero, suc, ℤ, pos, List, [], ◌∷◌, Bool, true, false, refl}
use Rattle.std.proofs.Common.{ap, ◌∙◌}
use Rattle.std.specs.Coded.{Coded, code_by, coded×, coded_list, coded_ℕ, coded_ℤ}
use Rattle.q_doc.specs.Tree.{Tree, null, boolean, number, text, array, object, Items, no_items, item, Members, no_members, member}

-- what a step does, with the number and the text that it needs
abbrev pub Step : Type 0
Step = ℕ × (ℤ × List ℕ)

-- a step that needs neither
abbrev pub plain_step : ℕ → Step
plain_step kind = (kind, (pos 0, []))

-- the kind of the step of a truth value
abbrev pub boolean_kind : Bool → ℕ
boolean_kind false = 1
boolean_kind true = 2

-- the steps of a value, before those that follow
abbrev mutual
  -- of a value
  pub steps : Tree → List Step → List Step
  steps null rest = plain_step 0 ∷ rest
  steps (boolean b) rest = plain_step (boolean_kind b) ∷ rest
  steps (number z) rest = (3, (z, [])) ∷ rest
  steps (text s) rest = (4, (pos 0, s)) ∷ rest
  steps (array ts) rest = items_steps ts rest
  steps (object ms) rest = members_steps ms rest

  -- of an array, its last element first
  pub items_steps : Items → List Step → List Step
  items_steps no_items rest = plain_step 5 ∷ rest
  items_steps (item t ts) rest = items_steps ts (steps t (plain_step 6 ∷ rest))

  -- of an object, its last member first
  pub members_steps : Members → List Step → List Step
  members_steps no_members rest = plain_step 7 ∷ rest
  members_steps (member k t ms) rest = members_steps ms (steps t ((8, (pos 0, k)) ∷ rest))

-- an element put before the array below it
abbrev pub with_item : List Tree → List Tree
with_item (t ∷ array ts ∷ stack) = array (item t ts) ∷ stack
with_item stack = stack

-- a value put under a key before the object below it
abbrev pub with_member : List ℕ → List Tree → List Tree
with_member k (t ∷ object ms ∷ stack) = object (member k t ms) ∷ stack
with_member k stack = stack

-- the stack after a step of this kind
abbrev pub after_step : ℕ → ℤ → List ℕ → List Tree → List Tree
after_step zero z s stack = null ∷ stack
after_step (suc zero) z s stack = boolean false ∷ stack
after_step (suc (suc zero)) z s stack = boolean true ∷ stack
after_step (suc (suc (suc zero))) z s stack = number z ∷ stack
after_step (suc (suc (suc (suc zero)))) z s stack = text s ∷ stack
after_step (suc (suc (suc (suc (suc zero))))) z s stack = array no_items ∷ stack
after_step (suc (suc (suc (suc (suc (suc zero)))))) z s stack = with_item stack
after_step (suc (suc (suc (suc (suc (suc (suc zero))))))) z s stack = object no_members ∷ stack
after_step (suc (suc (suc (suc (suc (suc (suc (suc more)))))))) z s stack = with_member s stack

-- the stack after all the steps
abbrev pub built : List Step → List Tree → List Tree
built [] stack = stack
built (step ∷ rest) stack = built rest (after_step step.0 step.1.0 step.1.1 stack)

-- the value on top of the stack
abbrev pub top : List Tree → Tree
top [] = null
top (t ∷ stack) = t

mutual
  -- the steps of a value put it on the stack
  pub built-steps : (t : Tree) (rest : List Step) (stack : List Tree) → built (steps t rest) stack ≡ built rest (t ∷ stack)
  built-steps null rest stack = refl
  built-steps (boolean true) rest stack = refl
  built-steps (boolean false) rest stack = refl
  built-steps (number z) rest stack = refl
  built-steps (text s) rest stack = refl
  built-steps (array ts) rest stack = built-items_steps ts rest stack
  built-steps (object ms) rest stack = built-members_steps ms rest stack

  -- so do those of an array
  pub built-items_steps : (ts : Items) (rest : List Step) (stack : List Tree) → built (items_steps ts rest) stack ≡ built rest (array ts ∷ stack)
  built-items_steps no_items rest stack = refl
  built-items_steps (item t ts) rest stack =
      built-items_steps ts (steps t (plain_step 6 ∷ rest)) stack ∙ built-steps t (plain_step 6 ∷ rest) (array ts ∷ stack)

  -- so do those of an object
  pub built-members_steps : (ms : Members) (rest : List Step) (stack : List Tree) → built (members_steps ms rest) stack ≡ built rest (object ms ∷ stack)
  built-members_steps no_members rest stack = refl
  built-members_steps (member k t ms) rest stack =
      built-members_steps ms (steps t ((8, (pos 0, k)) ∷ rest)) stack ∙ built-steps t ((8, (pos 0, k)) ∷ rest) (object ms ∷ stack)

-- the code of a value
abbrev pub tree_code : Coded Tree
tree_code =
    code_by (List Step) (coded_list (coded× coded_ℕ (coded× coded_ℤ (coded_list coded_ℕ)))) (λ t. steps t []) (λ xs. top (built xs []))
    (λ t. ap top (built-steps t [] []))
