-- Internal. How the seats that were split off are counted, by their levels.
use Rattle.std.specs.Prelude.{◌≡◌, ℕ, suc, ◌+◌, ◌<◌, ◌==◌, Bool, true, false, List, [], ◌∷◌, Option, Some}

-- the sum of a number of each element
abbrev pub total : {A : Type 0} → (A → ℕ) → List A → ℕ
total f [] = 0
total f (x ∷ xs) = f x + total f xs

-- 1 for true
abbrev pub one_if : Bool → ℕ
one_if true = 1
one_if false = 0

-- how often a number is in a list
abbrev pub occurs : ℕ → List ℕ → ℕ
occurs n [] = 0
occurs n (x ∷ xs) = one_if (n == x) + occurs n xs

-- the level of a seat: the first of the levels that its view has
abbrev pub level_of : List ℕ → ℕ
level_of [] = 0
level_of (x ∷ xs) = x

-- the first seat is among those of these levels, and with each of them all seats that were split off it: so there are no others
abbrev pub AreAll : List ℕ → List ℕ → Type 0
AreAll levels children = (n : ℕ) → occurs n levels ≡ occurs n (0 ∷ children)

-- A seat that was not joined to another has its own level, and a seat that was split off has one more than one of the seats that split.
pub record Lineage {K : Type 0} (setting : Option K) (levels children : List ℕ) : Type 0 where
  pub own : (k : K) → setting ≡ Some k → 0 < occurs (level_of levels) levels
  pub above : occurs 0 children ≡ 0
  pub next : (n : ℕ) → occurs n levels ≡ 0 → occurs (suc n) children ≡ 0

-- The first seat is among those of these levels, with all seats that were split off but for so many, and these were split off the first one.
pub record Out (count : ℕ) (levels children : List ℕ) : Type 0 where
  pub top : level_of levels ≡ 0
  pub first : occurs 0 levels ≡ 1
  pub above : occurs 0 children ≡ 0
  pub missing : occurs 1 levels + count ≡ occurs 1 children
  pub deeper : (n : ℕ) → 1 < n → occurs n levels ≡ occurs n children
