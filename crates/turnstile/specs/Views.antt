-- Internal. What a seat knows, and how the atomic steps change it.
use Rattle.std.specs.Prelude.{◌+◌, suc, List, [], ◌∷◌, ◌++◌, length, Bool, true, false, ltb, Some, None}
use Rattle.std.specs.List.{enumerate_from}
use Rattle.turnstile.specs.declared.view.View.{View}
use Rattle.turnstile.specs.Levels.{level_of}
use Rattle.turnstile.specs.declared.view.Phase.{Phase}
use Rattle.turnstile.specs.declared.view.Phase.TheVariants.{Free, Taken, Known, Told}

-- the view of the first seat, for a value of this setting
abbrev pub opening_view : {E K : Type 0} → K → View E K
opening_view key = record { phase = Free; seen = []; setting = Some key; mine = []; met = []; splits = 0; levels = 0 ∷ []; children = []; olds = [] }

-- the view in another phase
abbrev pub in_phase : {E K : Type 0} → Phase E → View E K → View E K
in_phase phase v = record { phase = phase; seen = v.seen; setting = v.setting; mine = v.mine; met = v.met; splits = v.splits; levels = v.levels; children = v.children; olds = v.olds }

-- the phase after the length of the history was read
abbrev pub after_observe : {E : Type 0} → Phase E → Phase E
after_observe Free = Free
after_observe (Taken found) = Known
after_observe Known = Known
after_observe Told = Told

-- the view after the history was seen
abbrev pub with_seen : {E K : Type 0} → List E → View E K → View E K
with_seen history v = record { phase = after_observe v.phase; seen = history; setting = v.setting; mine = v.mine; met = v.met; splits = v.splits; levels = v.levels; children = v.children; olds = v.olds }

-- the view after these entries were appended to what it had seen
abbrev pub with_entries : {E K : Type 0} → List E → View E K → View E K
with_entries made v = record { phase = Told; seen = v.seen ++ made; setting = v.setting; mine = v.mine ++ enumerate_from (length v.seen) made; met = v.met; splits = v.splits; levels = v.levels; children = v.children; olds = v.olds }

-- the view after a seat was split off
abbrev pub after_split : {E K : Type 0} → View E K → View E K
after_split v = record { phase = v.phase; seen = v.seen; setting = v.setting; mine = v.mine; met = v.met; splits = v.splits + 1; levels = v.levels; children = suc (level_of v.levels) ∷ v.children; olds = v.olds }

-- the view of the seat that is split off
abbrev pub split_view : {E K : Type 0} → View E K → View E K
split_view v = record { phase = Free; seen = v.seen; setting = v.setting; mine = []; met = []; splits = 0; levels = suc (level_of v.levels) ∷ []; children = []; olds = [] }

-- the second list where it is the longer one
abbrev pub longer_if : {E : Type 0} → Bool → List E → List E → List E
longer_if true xs ys = ys
longer_if false xs ys = xs

-- the longer of two lists
abbrev pub longer : {E : Type 0} → List E → List E → List E
longer xs ys = longer_if (ltb (length xs) (length ys)) xs ys

-- the view after another seat was joined to it
abbrev pub after_join : {E K : Type 0} → View E K → View E K → View E K
after_join v w = record { phase = Free; seen = longer v.seen w.seen; setting = v.setting; mine = v.mine; met = v.met ++ (w.mine ++ w.met); splits = v.splits; levels = v.levels ++ w.levels; children = v.children ++ w.children; olds = v.seen ∷ w.seen ∷ v.olds }

-- the view of a seat that was joined to another
abbrev pub spent_view : {E K : Type 0} → View E K
spent_view = record { phase = Free; seen = []; setting = None; mine = []; met = []; splits = 0; levels = []; children = []; olds = [] }
