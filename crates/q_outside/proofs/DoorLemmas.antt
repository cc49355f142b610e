-- Two spans of doors, one after the other, seen as one.
use Rattle.std.proofs.Common.{◌≡◌, ℕ, ◌+◌, List, [], ◌++◌, length, Option, Some, None, refl, arith, subst, sym, length-append}
use Rattle.q_outside.specs.declared.connections.Back.{Back}
use Rattle.q_outside.specs.Doors.{DoorsView, Counts, Passes}
use Rattle.q_outside.proofs.Chain.{Takes-nothing, Takes-append, Gives-nothing, Gives-append}

-- none came and none went
pub counts_nothing : (away : Option ℕ) → Counts away away 0 0
counts_nothing None = refl
counts_nothing (Some n) = (n, refl, refl)

-- what came and went in two spans did so in one
pub counts_both : (first middle last : Option ℕ) (g h i j : ℕ) → Counts first middle g h → Counts middle last i j → Counts first last (g + i) (h + j)
counts_both None None last g h i j c d = d
counts_both None (Some m) last g h i j c d = let e = c in cc
counts_both (Some n) None last g h i j c d = let e = c.1 in cc
counts_both (Some n) (Some m) last g h i j c d =
    let same : m ≡ c.0 = let e = c.1 in cc in
    (d.0, d.1, omega (arith, same, c.2, d.2))

module _ {S K : Type 0} where
  -- doors at which nothing happened
  pub passed_nothing : (doors : DoorsView S K) → Passes doors doors [] [] 0
  passed_nothing doors = record {
    left = Takes-nothing doors.left;
    counted = counts_nothing doors.given;
    handed_back = Gives-nothing doors.handed;
    away = counts_nothing doors.away;
    closings = omega arith;
    count = omega arith;
  }

  -- two spans of doors are one
  pub passed_both : (first middle last : DoorsView S K) (given given' : List (S × K)) (handed handed' : List (Back S K)) (m n : ℕ) → Passes first middle given handed m → Passes middle last given' handed' n → Passes first last (given ++ given') (handed ++ handed') (m + n)
  passed_both first middle last given given' handed handed' m n p q =
      let came : length (given ++ given') ≡ length given + length given' = length-append given given' in
      let went : length (handed ++ handed') ≡ length handed + length handed' = length-append handed handed' in
      let away = counts_both first.away middle.away last.away (length given) (length handed) (length given') (length handed') p.away q.away in
      record {
        left = Takes-append first.left middle.left last.left given given' p.left q.left;
        counted = subst (λ (i : ℕ). Counts first.given last.given i 0) (sym came) (counts_both first.given middle.given last.given (length given) 0 (length given') 0 p.counted q.counted);
        handed_back = Gives-append first.handed middle.handed last.handed handed handed' p.handed_back q.handed_back;
        away = subst (λ (i : ℕ). Counts first.away last.away i (length (handed ++ handed'))) (sym came) (subst (λ (j : ℕ). Counts first.away last.away (length given + length given') j) (sym went) away);
        closings = omega (arith, p.closings, q.closings);
        count = omega (arith, p.count, q.count);
      }
