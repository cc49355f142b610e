-- What `serve` did, of the calls that it made.
use Rattle.std.proofs.Common.{◌≡◌, ℕ, Bool, true, false, List, ◌++◌, Result, Ok, Err, refl, sym, subst}
use Rattle.commit_book.specs.declared.change.Change.{Change}
use Rattle.hub_model.specs.Setting.{Setting}
use Rattle.q_outside.specs.Doors.{DoorsView}
use Rattle.q_outside.specs.Ends.{End, GaveBytes, Gave, LastEnd}
use Rattle.q_outside.proofs.Chain.{gave_both, part_behind}
use Rattle.quaestor_prog.specs.Serving.{IsThrough, guarded}
use Rattle.command_line.specs.Words.{ServeAsk}
use Rattle.quaestor_prog.specs.declared.status.Status.{Status}

-- a first part whole, and then what came of the rest
pub gave_rest : {T E : Type 0} (before mid after : End) (first rest : List ℕ) (result : Result T E) → GaveBytes before mid first → Gave mid after rest result → Gave before after (first ++ rest) result
gave_rest before mid after first rest (Ok x) g h = gave_both before mid after first rest g h
gave_rest before mid after first rest (Err e) g h = part_behind before mid after first rest g h

-- the end of the sink changes nothing
pub through_ended : {D S K C H : Type 0} (source_at : S → End) (sink_at : K → End) (ended_at : K → LastEnd) (tick : C → ℕ → C → Type 0) (stands : H → ℕ → Type 0) (may : C → Type 0) (tie : H → Type 0) (doors_at : D → DoorsView S K) (kept : List (ℕ × Change) → Type 0) (moment : ℕ) (ask : ServeAsk) (address : List ℕ) (sink sink' ended : End) (doors doors' : D) (status : Status)
    → ended ≡ sink' → IsThrough source_at sink_at ended_at tick stands may tie doors_at kept moment ask address sink sink' doors doors' status → IsThrough source_at sink_at ended_at tick stands may tie doors_at kept moment ask address sink ended doors doors' status
through_ended source_at sink_at ended_at tick stands may tie doors_at kept moment ask address sink sink' ended doors doors' status same through =
    subst (λ (s : End). IsThrough source_at sink_at ended_at tick stands may tie doors_at kept moment ask address sink s doors doors' status) (sym same) through

-- the guard does not change whether commits are kept
pub guarded_keeps : (given : Bool) (g : Setting) (moment : ℕ) → (guarded given g moment).keeps ≡ g.keeps
guarded_keeps true g moment = refl
guarded_keeps false g moment = refl
