-- What a page says where it is one, and what an entry of a state adds to its past.
use Rattle.std.proofs.Common.{◌≡◌, ◌≢◌, ℕ, suc, ◌+◌, Bool, if◌then◌else◌, List, [], ◌∷◌, Result, Ok, ap, sym, arith}
use Rattle.std.proofs.lemmas.Bool.{eq-eqb, ne_eqb}
use Rattle.query_normal.specs.Pages.{Page}
use Rattle.flat_snapshot.specs.declared.sight.KeyMark.{KeyMark}
use Rattle.flat_snapshot.specs.declared.read.PageRefusal.{PageRefusal}
use Rattle.flat_snapshot.specs.Reading.{read_page}
use Rattle.flat_snapshot.specs.Sight.{sight_of, sight_in}
use Rattle.client_core.specs.Floor.{Event, read, listed}
use Rattle.client_web.specs.Answer.{held_sight, sight_by}
use Rattle.client_web.specs.State.{mark_at, commit_at, flag_at, told, past_to}

-- bytes that are a page are not none
pub sight_held : (page text : List ℕ) (p : Page) → Ok p ≡ read_page page → held_sight (Ok (sight_of p text)) ≡ sight_by page text
sight_held [] text p was = absurd (let h = was in cc)
sight_held (b ∷ bytes) text p was =
    ap (λ (r : Result Page PageRefusal). held_sight (sight_in text r)) was

-- the past of one entry more
pub one_more : (text : List ℕ) (i : ℕ) → told text i (past_to text i) ≡ past_to text (i + 1)
one_more text i = let e : suc i ≡ i + 1 = omega arith in ap (past_to text) e

-- an entry of a whitelisted key
pub told_listed : (text : List ℕ) (i : ℕ) (past : List (Event KeyMark)) → flag_at text i ≡ 1 →
    listed (mark_at text i) ∷ read (mark_at text i) (commit_at text i) ∷ past ≡ told text i past
told_listed text i past flag =
    ap (λ (b : Bool). if b then listed (mark_at text i) ∷ read (mark_at text i) (commit_at text i) ∷ past else read (mark_at text i) (commit_at text i) ∷ past) (sym (eq-eqb (flag_at text i) 1 flag))

-- an entry of another key
pub told_read : (text : List ℕ) (i : ℕ) (past : List (Event KeyMark)) → flag_at text i ≢ 1 →
    read (mark_at text i) (commit_at text i) ∷ past ≡ told text i past
told_read text i past flag =
    ap (λ (b : Bool). if b then listed (mark_at text i) ∷ read (mark_at text i) (commit_at text i) ∷ past else read (mark_at text i) (commit_at text i) ∷ past) (sym (ne_eqb (flag_at text i) 1 flag))
