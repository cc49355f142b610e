-- What seats of a shared log know.
use Rattle.std.proofs.Common.{◌≡◌, ℕ, List, [], ◌++◌, append-nil, Option, ap, sym, ◌∙◌, subst, arith, append_assoc}
use mathlib.Core.List.{IsPrefix}
use Rattle.atomic_table.specs.declared.shared.Seat.{Seat}
use Rattle.turnstile.specs.declared.gate.Turnstile.{Turnstile}
use Rattle.turnstile.specs.declared.view.View.{View}
use Rattle.turnstile.specs.Seats.{seen, setting_of}
use Rattle.shared_log.specs.LogValues.{LogValueView, opened_of}
use Rattle.shared_log.specs.Notes.{LogNote, Opened}
use Rattle.shared_log.specs.Shared.{Knows, KnowsStill}
use Rattle.shared_log.proofs.NoteLemmas.{knows_on}

-- a seat that has seen more knows what it knew
knows_seat : (t : Turnstile LogValueView LogNote Opened) (old new : Seat (Option LogValueView) (View LogNote Opened)) → IsPrefix (seen old) (seen new) → KnowsStill t old new
knows_seat t old new more = record {
  more = more;
  commits = (knows_on (setting_of opened_of t) (seen old) (seen new) more).0;
  moment = (knows_on (setting_of opened_of t) (seen old) (seen new) more).1;
}

-- a seat whose turn found a history and added entries has seen more
pub prefix_then : (xs ys zs made : List LogNote) → IsPrefix xs ys → zs ≡ ys ++ made → IsPrefix xs zs
prefix_then xs ys zs made grew is = (grew.0 ++ made, sym (append_assoc xs grew.0 made) ∙ ap (λ (l : List LogNote). l ++ made) grew.1 ∙ sym is)

pub knows_then : (t : Turnstile LogValueView LogNote Opened) (old new : Seat (Option LogValueView) (View LogNote Opened)) (ys made : List LogNote) → IsPrefix (seen old) ys → seen new ≡ ys ++ made → KnowsStill t old new
knows_then t old new ys made grew is = knows_seat t old new (prefix_then (seen old) ys (seen new) made grew is)

-- what it has seen since it has seen since then
pub knows_again : (t : Turnstile LogValueView LogNote Opened) (old mid new : Seat (Option LogValueView) (View LogNote Opened)) → KnowsStill t old mid → KnowsStill t mid new → KnowsStill t old new
knows_again t old mid new first second = knows_then t old new (seen mid) second.more.0 first.more (sym second.more.1)

pub knows_same : (t : Turnstile LogValueView LogNote Opened) (s : Seat (Option LogValueView) (View LogNote Opened)) → KnowsStill t s s
knows_same t s = knows_seat t s s ([], append-nil (seen s))

-- what it knew to be stored is so by what it knows since, at the same log
pub knows_more : (t u : Turnstile LogValueView LogNote Opened) (old new : Seat (Option LogValueView) (View LogNote Opened)) (commits moment : ℕ) → t ≡ u → KnowsStill t old new → Knows u old commits moment → Knows u new commits moment
knows_more t u old new commits moment same still knows =
    let there : KnowsStill u old new = subst (λ (x : Turnstile LogValueView LogNote Opened). KnowsStill x old new) same still in
    (omega (arith, there.commits, knows.0), omega (arith, there.moment, knows.1))
