use Rattle.std.proofs.Common.{ℕ, List, [], ◌∷◌, subst, ◌∙◌}
use Rattle.flat_snapshot.specs.declared.sight.KeyMark.{KeyMark}
use Rattle.client_core.specs.Floor.{Event, wrote, read, listed}
use Rattle.client_core.specs.Table.{HasPast}
use Rattle.client_web.specs.State.{mark_at, commit_at, past_to}
use Rattle.client_web.proofs.StateLemmas.{one_more, told_listed, told_read}
use Rattle.client_web.proofs.state.client_web_load.Goals as goal
use Rattle.client_web.proofs.state.client_web_load.Goals.{then-text-at-eq1, else-text-at-eq1}

-- the write at the floor of all keys comes first
pub loop-i-init : goal.loop-i-init
loop-i-init c =
    subst (λ (n : ℕ). HasPast c.note_write.new.self c.new.new.rows (wrote n ∷ [])) c.word_at.ensures
    (c.note_write.ensures c.new.new.rows [] c.new.ensures)

-- then what each entry tells
pub loop-i-preserved : goal.loop-i-preserved
loop-i-preserved c =
    let text = c.args.text.now in
    let i = c.loop-i.i in
    let past : List (Event KeyMark) = past_to text i in
    let was = c.note_read.ensures past c.loop-i.invariant in
    let marked = subst (λ (m : KeyMark). HasPast c.note_read.new.floors c.note_read.new.rows (read m c.word_at-in-loop-i.result ∷ past)) c.mark_at-mark.ensures was in
    let now = subst (λ (n : ℕ). HasPast c.note_read.new.floors c.note_read.new.rows (read (mark_at text i) n ∷ past)) c.word_at-in-loop-i.ensures marked in
    elim c.if-text-at-eq1.branch [
      | then-text-at-eq1 w ↦ rw (w.floors-is, w.rows-is) (subst (λ (p : List (Event KeyMark)). HasPast w.list.new.floors w.list.new.rows p) (told_listed text i past w.if-text-at-eq1.true ∙ one_more text i) (subst (λ (m : KeyMark). HasPast w.list.new.floors w.list.new.rows (listed m ∷ read (mark_at text i) (commit_at text i) ∷ past)) c.mark_at-mark.ensures (w.list.ensures (read (mark_at text i) (commit_at text i) ∷ past) now)))
      | else-text-at-eq1 w ↦ rw (w.floors-is, w.rows-is) (subst (λ (p : List (Event KeyMark)). HasPast c.note_read.new.floors c.note_read.new.rows p) (told_read text i past w.if-text-at-eq1.false ∙ one_more text i) now)
    ]
