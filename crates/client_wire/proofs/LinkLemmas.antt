-- What a link answers and counts where a reply or a page is refused.
use Rattle.std.proofs.Common.{◌≡◌, ◌⊎◌, ℕ, false, List, sym, ◌∙◌, ap, subst, arith, inl, inr, refl}
use Rattle.std.specs.Prelude.{Some, None, Result, Err, IsErr}
use Rattle.flat_snapshot.specs.Reading.{read_page}
use Rattle.flat_snapshot.specs.declared.read.PageRefusal.{PageRefusal}
use Rattle.flat_snapshot.specs.declared.read.PageRefusal.TheVariants as no_page
use Rattle.query_normal.specs.Pages.{Page}
use Rattle.client_model.specs.declared.reply.Reply.{Reply}
use Rattle.client_session.specs.Link.{HasCounted}
use Rattle.client_session.specs.declared.ask.ClientAsk.TheVariants as ask
use Rattle.client_session.specs.declared.ask.LinkRefusal.{LinkRefusal}
use Rattle.client_session.specs.declared.last.LastReplies.{LastReplies}
use Rattle.client_wire.specs.Links.{Ends, IsBadCounted, IsCounted, IsPageAnswered, IsPageRefused, ReadsOne, view_by}

-- the counts with an answer that was refused so
abbrev HasCountedSo : Ends → ℕ → ℕ → LastReplies → LastReplies → LinkRefusal → Type 0
HasCountedSo e older newer before last refused = HasCounted (view_by e.source e.sink older before) (view_by e.source' e.sink' newer last) (Some refused)

-- a bad reply is counted, or was not since the count is at its end
pub counted_one : (e : Ends) (older bad_replies bad_replies' place : ℕ) (refused : LinkRefusal) → IsBadCounted bad_replies bad_replies' place refused
    → IsCounted e older bad_replies None → IsCounted e older bad_replies' (Some refused)
counted_one e older bad_replies bad_replies' place refused (inl (is, more)) counted before last =
    let old = counted before last in
    subst (λ (r : LinkRefusal). HasCountedSo e older bad_replies' before last r) (sym is)
    (record { faults = old.faults; bad_replies = omega (arith, old.bad_replies, more); rises = omega (arith, old.bad_replies, more) })
counted_one e older bad_replies bad_replies' place refused (inr (is, same)) counted before last =
    let old = counted before last in
    subst (λ (r : LinkRefusal). HasCountedSo e older bad_replies' before last r) (sym is)
    (record { faults = old.faults; bad_replies = omega (arith, old.bad_replies, same); rises = tt })

-- the same where bytes are no page
pub page_counted : (e : Ends) (older : ℕ) (reason : PageRefusal) (bad_replies bad_replies' : ℕ) (refused : LinkRefusal)
    → IsPageRefused reason bad_replies bad_replies' refused
    → IsCounted e older bad_replies None → IsCounted e older bad_replies' (Some refused)
page_counted e older reason bad_replies bad_replies' refused (inl (memory, is, same)) counted before last =
    let old = counted before last in
    subst (λ (r : LinkRefusal). HasCountedSo e older bad_replies' before last r) (sym is)
    (record { faults = old.faults; bad_replies = omega (arith, old.bad_replies, same); rises = tt })
page_counted e older reason bad_replies bad_replies' refused (inr (other, one)) counted before last =
    counted_one e older bad_replies bad_replies' 0 refused one counted before last

-- the bytes of a page that are none are answered as bad at 0
bad_page_answered : (e : Ends) (host : List ℕ) (reply : Reply) (bad_replies bad_replies' : ℕ) (refused : LinkRefusal)
    → IsBadCounted bad_replies bad_replies' 0 refused → reply.status ≡ 200 → IsErr (read_page reply.body)
    → ReadsOne e ask.Page host reply false → IsPageAnswered e host (Err refused)
bad_page_answered e host reply bad_replies bad_replies' refused (inl (is, more)) status_is bad reads =
    subst (λ (r : LinkRefusal). IsPageAnswered e host (Err r)) (sym is)
    (inr (record { reply = reply; reads = reads; says = (status_is, bad) }, refl))
bad_page_answered e host reply bad_replies bad_replies' refused (inr (is, same)) status_is bad reads =
    subst (λ (r : LinkRefusal). IsPageAnswered e host (Err r)) (sym is) tt

-- and so is what was read as a page and refused
pub page_answered : (e : Ends) (host : List ℕ) (reply : Reply) (bytes : List ℕ) (reason : PageRefusal) (bad_replies bad_replies' : ℕ) (refused : LinkRefusal)
    → IsPageRefused reason bad_replies bad_replies' refused → reply.status ≡ 200 → bytes ≡ reply.body
    → ◌≡◌ {A = Result Page PageRefusal} (Err reason) (Err no_page.Memory) ⊎ (Err reason ≡ read_page bytes)
    → ReadsOne e ask.Page host reply false → IsPageAnswered e host (Err refused)
page_answered e host reply bytes reason bad_replies bad_replies' refused (inl (memory, is, same)) status_is bytes_are told reads =
    subst (λ (r : LinkRefusal). IsPageAnswered e host (Err r)) (sym is) tt
page_answered e host reply bytes reason bad_replies bad_replies' refused (inr (other, one)) status_is bytes_are (inl memory) reads =
    absurd (other cc)
page_answered e host reply bytes reason bad_replies bad_replies' refused (inr (other, one)) status_is bytes_are (inr bad) reads =
    bad_page_answered e host reply bad_replies bad_replies' refused one status_is
    (subst (λ (r : Result Page PageRefusal). IsErr r) (bad ∙ ap read_page bytes_are) refl) reads
